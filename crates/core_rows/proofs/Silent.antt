-- Where no notices wait, and none was told.
use Rattle.std.proofs.Common.{◌≡◌, true, List, [], ◌∷◌, ◌++◌, map, refl, ap}
use Rattle.row_machine.specs.machine.State.{State}
use Rattle.core_judging.specs.core_reports.specs.Waiting.{IsSilent}

-- where no notices wait, none do as read over other operations
pub still-quiet : {X Y : Type 0} (f g : X → Y) (xs : List X) → map f xs ≡ [] → map g xs ≡ []
still-quiet f g [] e = refl
still-quiet f g (x ∷ xs) e = cc

-- one that waits after none is the only one
pub only-one : {X Y : Type 0} (f g : X → Y) (xs ys : List X) (x : X) → map f xs ≡ [] → ys ≡ xs ++ x ∷ []
    → map g ys ≡ g x ∷ []
only-one f g [] ys x e is = ap (map g) is
only-one f g (y ∷ xs) ys x e is = cc

-- no notices wait where none are read
pub none-wait : {X Y : Type 0} (f : X → Y) (xs : List X) → map f xs ≡ [] → xs ≡ []
none-wait f [] e = refl
none-wait f (x ∷ xs) e = cc

-- the end of the server's work tells nothing
pub closed-silent : (s : State) → IsSilent s → IsSilent (record s { closed = true })
closed-silent s h = record { notices = h.notices; next = h.next }
