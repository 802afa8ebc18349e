-- An operation that ends is kept with its status, and one that no step ends is live after it.
use Rattle.std.proofs.Common.{◌≡◌, ◌≢◌, ℕ, ◌-◌, ◌<◌, Bool, true, false, cond, Option, Some, None, List, [], ◌∷◌, ◌++◌, length, map, refl, sym, ap, ◌∙◌, arith}
use Rattle.std.specs.List.{find}
use Rattle.std.specs.Option.{option_map, option_map_or, option_or, is_some}
use Rattle.std.proofs.lemmas.Bool.{eqb-true, eq-eqb, ne_eqb}
use Rattle.std.proofs.lemmas.List.Folds.{find-append}
use Rattle.plain_lists.specs.Members.{Each}
use Rattle.plain_lists.specs.Edits.{changed_first, dropped}
use Rattle.plain_lists.specs.Rings.{ring_push, keep_last}
use Rattle.plain_lists.proofs.Elements.{Each-drop, Each-map}
use Rattle.plain_lists.proofs.Keys.{Distinct-left, Distinct-apart}
use Rattle.plain_lists.proofs.Searches.{find-some, none-find}
use Rattle.plain_lists.proofs.EditLemmas.{find-gone, find-dropped}
use Rattle.plain_lists.proofs.RingLemmas.{ring-place}
use Rattle.operations.specs.Limits.{most_ended}
use Rattle.operations.specs.declared.operation.Operation.{Operation}
use Rattle.operations.specs.declared.operation.OpFault.{OpFault}
use Rattle.operations.specs.declared.status.Status.{Status}
use Rattle.operations.specs.OperationTable.{OperationTable, has_number, live_at, kept_at, ends}
use Rattle.operations.specs.Facts.{AreKept}

-- ---- lists

-- a look-up by what a change leaves
pub found-changed : {X : Type 0} (q p : X → Bool) (f : X → X) (xs : List X) → ((x : X) → q (f x) ≡ q x)
    → is_some (find q (changed_first p f xs)) ≡ is_some (find q xs)
found-changed q p f [] keeps = refl
found-changed {X} q p f (y ∷ ys) keeps = at (p y) (found-changed q p f ys keeps) where
  either : (b : Bool) (x z : X) (o : Option X) → is_some (cond b (Some x) o) ≡ is_some (cond b (Some z) o)
  either true x z o = refl
  either false x z o = refl

  over : (b : Bool) (x : X) (o r : Option X) → is_some o ≡ is_some r → is_some (cond b (Some x) o) ≡ is_some (cond b (Some x) r)
  over true x o r same = refl
  over false x o r same = same

  at : (b : Bool) → is_some (find q (changed_first p f ys)) ≡ is_some (find q ys)
      → is_some (find q (cond b (f y ∷ ys) (y ∷ changed_first p f ys))) ≡ is_some (cond (q y) (Some y) (find q ys))
  at true more = ap (λ b. is_some (cond b (Some (f y)) (find q ys))) (keeps y) ∙ either (q y) (f y) y (find q ys)
  at false more = over (q y) y (find q (changed_first p f ys)) (find q ys) more

-- a look-up in a map, by what it was made of
pub find-map : {X Y : Type 0} (g : X → Y) (p : X → Bool) (q : Y → Bool) (xs : List X) → ((x : X) → q (g x) ≡ p x) → find q (map g xs) ≡ option_map g (find p xs)
find-map g p q [] same = refl
find-map {X} {Y} g p q (x ∷ xs) same = ap (λ b. cond b (Some (g x)) (find q (map g xs))) (same x) ∙ at (p x) (find-map g p q xs same) where
  at : (b : Bool) → find q (map g xs) ≡ option_map g (find p xs) → cond b (Some (g x)) (find q (map g xs)) ≡ option_map g (cond b (Some x) (find p xs))
  at true more = refl
  at false more = more

-- the newest of a ring is found where no other passes
pub find-ring : {X : Type 0} (p : X → Bool) (cap : ℕ) (x : X) (xs : List X) → 0 < cap → Each (λ y. p y ≡ false) xs → p x ≡ true
    → find p (ring_push cap x xs) ≡ Some x
find-ring p cap x xs some others passes =
    ap (find p) (sym (ring-place cap x xs some))
    ∙ find-append p (keep_last (cap - 1) xs) (x ∷ [])
    ∙ ap (λ o. option_or o (find p (x ∷ []))) (none-find p (keep_last (cap - 1) xs) (Each-drop (length xs - (cap - 1)) others))
    ∙ ap (λ b. cond b (Some x) None) passes

-- ---- an end

-- the operation that ended is the one kept of its number
pub found-ended : {W : Type 0} (k : OperationTable W) (n : ℕ) (now : Status) (why : OpFault) (moment : ℕ) (o : Operation W) → AreKept k → live_at k n ≡ Some o
    → kept_at (ends n now why moment k) n ≡ Some (record o { status = now; fault = why; updated = moment })
found-ended {W} k n now why moment o h live = found where
  over : Operation W
  over = record o { status = now; fault = why; updated = moment }

  number : o.number ≡ n
  number = eqb-true o.number n (find-some (has_number n) k.live o live).1

  gone : find (has_number n) (dropped (has_number n) k.live) ≡ None
  gone = find-gone (λ (x : Operation W). x.number) (has_number n) k.live (Distinct-left (λ (x : Operation W). x.number) k.live k.ended h.numbered.distinct)
      (λ x y px py. eqb-true y.number n py ∙ sym (eqb-true x.number n px))

  others : Each (λ (x : Operation W). has_number n x ≡ false) k.ended
  others = Each-map (λ x differs. ne_eqb x.number n (λ same. differs (same ∙ sym number)))
      ((Distinct-apart (λ (x : Operation W). x.number) k.live k.ended h.numbered.distinct).at o (find-some (has_number n) k.live o live).0)

  ended_now : option_map_or (λ (x : Operation W). ring_push most_ended (record x { status = now; fault = why; updated = moment }) k.ended) (live_at k n) k.ended
      ≡ ring_push most_ended over k.ended
  ended_now = ap (λ x. option_map_or (λ (x : Operation W). ring_push most_ended (record x { status = now; fault = why; updated = moment }) k.ended) x k.ended) live

  found : kept_at (ends n now why moment k) n ≡ Some over
  found = ap (λ es. find (has_number n) (dropped (has_number n) k.live ++ es)) ended_now
      ∙ find-append (has_number n) (dropped (has_number n) k.live) (ring_push most_ended over k.ended)
      ∙ ap (λ x. option_or x (find (has_number n) (ring_push most_ended over k.ended))) gone
      ∙ find-ring (has_number n) most_ended over k.ended (omega arith) others (eq-eqb o.number n number)

pub kept-ended : {W : Type 0} (k : OperationTable W) (n : ℕ) (now : Status) (why : OpFault) (moment : ℕ) (o : Operation W) → AreKept k → live_at k n ≡ Some o
    → option_map (λ (x : Operation W). x.status) (kept_at (ends n now why moment k) n) ≡ Some now
kept-ended {W} k n now why moment o h live = ap (option_map (λ (x : Operation W). x.status)) (found-ended k n now why moment o h live)

-- an end of another number leaves an operation live
pub live-apart : {W : Type 0} (k : OperationTable W) (n m : ℕ) → n ≢ m → find (has_number n) (dropped (has_number m) k.live) ≡ live_at k n
live-apart {W} k n m differs = find-dropped (has_number m) (has_number n) k.live (λ y is. ne_eqb y.number n (λ same. differs (sym same ∙ eqb-true y.number m is)))
