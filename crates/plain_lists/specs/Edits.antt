use Rattle.std.specs.Prelude.{◌≡◌, Bool, true, false, List, [], ◌∷◌, if◌then◌else◌}
use Rattle.std.specs.List.{list_any}
use Rattle.plain_lists.specs.Members.{Each}
use Rattle.plain_lists.specs.Puts.{Puts}

-- the list with f of the first element that passes the test in its place
abbrev pub changed_first : {X : Type 0} → (X → Bool) → (X → X) → List X → List X
changed_first test f [] = []
changed_first test f (item ∷ rest) = if test item then f item ∷ rest else item ∷ changed_first test f rest

-- the list without the first element that passes the test
abbrev pub dropped : {X : Type 0} → (X → Bool) → List X → List X
dropped test [] = []
dropped test (item ∷ rest) = if test item then rest else item ∷ dropped test rest

-- the list with the item in front of the first element that it goes before, or else at the end
abbrev pub inserted : {X : Type 0} → (X → Bool) → X → List X → List X
inserted before item [] = item ∷ []
inserted before item (other ∷ rest) = if before other then item ∷ other ∷ rest else other ∷ inserted before item rest

-- the list with the item in place of the first element that passes the test; where none does, with the item at its
-- place in the order
abbrev pub replaced : {X : Type 0} → (X → Bool) → (X → Bool) → X → List X → List X
replaced test before item items =
    if list_any test items then changed_first test (λ _. item) items else inserted before item items

-- the list after is the one before with the item put in as new, or put in place of one that passes the test
pub data Replaces {X : Type 0} (test : X → Bool) (item : X) (before after : List X) : Type 0 where
  new : Each (λ other. test other ≡ false) before → Puts item before after → Replaces test item before after
  instead : (old : X) (base : List X) → test old ≡ true → Puts old base before → Puts item base after
      → Replaces test item before after
