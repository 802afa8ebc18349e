use Rattle.std.specs.Prelude.{◌≡◌, ℕ, ◌+◌, ◌≤◌, nat_lt, List, [], ◌∷◌, ◌++◌, map, vec_capacity}
use Rattle.plain_lists.specs.Edits.{inserted}
use Rattle.operations.specs.Limits.{most_live, most_ended}
use Rattle.operations.specs.declared.operation.Operation.{Operation}
use Rattle.operations.specs.declared.slots.Slots.TheInside.{Inside}
use Rattle.operations.specs.OperationTable.{OperationTable}
use Rattle.operations.specs.Facts.{AreKept}

-- the numbers in rising order
abbrev pub rising : List ℕ → List ℕ
rising [] = []
rising (number ∷ rest) = inserted (λ other. nat_lt number other) number (rising rest)

-- the numbers of the operations, in rising order
abbrev pub numbers_of : {W : Type 0} → List (Operation W) → List ℕ
numbers_of operations = rising (map (λ operation. operation.number) operations)

-- what contracts see
abbrev pub kept_in : {W : Type 0} → Inside W → OperationTable W
kept_in slots = record { live = slots.live.items; ended = slots.ended.items; next = slots.next }

-- the index lists the numbers of all, and there is room for all that may come
pub record AreSlots {W : Type 0} (slots : Inside W) : Type 0 where
  pub kept : AreKept (kept_in slots)
  pub listed : slots.numbers.items ≡ numbers_of (slots.live.items ++ slots.ended.items)
  pub live_room : most_live ≤ vec_capacity slots.live
  pub ended_room : most_ended ≤ vec_capacity slots.ended
  pub numbers_room : most_live + most_ended ≤ vec_capacity slots.numbers
