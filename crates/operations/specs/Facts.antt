use Rattle.std.specs.Prelude.{◌≡◌, ℕ, ◌<◌, ◌≤◌, true, false, List, [], ◌∷◌, ◌++◌, length}
use Rattle.plain_lists.specs.Members.{Each, Distinct}
use Rattle.size_values.specs.Moments.{moment_limit}
use Rattle.operations.specs.Limits.{most_live, most_ended, number_limit}
use Rattle.operations.specs.declared.operation.Operation.{Operation}
use Rattle.operations.specs.Statuses.{is_live}
use Rattle.operations.specs.OperationTable.{OperationTable}

-- the operations stand in the order of their numbers
abbrev pub AreInOrder : {W : Type 0} → List (Operation W) → Type 0
AreInOrder [] = Unit {0}
AreInOrder (operation ∷ rest) = Each (λ later. operation.number < later.number) rest × AreInOrder rest

-- the operations have numbers of their own from 1 on, all below the next one, and their moments are moments
pub record AreNumbered {W : Type 0} (operations : List (Operation W)) (next : ℕ) : Type 0 where
  pub distinct : Distinct (λ (operation : Operation W). operation.number) operations
  pub from_one : Each (λ (operation : Operation W). 1 ≤ operation.number) operations
  pub below_next : Each (λ (operation : Operation W). operation.number < next) operations
  pub moments :
      Each (λ (operation : Operation W). (operation.created < moment_limit) × (operation.updated < moment_limit))
      operations

-- what is true of the kept operations at all times
pub record AreKept {W : Type 0} (kept : OperationTable W) : Type 0 where
  pub all_live : Each (λ (operation : Operation W). is_live operation.status ≡ true) kept.live
  pub all_ended : Each (λ (operation : Operation W). is_live operation.status ≡ false) kept.ended
  pub in_order : AreInOrder kept.live
  pub numbered : AreNumbered (kept.live ++ kept.ended) kept.next
  pub next_from_one : 1 ≤ kept.next
  pub next_limit : kept.next ≤ number_limit
  pub few_live : length kept.live ≤ most_live
  pub few_ended : length kept.ended ≤ most_ended
