use Rattle.std.specs.Prelude.{ℕ, ◌+◌, ◌==◌, nat_lt, Bool, Option, Some, None, Result, Ok, Err, List, [], ◌∷◌, ◌++◌}
use Rattle.std.specs.Prelude.{length, if◌then◌else◌}
use Rattle.std.specs.List.{find}
use Rattle.std.specs.Option.{option_map, option_map_or}
use Rattle.plain_lists.specs.Edits.{changed_first, dropped, inserted}
use Rattle.plain_lists.specs.Rings.{ring_push}
use Rattle.operations.specs.Limits.{most_live, most_ended, number_limit}
use Rattle.operations.specs.declared.operation.Operation.{Operation}
use Rattle.operations.specs.declared.operation.OpFault.{OpFault}
use Rattle.operations.specs.declared.operation.OpFault.TheVariants as fault
use Rattle.operations.specs.declared.status.Status.{Status}
use Rattle.operations.specs.declared.status.Status.TheVariants as status
use Rattle.operations.specs.declared.faults.EnterFault.{EnterFault}
use Rattle.operations.specs.declared.faults.EnterFault.TheVariants.{Full, Spent}
use Rattle.operations.specs.declared.faults.CancelFault.{CancelFault}
use Rattle.operations.specs.declared.faults.CancelFault.TheVariants.{Unknown}
use Rattle.operations.specs.Statuses.{is_pending, cancel_of}

-- the kept operations: those that live, in the order of their numbers; the last that ended, in the order of their
-- ends; and the number that the next one gets
pub record OperationTable (W : Type 0) : Type 0 where
  pub live : List (Operation W)
  pub ended : List (Operation W)
  pub next : ℕ

-- nothing was entered yet
abbrev pub no_operations : {W : Type 0} → OperationTable W
no_operations = record { live = []; ended = []; next = 1 }

-- whether it is the operation of this number
abbrev pub has_number : {W : Type 0} → ℕ → Operation W → Bool
has_number number operation = operation.number == number

-- the live operation of this number
abbrev pub live_at : {W : Type 0} → OperationTable W → ℕ → Option (Operation W)
live_at kept number = find (has_number number) kept.live

-- the operation of this number, live or ended
abbrev pub kept_at : {W : Type 0} → OperationTable W → ℕ → Option (Operation W)
kept_at kept number = find (has_number number) (kept.live ++ kept.ended)

-- the status of the live operation of this number
abbrev pub live_status : {W : Type 0} → OperationTable W → ℕ → Option Status
live_status kept number = option_map (λ operation. operation.status) (live_at kept number)

-- the lowest number of those that wait for their first call
abbrev pub first_pending_of : {W : Type 0} → OperationTable W → Option ℕ
first_pending_of kept =
    option_map (λ operation. operation.number) (find (λ operation. is_pending operation.status) kept.live)

-- the operations in the order of their numbers
abbrev pub by_number : {W : Type 0} → List (Operation W) → List (Operation W)
by_number [] = []
by_number (operation ∷ rest) = inserted (λ other. nat_lt operation.number other.number) operation (by_number rest)

-- why nothing may be entered
abbrev pub enter_fault : {W : Type 0} → OperationTable W → Option EnterFault
enter_fault kept =
    if length kept.live == most_live then Some Full
    else if kept.next == number_limit then Some Spent
    else None

-- the number of the operation that is entered, or the work given back with the reason
abbrev pub enter_answer : {W : Type 0} → OperationTable W → W → Result ℕ (W × EnterFault)
enter_answer kept work = option_map_or (λ why. Err (work, why)) (enter_fault kept) (Ok kept.next)

-- one more operation, which waits for its first call
abbrev pub entered : {W : Type 0} → Bool → W → ℕ → OperationTable W → OperationTable W
entered may_cancel work moment kept =
    record kept {
      live = kept.live ++ record {
        number = kept.next;
        created = moment;
        updated = moment;
        status = status.Pending;
        may_cancel = may_cancel;
        fault = fault.None;
        work = work;
      } ∷ [];
      next = kept.next + 1;
    }

-- as it is after a call to enter: with one more operation, or as it was
abbrev pub after_enter : {W : Type 0} → Bool → W → ℕ → OperationTable W → OperationTable W
after_enter may_cancel work moment kept =
    option_map_or (λ why. kept) (enter_fault kept) (entered may_cancel work moment kept)

-- the live operation of this number has another work, and nothing else changed
abbrev pub with_work : {W : Type 0} → ℕ → W → OperationTable W → OperationTable W
with_work number work kept =
    record kept { live = changed_first (has_number number) (λ operation. record operation { work = work }) kept.live }

-- the live operation of this number has another status, since this moment
abbrev pub moved : {W : Type 0} → ℕ → Status → ℕ → OperationTable W → OperationTable W
moved number now moment kept =
    record kept {
      live = changed_first (has_number number)
          (λ operation. record operation { status = now; updated = moment }) kept.live;
    }

-- The live operation of this number ended, with this status and fault, at this moment. The oldest ended one goes
-- where there would be too many.
abbrev pub ends : {W : Type 0} → ℕ → Status → OpFault → ℕ → OperationTable W → OperationTable W
ends number now why moment kept =
    record kept {
      live = dropped (has_number number) kept.live;
      ended = option_map_or
          (λ operation.
          ring_push most_ended (record operation { status = now; fault = why; updated = moment }) kept.ended)
          (live_at kept number)
          kept.ended;
    }

-- what a cancel answers, by the operation of its number
abbrev pub cancel_answer : {W : Type 0} → Option (Operation W) → Result Status CancelFault
cancel_answer None = Err Unknown
cancel_answer (Some operation) = cancel_of operation.may_cancel operation.status

-- as it is after a cancel with this answer: a refused one changes nothing
abbrev pub after_cancel : {W : Type 0} → ℕ → ℕ → Result Status CancelFault → OperationTable W → OperationTable W
after_cancel number moment (Err why) kept = kept
after_cancel number moment (Ok status.Cancelled) kept = ends number status.Cancelled fault.None moment kept
after_cancel number moment (Ok now) kept = moved number now moment kept
