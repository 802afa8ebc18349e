-- Rules on the size of tables and rows (C1, C2), and on the number of operations (O1 to O5).
use Rattle.std.specs.Prelude.{◌+◌, ◌∷◌, ◌-◌, ◌^◌, if◌then◌else◌}
use Rattle.row_machine.specs.Words.{ℕ, nat_lt, List, [], length, min, Option, Some, None, option_and_then, codes}
use Rattle.row_machine.specs.Words.{option_map, result_err, first, first_of, ObjectKind, Status, Pending, Cancelling}
use Rattle.row_machine.specs.Words.{Success, Failure, Cancelled, CancelFault, EnterFault, Full, Spent, kept_at}
use Rattle.row_machine.specs.Words.{enter_fault, cancel_answer, most_live, number_limit, Refusal, Row, What, body_of}
use Rattle.row_machine.specs.Words.{ObjectKind as kind, Rule as rule, What as what, CancelFault as cancel_fault}
use Rattle.row_machine.specs.Estate.{State, kind_text, cap_of, no_details, on_number}
use Rattle.row_machine.specs.Readings.{status_line, of_live, claimed_instance, claimed_volume, claimed_snapshot}
use Rattle.row_machine.specs.Readings.{target_of}

abbrev pub status_text : Status → List ℕ
status_text status = (status_line status).text

-- what a cancel is refused by; an operation that is not kept is missing
abbrev pub cancel_refusal : ℕ → CancelFault → Option Refusal
cancel_refusal number cancel_fault.Unknown = None
cancel_refusal number (cancel_fault.Ended status) =
    Some (record { rule = rule.O1; details = record no_details { key = status_text status; number = number } })
cancel_refusal number cancel_fault.Fixed = Some (on_number rule.O2 number)
cancel_refusal number cancel_fault.Already = Some (on_number rule.O3 number)

-- O1: the operation has ended. O2: it cannot be cancelled. O3: it is being cancelled.
unfoldable pub cancel_broken : State → What → Option Refusal
cancel_broken state (what.Cancel op) =
    option_and_then (cancel_refusal op) (result_err (cancel_answer (kept_at state.operations op)))
cancel_broken state other = None

abbrev pub enter_refusal : EnterFault → Refusal
enter_refusal Full = on_number rule.O4 most_live
enter_refusal Spent = on_number rule.O5 number_limit

-- O4: as many operations are live as may be. O5: no number is left.
unfoldable pub entry_broken : State → Option Refusal
entry_broken state = option_map enter_refusal (enter_fault state.operations)

-- how many rows of a kind there are and are claimed; operations are no rows
abbrev pub count_of : State → ObjectKind → ℕ
count_of state kind.Project = length state.projects
count_of state kind.Profile = length state.profiles
count_of state kind.Network = length state.networks
count_of state kind.Pool = length state.pools
count_of state kind.Volume = length state.volumes + length (of_live claimed_volume state)
count_of state kind.Instance = length state.instances + length (of_live claimed_instance state)
count_of state kind.Snapshot = length state.snapshots + length (of_live claimed_snapshot state)
count_of state kind.Operation = 0

abbrev pub row_kinds : List ObjectKind
row_kinds = kind.Project ∷ kind.Profile ∷ kind.Network ∷ kind.Pool ∷ kind.Volume ∷ kind.Instance ∷ kind.Snapshot ∷ []

-- C1: there are more rows of a kind than may be, with those that live operations claim.
abbrev pub too_many : State → ObjectKind → Option Refusal
too_many state kind =
    if nat_lt (cap_of kind) (count_of state kind)
    then Some (record { rule = rule.C1; details = record no_details { kind = kind_text kind; number = cap_of kind } })
    else None

abbrev pub size_of : Row → ℕ
size_of row = length (body_of row)

abbrev pub largest_row : ℕ
largest_row = 65536

-- C2: a row is too large. The number that is told stops at the greatest one that eight bytes hold.
abbrev pub too_large : Row → Option Refusal
too_large row =
    if nat_lt largest_row (size_of row)
    then Some (record {
      rule = rule.C2;
      details =
          record no_details { kind = kind_text (target_of row).kind; number = min (size_of row) (2 ^ 64 - 1) };
    })
    else None

-- the first kind of which there are too many rows after a change, and then the first of the rows put that is too large
unfoldable pub tables_broken : State → List Row → Option Refusal
tables_broken after rows = first (first_of (too_many after) row_kinds ∷ first_of too_large rows ∷ [])
