-- Runs: steps one after the other, with their answers and the operations that ended.
use Rattle.std.specs.Prelude.{◌∷◌, ◌++◌, if◌then◌else◌}
use Rattle.row_machine.specs.Words.{ℕ, List, [], Option, Some, None, find, is_none, option_map, option_and_then}
use Rattle.row_machine.specs.Words.{filter_map, Status, has_number, live_at, Operation, Event, Answer}
use Rattle.row_machine.specs.Estate.{Task, State}
use Rattle.row_machine.specs.machine.Accept.{After}
use Rattle.row_machine.specs.machine.Step.{Outcome, step}

-- the end of an operation that was live: its number, and the status with which it is kept
abbrev pub end_of : State → Operation Task → Option (ℕ × Status)
end_of later operation =
    if is_none (live_at later.operations operation.number)
    then option_map (λ ended. (ended.number, ended.status)) (find (has_number operation.number) later.operations.ended)
    else None

abbrev pub ends_between : State → State → List (ℕ × Status)
ends_between state later = filter_map (end_of later) state.operations.live

pub record Ran : Type 0 where
  pub answers : List Answer
  pub ends : List (ℕ × Status)
  pub state : State

abbrev pub prepended : State → After → Ran → Ran
prepended state first rest = record {
  answers = first.answer ∷ rest.answers;
  ends = ends_between state first.state ++ rest.ends;
  state = rest.state;
}

-- one step after the other; none where an outcome is not possible
abbrev pub run : State → List (Event × Outcome) → Option Ran
run state [] = Some (record { answers = []; ends = []; state = state })
run state (event ∷ events) =
    option_and_then (λ first. option_map (prepended state first) (run first.state events)) (step state event.0 event.1)
