-- What an accepted command makes of the state, and what it is answered.
use Rattle.std.specs.Prelude.{◌==◌, ◌&&◌, if◌then◌else◌}
use Rattle.row_machine.specs.Words.{ℕ, Bool, false, not, Result, Ok, Err, ℤ, pos, negsuc, is_some, option_map_or}
use Rattle.row_machine.specs.Words.{Status, CancelFault, kept_at, live_at, cancel_answer, Command, What, Reply}
use Rattle.row_machine.specs.Words.{Status as status, What as what, Reply as reply, Answer, Answer as answer}
use Rattle.row_machine.specs.Estate.{Task, State}
use Rattle.row_machine.specs.Readings.{applied}
use Rattle.row_machine.specs.Doings.{Plan, nothing, changes, starts, plan_of, entered, moved, cancelled, telling}
use Rattle.row_machine.specs.Doings.{change_notices, operation_notice, view_of, read}

pub record After : Type 0 where
  pub answer : Answer
  pub state : State

abbrev pub and_then : Answer → State → After
and_then answer state = record { answer = answer; state = state }

-- the state after an operation took another status, with the notice of it
abbrev pub with_operation_notice : State → ℕ → ℕ → State
with_operation_notice state number moment = telling (operation_notice state number moment) state

abbrev pub started : State → ℕ → Reply
started state number =
    option_map_or (λ operation. reply.Started (view_of operation)) (kept_at state.operations number) reply.Empty

-- it is entered under the next number, and shown as it waits
abbrev pub begun : State → Task → ℕ → After
begun state task moment =
    and_then (answer.Reply (started after state.operations.next))
    (with_operation_notice after state.operations.next moment) where
      after : State
      after = entered state task moment

-- one that waits is cancelled at once, one that runs becomes Cancelling
abbrev pub after_cancel : State → ℕ → ℕ → Result Status CancelFault → State
after_cancel state number moment (Err why) = state
after_cancel state number moment (Ok status.Cancelled) =
    with_operation_notice (cancelled state number moment) number moment
after_cancel state number moment (Ok now) = with_operation_notice (moved number now moment state) number moment

abbrev pub cancel : State → ℕ → ℕ → After
cancel state number moment =
    and_then (answer.Reply reply.Empty)
    (after_cancel state number moment (cancel_answer (kept_at state.operations number)))

-- a wait for a live operation holds, unless its timeout is 0
abbrev pub wait_or_read : State → Command → What → Answer
wait_or_read state command (what.Wait op timeout) =
    if is_some (live_at state.operations op) && not (is_zero timeout)
    then answer.Hold op
    else answer.Reply (read state command.project command.what) where
      is_zero : ℤ → Bool
      is_zero (pos n) = n == 0
      is_zero (negsuc n) = false
wait_or_read state command other = answer.Reply (read state command.project command.what)

-- a command that changes no row and begins nothing
abbrev pub cancel_or_read : State → Command → ℕ → What → After
cancel_or_read state command moment (what.Cancel op) = cancel state op moment
cancel_or_read state command moment other = and_then (wait_or_read state command other) state

abbrev pub carried_out : State → Command → ℕ → Plan → After
carried_out state command moment nothing = cancel_or_read state command moment command.what
carried_out state command moment (changes row_changes) =
    and_then (answer.Reply reply.Empty) (telling (change_notices state command moment) (applied state row_changes))
carried_out state command moment (starts task) = begun state task moment

-- what a command that breaks no rule makes of the state, and what it is answered
unfoldable pub accepted : State → Command → ℕ → After
accepted state command moment = carried_out state command moment (plan_of state command moment)
