-- What those who idle wait for. A turn that does not ring their bell leaves it as it was, so that they miss nothing.
use Rattle.std.specs.Prelude.{◌≡◌, ℕ, true, false, is_some, Some, None}
use Rattle.operations.specs.OperationTable.{live_at}
use Rattle.turnstile.specs.Bells.{is_rung}
use Rattle.turnstile.specs.declared.bells.Bell.{Bell}
use Rattle.turnstile.specs.declared.bells.Bell.TheVariants as bell
use Rattle.row_machine.specs.declared.events.Answer.{Answer}
use Rattle.row_machine.specs.declared.events.Event.{Event}
use Rattle.row_machine.specs.machine.State.{State}
use Rattle.row_machine.specs.machine.Accept.{and_then}
use Rattle.row_machine.specs.machine.Step.{Outcome, first_pending, step}
use Rattle.gates.specs.Bells.{rings_at}

-- listeners are told the same
pub record KeepsNotices (state later : State) : Type 0 where
  pub notices : later.notices ≡ state.notices
  pub next : later.next_notice ≡ state.next_notice

-- no operation has ended
abbrev pub KeepsLive : State → State → Type 0
KeepsLive state later = (number : ℕ) → is_some (live_at state.operations number) ≡ true
    → is_some (live_at later.operations number) ≡ true

-- where no operation waited for its first call, none waits now, and the server was not closed
pub record KeepsCalls (state later : State) : Type 0 where
  pub pending : first_pending state ≡ None → first_pending later ≡ None
  pub closed : later.closed ≡ state.closed

-- those who wait for this bell wait for what did not come about
abbrev pub WaitsOn : Bell → State → State → Type 0
WaitsOn bell.Events state later = KeepsNotices state later
WaitsOn bell.Ends state later = KeepsLive state later
WaitsOn bell.Calls state later = KeepsCalls state later

-- Whatever a turn brings about, those who wait for it hear their bell.
abbrev pub NothingIsMissed : Type 0
NothingIsMissed = (state later : State) (event : Event) (outcome : Outcome) (answer : Answer) (bell : Bell)
    → step state event outcome ≡ Some (and_then answer later) → is_rung (rings_at event answer) bell ≡ false
    → WaitsOn bell state later
