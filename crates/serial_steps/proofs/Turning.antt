-- The step of the machine that a turn is.
use Rattle.std.proofs.Common.{◌≡◌, Some, refl}
use Rattle.row_machine.specs.declared.events.Answer.{Answer}
use Rattle.row_machine.specs.declared.events.Event.{Event}
use Rattle.row_machine.specs.machine.State.{State}
use Rattle.row_machine.specs.machine.Accept.{After, and_then}
use Rattle.row_machine.specs.machine.Step.{Outcome, step}

pub record IsStep (s : State) (e : Event) (outcome : Outcome) (answer : Answer) (s' : State) : Type 0 where
  pub after : After
  pub is : step s e outcome ≡ Some after
  pub answered : after.answer ≡ answer
  pub operations : s'.operations ≡ after.state.operations

-- it leaves the same operations
pub turned-step : (s : State) (e : Event) (outcome : Outcome) (answer : Answer) (s' : State) → step s e outcome ≡ Some (and_then answer s') → IsStep s e outcome answer s'
turned-step s e outcome answer s' is = record { after = and_then answer s'; is = is; answered = refl; operations = refl }
