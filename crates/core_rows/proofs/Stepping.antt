-- The step of a request that makes changes at once, of one that is refused, and of one without memory.
use Rattle.std.proofs.Common.{◌≡◌, ℕ, Option, Some, None, List, refl, ◌∙◌, ap}
use Rattle.size_values.specs.declared.rise.Rise.{Rise}
use Rattle.records.specs.declared.refusals.Rule.TheVariants as rule
use Rattle.records.specs.declared.refusals.Refusal.{Refusal}
use Rattle.records.specs.declared.replies.Reply.TheVariants as reply
use Rattle.records.specs.declared.commands.Command.{Command}
use Rattle.row_machine.specs.declared.changes.RowChange.{RowChange}
use Rattle.row_machine.specs.declared.events.Event.TheVariants as event
use Rattle.row_machine.specs.declared.events.Answer.TheVariants as answer
use Rattle.row_machine.specs.machine.State.{State}
use Rattle.row_machine.specs.machine.Changes.{applied}
use Rattle.row_machine.specs.machine.Refusals.{plain_refusal}
use Rattle.row_machine.specs.machine.Plans.{changes, plan_of}
use Rattle.row_machine.specs.machine.Rules.{broken}
use Rattle.row_machine.specs.shown.Notices.{telling, change_notices}
use Rattle.row_machine.specs.machine.Accept.{and_then, accepted, carried_out}
use Rattle.row_machine.specs.machine.Step.{well, keeper_failed, no_memory, after_command, unavailable, step}

-- a request that breaks no rule and makes changes at once
pub changes-step : (s : State) (c : Command) (moment : ℕ) (cs : List RowChange) → plan_of s c moment ≡ changes cs → broken s c moment ≡ None
    → step s (event.Ask c moment) well ≡ Some (and_then (answer.Reply reply.Empty) (telling (change_notices s c moment) (applied s cs)))
unfolding step accepted
changes-step s c moment cs plan unbroken = ap (after_command s c moment well) unbroken ∙ ap (λ p. Some (carried_out s c moment p)) plan

-- a request that breaks a rule
pub refused-step : (s : State) (c : Command) (moment : ℕ) (r : Refusal) → broken s c moment ≡ Some r
    → step s (event.Ask c moment) well ≡ Some (and_then (answer.Reply (reply.Refused r)) s)
unfolding step
refused-step s c moment r is = ap (after_command s c moment well) is

-- the store failed
pub failed-step : (s : State) (c : Command) (moment : ℕ) (cs : List RowChange) (rise : Rise) → plan_of s c moment ≡ changes cs → broken s c moment ≡ None
    → step s (event.Ask c moment) (keeper_failed rise) ≡ Some (and_then (answer.Reply (reply.Refused (plain_refusal rule.K1))) s)
unfolding step
failed-step s c moment cs rise plan unbroken = ap (after_command s c moment (keeper_failed rise)) unbroken ∙ ap (unavailable s) plan

-- memory was refused
pub no_memory-step : (s : State) (c : Command) (moment : ℕ) → step s (event.Ask c moment) no_memory ≡ Some (and_then answer.NoMemory s)
unfolding step
no_memory-step s c moment = at (broken s c moment) where
  at : (o : Option Refusal) → after_command s c moment no_memory o ≡ Some (and_then answer.NoMemory s)
  at None = refl
  at (Some r) = refl
