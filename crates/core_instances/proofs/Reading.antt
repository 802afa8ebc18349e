-- A read as one step of the machine.
use Rattle.std.specs.Prelude.{pos, negsuc}
use Rattle.std.proofs.Common.{Option, ◌≡◌, ℕ, false, cond, List, refl, ap}
use Rattle.records.specs.declared.commands.Command.{Command}
use Rattle.records.specs.declared.commands.What.{What}
use Rattle.records.specs.declared.commands.What.TheVariants as what
use Rattle.row_machine.specs.declared.events.Answer.TheVariants as answer
use Rattle.row_machine.specs.machine.State.{State}
use Rattle.row_machine.specs.machine.Accept.{and_then}
use Rattle.row_machine.specs.machine.Plans.{plan_of}
use Rattle.row_machine.specs.machine.TableRules.{cancel_broken}
use Rattle.row_machine.specs.shown.Views.{read}
use Rattle.machine_laws.proofs.Commands.{command_of}
use Rattle.core_objects.proofs.ReadSteps.{ReadsOnly}
use Rattle.core_instances.specs.declared.ways.Way.TheVariants as way
use Rattle.core_instances.specs.Waits.{is_held}
use Rattle.core_instances.specs.Ways.{way_of}

-- each of them only reads, but for a wait that is held
reads-only : (s : State) (project : List ℕ) (expects : Option (List ℕ)) (w : What) (moment : ℕ) → way_of w ≡ way.Read → is_held s w ≡ false → ReadsOnly s (command_of project expects w) moment
unfolding plan_of cancel_broken read
reads-only s project expects what.Root moment is answered = record { plan = refl; uncancelled = refl; answers = refl }
reads-only s project expects what.Server moment is answered = record { plan = refl; uncancelled = refl; answers = refl }
reads-only s project expects (what.List of recursion) moment is answered = record { plan = refl; uncancelled = refl; answers = refl }
reads-only s project expects (what.Get of) moment is answered = record { plan = refl; uncancelled = refl; answers = refl }
reads-only s project expects (what.State of) moment is answered = record { plan = refl; uncancelled = refl; answers = refl }
reads-only s project expects (what.GetOp op) moment is answered = record { plan = refl; uncancelled = refl; answers = refl }
reads-only s project expects (what.Wait op (pos n)) moment is answered = record {
  plan = refl;
  uncancelled = refl;
  answers = ap (λ held. and_then (cond held (answer.Hold op) (answer.Reply (read s project (what.Wait op (pos n))))) s) answered;
}
reads-only s project expects (what.Wait op (negsuc n)) moment is answered = record {
  plan = refl;
  uncancelled = refl;
  answers = ap (λ held. and_then (cond held (answer.Hold op) (answer.Reply (read s project (what.Wait op (negsuc n))))) s) answered;
}
reads-only s project expects other moment is answered = cc

pub reads : (s : State) (c : Command) (moment : ℕ) → way_of c.what ≡ way.Read → is_held s c.what ≡ false → ReadsOnly s c moment
reads s c moment is answered = reads-only s c.project c.expects c.what moment is answered
