use Rattle.std.proofs.Common.{◌∙◌, ap, sym, true, false}
use Rattle.std.specs.Option.{is_some}
use Rattle.operations.specs.OperationTable.{live_at}
use Rattle.row_machine.specs.machine.State.{State}
use Rattle.core_turns.proofs.Workers.{look-comes}
use Rattle.core_turns.proofs.asking.look.Goals as goal

pub returns-then-is_live : goal.returns-then-is_live
returns-then-is_live c = λ store.
    look-comes c.args.estate.now.state c.args.number true c.args.estate.now.untold store
    (ap (λ (t : State). is_some (live_at t.operations c.args.number)) (sym c.view.ensures.state) ∙ sym c.is_live.ensures ∙ c.if-is_live.true)
    c.requires.quiet

pub returns-else-is_live : goal.returns-else-is_live
returns-else-is_live c = λ store.
    look-comes c.args.estate.now.state c.args.number false c.args.estate.now.untold store
    (ap (λ (t : State). is_some (live_at t.operations c.args.number)) (sym c.view.ensures.state) ∙ sym c.is_live.ensures ∙ c.if-is_live.false)
    c.requires.quiet
