use Rattle.std.proofs.Common.{List, ◌∙◌, ap, subst}
use Rattle.operations.specs.declared.operation.Operation.{Operation}
use Rattle.operations.specs.OperationTable.{OperationTable, kept_at}
use Rattle.operations.specs.Inside.{kept_in}
use Rattle.operations.specs.Facts.{AreKept}
use Rattle.operations.proofs.KeptLemmas.{live-found}
use Rattle.operations.proofs.slots.Slots.get.Goals as goal

pub returns-clause-live : goal.returns-clause-live
returns-clause-live g c =
    let s = kept_in c.self.inside in
    let live = ap (λ (os : List (Operation g.row.W.Denot)). kept_at (record s { live = os; ended = c.deref-2.result.now }) c.args.number) c.deref.ensures.value in
    let ended = ap (λ (os : List (Operation g.row.W.Denot)). kept_at (record s { ended = os }) c.args.number) c.deref-2.ensures.value in
    live-found c.args.self.now c.args.number c.found_in.result (subst AreKept c.self.view_is c.self.invariant.kept)
    (c.found_in.ensures ∙ live ∙ ended ∙ ap (λ (k : OperationTable g.row.W.Denot). kept_at k c.args.number) c.self.view_is)
