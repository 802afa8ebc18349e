use Rattle.std.proofs.Common.{List, ◌∙◌, ap, subst}
use Rattle.operations.specs.declared.operation.Operation.{Operation}
use Rattle.operations.specs.OperationTable.{first_pending_of}
use Rattle.operations.specs.Inside.{kept_in}
use Rattle.operations.specs.Facts.{AreKept}
use Rattle.operations.proofs.KeptLemmas.{pending-found}
use Rattle.operations.proofs.slots.Slots.first_pending.Goals as goal

pub returns-clause-pending : goal.returns-clause-pending
returns-clause-pending g c =
    let s = kept_in c.self.inside in
    let lists = ap (λ (os : List (Operation g.row.W.Denot)). first_pending_of (record s { live = os })) c.deref.ensures.value in
    pending-found c.args.self.now c.pending_in.result (subst AreKept c.self.view_is c.self.invariant.kept)
    (c.pending_in.ensures ∙ lists ∙ ap first_pending_of c.self.view_is)
