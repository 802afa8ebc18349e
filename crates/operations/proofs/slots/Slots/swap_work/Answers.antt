use Rattle.std.proofs.Common.{IsSome, refl, sym, subst, arith}
use Rattle.operations.specs.declared.operation.Operation.{Operation}
use Rattle.operations.specs.OperationTable.{OperationTable, live_at}
use Rattle.operations.specs.Inside.{kept_in}
use Rattle.operations.proofs.KeptLemmas.{AreKept-with_work}
use Rattle.operations.proofs.SlotsLemmas.{AreSlots-changed}
use Rattle.operations.proofs.slots.Slots.swap_work.Goals as goal

pub invariant_of-self : goal.invariant_of-self
invariant_of-self g c =
    let s = c.self.inside in
    let h = c.self.invariant in
    let there : IsSome (live_at (kept_in s) c.args.number) =
    subst (λ (k : OperationTable g.row.W.Denot). IsSome (live_at k c.args.number)) (sym c.self.view_is) c.requires in
    AreSlots-changed c.args.number (λ (o : Operation g.row.W.Denot). record o { work = c.args.work }) s _ h
    (λ o. refl) c.swap_in.ensures.items (omega (arith, c.swap_in.ensures.capacity)) refl refl refl
    (AreKept-with_work c.args.number c.args.work there h.kept)
