use Rattle.std.proofs.Common.{IsSome, refl, ◌∙◌, ap, arith}
use Rattle.operations.specs.declared.operation.Operation.{Operation}
use Rattle.operations.specs.declared.status.Status.TheVariants as status
use Rattle.operations.specs.OperationTable.{live_at, live_status}
use Rattle.operations.specs.Inside.{kept_in}
use Rattle.operations.proofs.KeptLemmas.{AreKept-moved}
use Rattle.operations.proofs.SlotsLemmas.{AreSlots-changed, live-status}
use Rattle.operations.proofs.slots.Slots.begin.Goals as goal

pub invariant_of-self : goal.invariant_of-self
invariant_of-self g c =
    let s = c.self.inside in
    let h = c.self.invariant in
    let there : IsSome (live_at (kept_in s) c.args.number) =
    live-status (kept_in s) c.args.number status.Pending
    (ap (λ k. live_status k c.args.number) c.self.view_is ∙ c.requires.pending) in
    AreSlots-changed c.args.number (λ (o : Operation g.row.W.Denot). record o { status = status.Running; updated = c.args.moment }) s _ h
    (λ o. refl) c.set_status.ensures.items (omega (arith, c.set_status.ensures.capacity)) refl refl refl
    (AreKept-moved c.args.number status.Running c.args.moment there refl c.requires.moment h.kept)
