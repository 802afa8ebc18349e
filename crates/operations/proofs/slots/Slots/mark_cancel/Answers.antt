use Rattle.std.proofs.Common.{◌≡◌, Ok, refl, sym, ◌∙◌, ap, subst, arith}
use Rattle.operations.specs.declared.operation.Operation.{Operation}
use Rattle.operations.specs.OperationTable.{OperationTable, kept_at, cancel_answer}
use Rattle.operations.specs.Facts.{AreKept}
use Rattle.operations.specs.Inside.{kept_in}
use Rattle.operations.proofs.KeptLemmas.{AreKept-moved}
use Rattle.operations.proofs.SlotsLemmas.{AreSlots-changed, cancel-live, cancel-moves}
use Rattle.operations.proofs.slots.Slots.mark_cancel.Goals as goal

pub end-requires-clause-live : goal.end-requires-clause-live
end-requires-clause-live g c =
    let k = c.args.self.now in
    let kept = subst AreKept c.self.view_is c.self.invariant.kept in
    cancel-live k c.args.number c.in_ok-now.now kept (sym c.cancel_status.ensures ∙ c.in_ok-now.was)

pub set_status-requires : goal.set_status-requires
set_status-requires g c =
    let k = kept_in c.self.inside in
    let answer = ap (λ (m : OperationTable g.row.W.Denot). cancel_answer (kept_at m c.args.number)) c.self.view_is in
    cancel-live k c.args.number c.in_ok-now.now c.self.invariant.kept (answer ∙ sym c.cancel_status.ensures ∙ c.in_ok-now.was)

pub invariant_of-self : goal.invariant_of-self
invariant_of-self g c =
    let s = c.self.inside in
    let h = c.self.invariant in
    let now = c.in_ok-now.now in
    let answer = ap (λ (m : OperationTable g.row.W.Denot). cancel_answer (kept_at m c.args.number)) c.self.view_is in
    let accepted : cancel_answer (kept_at (kept_in s) c.args.number) ≡ Ok now = answer ∙ sym c.cancel_status.ensures ∙ c.in_ok-now.was in
    let there = cancel-live (kept_in s) c.args.number now h.kept accepted in
    let live = cancel-moves (kept_at (kept_in s) c.args.number) now accepted c.in_default.not-Cancelled in
    AreSlots-changed c.args.number (λ (o : Operation g.row.W.Denot). record o { status = now; updated = c.args.moment }) s _ h
    (λ o. refl) c.set_status.ensures.items (omega (arith, c.set_status.ensures.capacity)) refl refl refl
    (AreKept-moved c.args.number now c.args.moment there live c.requires h.kept)
