use Rattle.std.proofs.Common.{◌∙◌, ◌++◌, map, Some, ap, subst, refl, arith}
use Rattle.row_machine.specs.machine.State.{State}
use Rattle.core_judging.specs.core_reports.specs.Jobs.{IsTaken}
use Rattle.core_rows.specs.EstateView.{EstateView}
use Rattle.core_judging.specs.core_reports.specs.Turns.{shown_at}
use Rattle.core_judging.specs.core_reports.specs.Waiting.{told_by}
use Rattle.core_judging.specs.core_reports.proofs.Begun.{begun-whole, begun-silent, begun-taken}
use Rattle.core_rows.proofs.KnownTotals.{begun-totals}
use Rattle.core_rows.proofs.estate.Estate.take_job.Goals as goal

pub invariant_of-self : goal.invariant_of-self
invariant_of-self c = record {
  whole = begun-whole c.self.inside.draft.state c.begin-call.new.draft.state c.in-Some.number c.args.moment c.begin-call.result c.requires.early c.self.invariant.whole
      c.begin-call.ensures.begun;
  silent = begun-silent c.self.inside.draft.state c.begin-call.new.draft.state c.in-Some.number c.args.moment c.begin-call.result c.self.invariant.silent
      c.begin-call.ensures.begun;
  settled = c.begin-call.ensures.log;
  room = omega (arith, c.self.invariant.room, c.queue_event.ensures.capacity);
  above = omega (arith, c.self.invariant.above, c.begin-call.ensures.greatest, ap (λ (s : State). s.operations.next) c.begin-call.ensures.begun.made);
  totals = begun-totals c.self.inside.draft.state c.begin-call.new.draft.state c.in-Some.number c.args.moment c.begin-call.result c.self.inside.totals
      c.self.invariant.whole c.begin-call.ensures.begun c.self.invariant.totals;
}

pub returns : goal.returns
returns c =
    subst
    (λ (s : State). IsTaken s c.args.moment (Some (c.in-Some.number, c.begin-call.result)) c.begin-call.new.draft.state
    (map (told_by c.begin-call.new.draft.state.operations) c.queue_event.new.untold.items))
    (ap (λ (k : EstateView). k.state) c.self.view_is)
    (begun-taken c.self.inside.draft.state c.begin-call.new.draft.state c.in-Some.number c.args.moment c.begin-call.result c.self.inside.untold.items c.queue_event.new.untold.items
    (map (told_by c.begin-call.new.draft.state.operations) c.queue_event.new.untold.items)
    c.self.invariant.whole c.begin-call.ensures.begun (ap (λ (k : EstateView). k.untold) c.self.view_is ∙ c.requires.quiet)
    (c.queue_event.ensures.items ∙ ap (λ (s : State). c.self.inside.untold.items ++ shown_at s.operations c.in-Some.number c.args.moment) c.view-2.ensures) refl)
