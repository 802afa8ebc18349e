use Rattle.std.proofs.Common.{true, ◌∙◌, ap, sym, subst, arith}
use Rattle.core_drafts.specs.Background.{Backing}
use Rattle.row_machine.specs.machine.State.{State}
use Rattle.row_machine.specs.facts.Whole.{IsWhole}
use Rattle.machine_laws.proofs.ChangeKinds.{closing-keeps}
use Rattle.core_judging.specs.core_reports.specs.Waiting.{IsSilent}
use Rattle.core_rows.specs.EstateView.{EstateView}
use Rattle.core_rows.proofs.Silent.{still-quiet, closed-silent}
use Rattle.core_rows.proofs.KnownTotals.{closed-totals}
use Rattle.core_rows.proofs.estate.Estate.close.Goals as goal

pub invariant_of-self : goal.invariant_of-self
invariant_of-self c = record {
  whole = subst IsWhole (sym c.close.ensures.state) (closing-keeps c.self.inside.draft.state c.self.invariant.whole);
  silent = subst IsSilent (sym c.close.ensures.state) (closed-silent c.self.inside.draft.state c.self.invariant.silent);
  settled = c.close.ensures.log;
  room = c.self.invariant.room;
  above =
      omega (
        arith,
        c.self.invariant.above,
        ap (λ (b : Backing). b.greatest) c.close.ensures.backing,
        ap (λ (s : State). s.operations.next) c.close.ensures.state,
      );
  totals = closed-totals c.self.inside.draft.state _ c.self.inside.totals c.close.ensures.state c.self.invariant.totals;
}

pub returns-clause-state : goal.returns-clause-state
returns-clause-state c =
    c.close.ensures.state ∙ ap (λ (s : State). record s { closed = true }) (ap (λ (k : EstateView). k.state) c.self.view_is)

pub returns-clause-untold : goal.returns-clause-untold
returns-clause-untold c =
    still-quiet _ _ c.self.inside.untold.items (ap (λ (k : EstateView). k.untold) c.self.view_is ∙ c.requires.quiet)
