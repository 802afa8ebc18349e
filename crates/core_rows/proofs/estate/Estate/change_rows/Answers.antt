use Rattle.std.proofs.Common.{length, ◌∙◌, ap, sym, subst, arith}
use Rattle.std.specs.List.{AllByRecursion}
use Rattle.record_keeper.specs.Store.{after_commit}
use Rattle.row_machine.specs.machine.Changes.{applied}
use Rattle.row_machine.specs.facts.Whole.{IsWhole}
use Rattle.machine_laws.specs.Entries.{entry_changes}
use Rattle.row_machine.specs.machine.State.{State}
use Rattle.core_judging.specs.Before.{FitsLimits}
use Rattle.core_drafts.specs.Background.{Backing}
use Rattle.machine_laws.proofs.NamesApplied.{applied-operations}
use Rattle.core_drafts.specs.Steps.{before_changes}
use Rattle.core_judging.specs.core_reports.specs.Entries.{HasEntry}
use Rattle.core_judging.specs.core_reports.specs.Waiting.{IsSilent}
use Rattle.core_rows.specs.EstateView.{EstateView}
use Rattle.core_judging.specs.core_reports.proofs.Silent.{applied-silent}
use Rattle.core_rows.proofs.Silent.{still-quiet, only-one, none-wait}
use Rattle.core_rows.proofs.Changed.{accepted-from, judged-by, refused-from, uncommitted-from, unready-from}
use Rattle.core_rows.proofs.Following.{follows-made}
use Rattle.core_rows.proofs.Judging.{entries-ready}
use Rattle.machine_laws.proofs.WholeKept.{whole-changes}
use Rattle.core_judging.specs.core_totals.specs.Totals.{AreTotals}
use Rattle.core_judging.specs.core_totals.proofs.Told.{totals-none}
use Rattle.core_rows.proofs.estate.Estate.change_rows.Goals as goal

pub returns-in_default : goal.returns-in_default
returns-in_default g c =
    unready-from c.args.self.now.state c.args.command.now c.args.moment c.args.changes c.args.notice c.self.inside.draft.state c.prepare.new.draft.state
    _ (g.R.Keeper.store c.args.keeper.now) (ap (λ (k : EstateView). k.state) c.self.view_is) c.prepare.ensures.state (still-quiet _ _ c.self.inside.untold.items (ap (λ (k : EstateView). k.untold) c.self.view_is ∙ c.requires.quiet))

pub judge-judged-requires : goal.judge-judged-requires
judge-judged-requires g c =
    subst (FitsLimits c.in-Ok.ready.before)
    (sym (c.view.ensures ∙ c.apply.ensures.state ∙ ap (λ t. applied t c.args.changes) c.prepare.ensures.state))
    c.in-Ok.ensures.limits

pub returns-in-Err : goal.returns-in-Err
returns-in-Err g c =
    refused-from c.args.self.now.state c.args.command.now c.args.moment c.args.changes c.args.notice c.self.inside.draft.state c.view.result c.roll_back.new.draft.state
    c.view-2.result.now _ c.in-Err.why c.roll_back.result (g.R.Keeper.store c.args.keeper.now)
    (ap (λ (k : EstateView). k.state) c.self.view_is) c.requires.planned
    (c.view.ensures ∙ c.apply.ensures.state ∙ ap (λ t. applied t c.args.changes) c.prepare.ensures.state)
    (c.view-2.ensures ∙ c.in-Ok.ensures.changes) (judged-by c.in-Ok.ready.before c.self.inside.draft.state c.view.result c.args.changes c.view-2.result.now (c.in-Err.ensures c.self.inside.draft.state)
    c.self.invariant.whole (c.view.ensures ∙ c.apply.ensures.state ∙ ap (λ t. applied t c.args.changes) c.prepare.ensures.state)
    (c.view-2.ensures ∙ c.in-Ok.ensures.changes) c.in-Ok.ensures.before)
    (c.roll_back.ensures.state ∙ c.apply.ensures.former ∙ ap (λ us. before_changes us c.prepare.new.draft.state) c.prepare.ensures.log ∙ c.prepare.ensures.state)
    (still-quiet _ _ c.self.inside.untold.items (ap (λ (k : EstateView). k.untold) c.self.view_is ∙ c.requires.quiet)) c.roll_back.ensures.reply

pub commit-committed-requires : goal.commit-committed-requires
commit-committed-requires g c = record {
  entries = subst (λ cs. AllByRecursion HasEntry cs) (sym c.in-Ok.ensures.changes)
      (entries-ready c.args.self.now.state c.args.command.now c.args.moment c.args.changes
      (accepted-from c.args.self.now.state c.args.command.now c.args.moment c.args.changes c.args.notice c.self.inside.draft.state c.view.result c.view-2.result.now
      c.self.invariant.whole (ap (λ (k : EstateView). k.state) c.self.view_is) c.requires.planned
      (c.view.ensures ∙ c.apply.ensures.state ∙ ap (λ t. applied t c.args.changes) c.prepare.ensures.state)
      (c.view-2.ensures ∙ c.in-Ok.ensures.changes) (judged-by c.in-Ok.ready.before c.self.inside.draft.state c.view.result c.args.changes c.view-2.result.now (c.in_default-judged.ensures c.self.inside.draft.state)
      c.self.invariant.whole (c.view.ensures ∙ c.apply.ensures.state ∙ ap (λ t. applied t c.args.changes) c.prepare.ensures.state)
      (c.view-2.ensures ∙ c.in-Ok.ensures.changes) c.in-Ok.ensures.before)));
}

pub returns-in-Err-committed : goal.returns-in-Err-committed
returns-in-Err-committed g c =
    uncommitted-from c.args.self.now.state c.args.command.now c.args.moment c.args.changes c.args.notice c.self.inside.draft.state
    c.roll_back-in-Err-committed.new.draft.state c.in-Ok.ready.changes _ c.in-Err-committed.why c.roll_back-in-Err-committed.result
    (g.R.Keeper.store c.args.keeper.now) (g.R.Keeper.store c.commit-committed.new.keeper)
    (ap (λ (k : EstateView). k.state) c.self.view_is)
    (accepted-from c.args.self.now.state c.args.command.now c.args.moment c.args.changes c.args.notice c.self.inside.draft.state c.view.result c.view-2.result.now
    c.self.invariant.whole (ap (λ (k : EstateView). k.state) c.self.view_is) c.requires.planned
    (c.view.ensures ∙ c.apply.ensures.state ∙ ap (λ t. applied t c.args.changes) c.prepare.ensures.state)
    (c.view-2.ensures ∙ c.in-Ok.ensures.changes) (judged-by c.in-Ok.ready.before c.self.inside.draft.state c.view.result c.args.changes c.view-2.result.now (c.in_default-judged.ensures c.self.inside.draft.state)
    c.self.invariant.whole (c.view.ensures ∙ c.apply.ensures.state ∙ ap (λ t. applied t c.args.changes) c.prepare.ensures.state)
    (c.view-2.ensures ∙ c.in-Ok.ensures.changes) c.in-Ok.ensures.before))
    c.in-Ok.ensures.changes c.in-Err-committed.ensures
    (c.roll_back-in-Err-committed.ensures.state ∙ c.apply.ensures.former ∙ ap (λ us. before_changes us c.prepare.new.draft.state) c.prepare.ensures.log ∙ c.prepare.ensures.state)
    (still-quiet _ _ c.self.inside.untold.items (ap (λ (k : EstateView). k.untold) c.self.view_is ∙ c.requires.quiet)) c.roll_back-in-Err-committed.ensures.reply

pub invariant_of-self-2 : goal.invariant_of-self-2
invariant_of-self-2 g c = record {
  whole = subst IsWhole
      (sym
      (c.keep_changes.ensures.state
      ∙ c.apply.ensures.state
      ∙ ap (λ t. applied t c.args.changes) (c.prepare.ensures.state ∙ ap (λ (k : EstateView). k.state) c.self.view_is)))
      (whole-changes
      (accepted-from c.args.self.now.state c.args.command.now c.args.moment c.args.changes c.args.notice c.self.inside.draft.state c.view.result c.view-2.result.now
      c.self.invariant.whole (ap (λ (k : EstateView). k.state) c.self.view_is) c.requires.planned
      (c.view.ensures ∙ c.apply.ensures.state ∙ ap (λ t. applied t c.args.changes) c.prepare.ensures.state)
      (c.view-2.ensures ∙ c.in-Ok.ensures.changes) (judged-by c.in-Ok.ready.before c.self.inside.draft.state c.view.result c.args.changes c.view-2.result.now (c.in_default-judged.ensures c.self.inside.draft.state)
      c.self.invariant.whole (c.view.ensures ∙ c.apply.ensures.state ∙ ap (λ t. applied t c.args.changes) c.prepare.ensures.state)
      (c.view-2.ensures ∙ c.in-Ok.ensures.changes) c.in-Ok.ensures.before)));
  silent = subst IsSilent (sym (c.keep_changes.ensures.state ∙ c.apply.ensures.state ∙ ap (λ t. applied t c.args.changes) c.prepare.ensures.state))
      (applied-silent c.args.changes c.self.inside.draft.state c.self.invariant.silent);
  settled = c.keep_changes.ensures.log;
  room = omega (arith, c.self.invariant.room, c.push_reserved.ensures.capacity);
  above =
      omega (
        arith,
        c.self.invariant.above,
        c.prepare.ensures.greatest,
        ap (λ (b : Backing). b.greatest) (c.keep_changes.ensures.backing ∙ c.apply.ensures.backing),
        ap (λ (s : State). s.operations.next) (c.keep_changes.ensures.state ∙ c.apply.ensures.state)
            ∙ ap (λ k. k.next) (applied-operations c.args.changes c.prepare.new.draft.state)
            ∙ ap (λ (s : State). s.operations.next) c.prepare.ensures.state,
      );
  totals = subst (AreTotals c.keep_changes.new.self.state) (sym c.forget.ensures) (totals-none c.keep_changes.new.self.state);
}

pub push_reserved-requires : goal.push_reserved-requires
push_reserved-requires g c =
    omega (arith, c.self.invariant.room, ap length (none-wait _ c.self.inside.untold.items (ap (λ (k : EstateView). k.untold) c.self.view_is ∙ c.requires.quiet)))

pub returns : goal.returns
returns g c =
    follows-made c.args.self.now.state c.args.command.now c.args.moment c.args.changes c.args.notice c.keep_changes.new.self.state _
    (g.R.Keeper.store c.args.keeper.now) (g.R.Keeper.store c.commit-committed.new.keeper)
    (accepted-from c.args.self.now.state c.args.command.now c.args.moment c.args.changes c.args.notice c.self.inside.draft.state c.view.result c.view-2.result.now
    c.self.invariant.whole (ap (λ (k : EstateView). k.state) c.self.view_is) c.requires.planned
    (c.view.ensures ∙ c.apply.ensures.state ∙ ap (λ t. applied t c.args.changes) c.prepare.ensures.state)
    (c.view-2.ensures ∙ c.in-Ok.ensures.changes) (judged-by c.in-Ok.ready.before c.self.inside.draft.state c.view.result c.args.changes c.view-2.result.now (c.in_default-judged.ensures c.self.inside.draft.state)
    c.self.invariant.whole (c.view.ensures ∙ c.apply.ensures.state ∙ ap (λ t. applied t c.args.changes) c.prepare.ensures.state)
    (c.view-2.ensures ∙ c.in-Ok.ensures.changes) c.in-Ok.ensures.before))
    c.requires.planned.notice
    (c.in_default-committed.ensures ∙ ap (λ cs. after_commit (entry_changes cs) (g.R.Keeper.store c.args.keeper.now)) c.in-Ok.ensures.changes)
    (c.keep_changes.ensures.state
    ∙ c.apply.ensures.state
    ∙ ap (λ t. applied t c.args.changes) (c.prepare.ensures.state ∙ ap (λ (k : EstateView). k.state) c.self.view_is))
    (only-one _ _ c.self.inside.untold.items _ _ (ap (λ (k : EstateView). k.untold) c.self.view_is ∙ c.requires.quiet) c.push_reserved.ensures.items)
