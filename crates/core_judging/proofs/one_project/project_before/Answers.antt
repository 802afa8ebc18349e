use Rattle.std.proofs.Common.{◌≡◌, sym, subst, ap, ◌∙◌}
use Rattle.plain_lists.specs.Members.{Each}
use Rattle.row_machine.specs.machine.Changes.{applied}
use Rattle.row_readings.specs.declared.pool_limits.PoolLimit.{PoolLimit}
use Rattle.rules_limits.specs.Limited.{limits_named, pools_named}
use Rattle.core_judging.proofs.Limits.{each-named}
use Rattle.core_judging.proofs.one_project.project_before.Goals as goal

pub use_before-requires : goal.use_before-requires
use_before-requires c =
    let later = applied c.args.view.now c.args.changes.now in
    subst (Each (λ (l : PoolLimit). l.project ≡ c.args.project.now)) (sym c.in_ok-pools.ensures) (each-named later.projects c.args.project.now)

pub returns-clause-fits : goal.returns-clause-fits
returns-clause-fits c =
    let later = applied c.args.view.now c.args.changes.now in
    record {
      limits = c.limits_after-limits.ensures ∙ ap (limits_named later.projects) (sym c.in_ok-name.ensures);
      pools = c.in_ok-pools.ensures ∙ ap (pools_named later.projects) (sym c.in_ok-name.ensures);
      lines = c.in_ok-used.ensures.lines;
    }

pub returns-clause-used : goal.returns-clause-used
returns-clause-used c = c.in_ok-used.ensures.knows (applied c.args.view.now c.args.changes.now) c.limits_after-limits.ensures c.in_ok-pools.ensures
