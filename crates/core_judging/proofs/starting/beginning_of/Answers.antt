use Rattle.std.proofs.Common.{◌≡◌, ℕ, List, subst}
use Rattle.rules_limits.specs.OneProject.{share_broken}
use Rattle.core_totals.specs.Alone.{all_beside}
use Rattle.core_judging.proofs.starting.beginning_of.Goals as goal

-- of the project that the share counts for
pub returns-clause-used : goal.returns-clause-used
returns-clause-used c =
    let s = c.args.view.now in
    let used = c.in_ok-used.used in
    let share = c.in_ok-share.share in
    subst (λ (name : List ℕ). share_broken s.projects name used share ≡ share_broken s.projects name (all_beside s name share.on.pool) share)
    c.counted_project-2.ensures c.in_ok-used.ensures.serves
