use Rattle.std.proofs.Common.{◌≡◌, subst, sym, ap, ◌∙◌, arith}
use Rattle.std.specs.Prelude.{IfSome}
use Rattle.row_machine.specs.machine.Usage.{used_on}
use Rattle.rules_limits.specs.OneProject.{limit_on_pool, of_project, part_over}
use Rattle.core_totals.specs.Totals.{ArePools}
use Rattle.core_totals.proofs.Few.{few-on}
use Rattle.core_totals.proofs.Told.{pools-more}
use Rattle.core_totals.proofs.pool_totals.PoolTotals.used_beside.Goals as goal

-- where it is known
pub returns-in-Some-clause-few : goal.returns-in-Some-clause-few
returns-in-Some-clause-few c =
    let s = c.args.view.now in
    let name = c.args.name.now in
    let pool = c.view-pool.result.now in
    let is : c.in-Some.used ≡ used_on s name pool =
    subst (λ x. IfSome x (λ n. n ≡ used_on s name pool)) (sym c.in-Some.ensures) (c.requires.totals.known name pool) in
    omega (arith, few-on s name pool c.requires.whole, is)

pub returns-in-Some-clause-serves : goal.returns-in-Some-clause-serves
returns-in-Some-clause-serves c =
    let s = c.args.view.now in
    let name = c.args.name.now in
    let pool = c.view-pool.result.now in
    let is : c.in-Some.used ≡ used_on s name pool =
    subst (λ x. IfSome x (λ n. n ≡ used_on s name pool)) (sym c.in-Some.ensures) (c.requires.totals.known name pool) in
    ap (λ n. of_project (part_over n c.args.part.now) s.projects name) (is ∙ ap (used_on s name) c.view-pool.ensures.value)

-- where it is summed
pub returns-clause-few : goal.returns-clause-few
returns-clause-few c = omega (arith, few-on c.args.view.now c.args.name.now c.view-pool.result.now c.requires.whole, c.in_ok-used.ensures)

pub returns-clause-serves : goal.returns-clause-serves
returns-clause-serves c =
    let s = c.args.view.now in
    let name = c.args.name.now in
    ap (λ n. of_project (part_over n c.args.part.now) s.projects name) (c.in_ok-used.ensures ∙ ap (used_on s name) c.view-pool.ensures.value)

pub returns-clause-totals : goal.returns-clause-totals
returns-clause-totals c =
    subst (ArePools c.args.view.now) (sym c.in_ok-keep.ensures.ok)
    (pools-more c.args.view.now c.args.self.now c.args.name.now c.view-pool.result.now c.in_ok-used.used c.requires.totals c.in_ok-used.ensures)

-- where it need not be
pub returns-then-not-needs_use_of_pool-clause-serves : goal.returns-then-not-needs_use_of_pool-clause-serves
returns-then-not-needs_use_of_pool-clause-serves c =
    let s = c.args.view.now in
    let name = c.args.name.now in
    c.needs_use_of_pool.ensures c.if-not-needs_use_of_pool.true s.projects name 0 (used_on s name c.args.part.now.pool)
    (c.limit_on_pool.ensures ∙ ap (limit_on_pool s.projects name) c.view-pool.ensures.value)
