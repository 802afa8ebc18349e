use Rattle.std.proofs.Common.{◌≡◌, ℕ, List, [], ◌∷◌, Some, length, refl, sym, subst, ap, ◌∙◌, arith}
use Rattle.std.specs.Prelude.{slice_get}
use Rattle.plain_lists.specs.Members.{Each}
use Rattle.plain_lists.proofs.Elements.{Each-cons, Each-none}
use Rattle.row_machine.specs.machine.Usage.{loads, used_on}
use Rattle.row_readings.specs.PoolLimits.{pool_sums}
use Rattle.row_readings.specs.declared.pool_limits.PoolLimit.{PoolLimit}
use Rattle.core_totals.proofs.pool_totals.use_of_pool.Goals as goal

pub pool_uses-requires : goal.pool_uses-requires
pool_uses-requires c =
    let own = λ (l : PoolLimit). l.project ≡ c.args.project.now in
    subst (Each own) (sym c.in_ok-limit.ensures) (Each-cons own refl Each-none)

pub at-requires : goal.at-requires
at-requires c =
    let uses : c.in_ok-uses.uses ≡ used_on c.args.view.now c.args.project.now c.args.pool.now ∷ [] =
    c.in_ok-uses.ensures ∙ ap (pool_sums (loads c.args.view.now)) c.in_ok-limit.ensures in
    omega (arith, ap length uses)

pub returns : goal.returns
returns c =
    let uses : c.in_ok-uses.uses ≡ used_on c.args.view.now c.args.project.now c.args.pool.now ∷ [] =
    c.in_ok-uses.ensures ∙ ap (pool_sums (loads c.args.view.now)) c.in_ok-limit.ensures in
    let first : Some c.at.result.now ≡ Some (used_on c.args.view.now c.args.project.now c.args.pool.now) =
    sym c.at.ensures ∙ ap (λ (xs : List ℕ). slice_get xs 0) uses in
    cc
