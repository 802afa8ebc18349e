use Rattle.std.proofs.Common.{◌≡◌, ◌+◌, ◌≤◌, ◌++◌, ◌∷◌, [], length, take, sym, ap, subst, ◌∙◌, arith}
use Rattle.std.proofs.lemmas.List.{take_all, take_more}
use Rattle.config_lists.specs.Entries.{KeysRise}
use Rattle.plain_lists.specs.Members.{Each}
use Rattle.plain_lists.proofs.Elements.{Each-none, Each-push}
use Rattle.records.specs.declared.rows.Project.{Project}
use Rattle.row_machine.specs.facts.Whole.{Rise}
use Rattle.row_readings.specs.PoolLimits.{limit_names, own_limits, all_limits}
use Rattle.row_readings.proofs.LimitedPools.{all-more, rise-all}
use Rattle.row_readings.proofs.pool_limits.PoolLimits.of_all.Goals as goal

pub loop-project-init : goal.loop-project-init
loop-project-init c = (c.new-limits.ensures.items, Each-none)

pub loop-project-preserved : goal.loop-project-preserved
loop-project-preserved c =
    let projects = c.args.projects.now in
    let i = c.loop-project.project-index in
    let p = c.project-item.result in
    let next : take (i + 1) projects ≡ take i projects ++ p ∷ [] =
    take_more projects i p c.loop-project-test.true ∙ ap (λ (q : Project). take i projects ++ q ∷ []) (sym c.project-item.is) in (
      c.in_ok-add_limits.ensures.limits ∙ ap (λ all. all ++ own_limits p) c.loop-project.invariant.0
          ∙ all-more (take i projects) p ∙ ap all_limits (sym next),
      subst (Each (λ (q : Project). KeysRise q.config)) (sym next)
          (Each-push (λ (q : Project). KeysRise q.config) c.loop-project.invariant.1 c.in_ok-add_limits.ensures.rising),
    )

pub invariant_of-result : goal.invariant_of-result
invariant_of-result c =
    let projects = c.args.projects.now in
    let i = c.loop-project.project-index in
    let past : length projects ≤ i = omega (arith, c.loop-project-test.false) in
    let whole = take_all i projects past in
    subst (Rise limit_names) (sym (c.loop-project.invariant.0 ∙ ap all_limits whole))
    (rise-all projects c.requires (subst (Each (λ (q : Project). KeysRise q.config)) whole c.loop-project.invariant.1))
