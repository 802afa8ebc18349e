use Rattle.std.proofs.Common.{◌≡◌, ◌+◌, Option, Some, None, cond, false, ℕ, sym, ap, ne_eqb, ◌==◌, ◌∙◌}
use Rattle.project_limits.specs.Pools.{pool_limit}
use Rattle.row_machine.specs.machine.LimitRules.{pool_limit_exceeded}
use Rattle.rules_refusals.proofs.Saying.{says-as}
use Rattle.rules_limits.proofs.one_operation.part_exceeds.Goals as goal

pub returns-in_default : goal.returns-in_default
returns-in_default c =
    let p = c.args.project.now in
    let part = c.args.part.now in
    let used = c.args.used in
    let some : (part.disk == 0) ≡ false = ne_eqb part.disk 0 c.if-part-eq0.false in
    let limit : None ≡ pool_limit p.config part.pool = c.in_default.ensures ∙ (λ i. pool_limit (c.config.ensures i) (c.view-pool.ensures.value i)) in
    ap (λ b. cond b None (pool_limit_exceeded p.name part.pool (pool_limit p.config part.pool) used (used + part.disk))) some
    ∙ ap (λ (l : Option ℕ). pool_limit_exceeded p.name part.pool l used (used + part.disk)) (sym limit)

pub returns : goal.returns
returns c =
    let p = c.args.project.now in
    let part = c.args.part.now in
    let used = c.args.used in
    let some : (part.disk == 0) ≡ false = ne_eqb part.disk 0 c.if-part-eq0.false in
    let limit : Some c.in-Some.limit ≡ pool_limit p.config part.pool = c.in-Some.ensures ∙ (λ i. pool_limit (c.config.ensures i) (c.view-pool.ensures.value i)) in
    says-as c.pool_exceeded.result
    ((λ i. pool_limit_exceeded ((c.view.ensures.value ∙ c.name.ensures) i) (c.view-pool.ensures.value i) (limit i) used (used + part.disk))
    ∙ sym (ap (λ b. cond b None (pool_limit_exceeded p.name part.pool (pool_limit p.config part.pool) used (used + part.disk))) some))
    c.pool_exceeded.ensures
