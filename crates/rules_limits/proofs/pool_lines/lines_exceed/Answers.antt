use Rattle.std.proofs.Common.{◌≤◌, get_or, length, sym, ap, ◌∙◌, arith}
use Rattle.std.proofs.lemmas.List.{take_all}
use Rattle.plain_lists.specs.Firsts.{first_of}
use Rattle.rules_refusals.proofs.Saying.{refuses-here, free-next}
use Rattle.rules_limits.specs.Pools.{pool_lines, pool_line_over}
use Rattle.rules_limits.proofs.PoolTables.{pool-lines-length, pool-line-is}
use Rattle.rules_limits.proofs.pool_lines.lines_exceed.Goals as goal

pub returns-in-Err : goal.returns-in-Err
returns-in-Err c =
    let limits = c.args.limits.now in
    let before = c.args.before.now in
    let after = c.args.after.now in
    let i = c.loop-place.place in
    let l = c.index-limits-place.result in
    refuses-here pool_line_over (pool_lines limits before after) i (l, (get_or before i 0, get_or after i 0)) c.in-Err.why
    (omega (arith, c.loop-place-test.true, pool-lines-length limits before after c.requires.before c.requires.after))
    (pool-line-is limits before after c.requires.before c.requires.after i l c.loop-place-test.true c.index-limits-place.is)
    c.loop-place.invariant c.in-Err.ensures

pub loop-place-preserved : goal.loop-place-preserved
loop-place-preserved c =
    let limits = c.args.limits.now in
    let before = c.args.before.now in
    let after = c.args.after.now in
    let i = c.loop-place.place in
    let l = c.index-limits-place.result in
    free-next pool_line_over (pool_lines limits before after) i (l, (get_or before i 0, get_or after i 0))
    (omega (arith, c.loop-place-test.true, pool-lines-length limits before after c.requires.before c.requires.after))
    (pool-line-is limits before after c.requires.before c.requires.after i l c.loop-place-test.true c.index-limits-place.is)
    c.loop-place.invariant c.in_default.ensures

pub returns : goal.returns
returns c =
    let all = pool_lines c.args.limits.now c.args.before.now c.args.after.now in
    let passed : length all ≤ c.loop-place.place = omega (arith, c.loop-place-test.false, pool-lines-length c.args.limits.now c.args.before.now c.args.after.now c.requires.before c.requires.after) in
    sym (ap (first_of pool_line_over) (take_all c.loop-place.place all passed)) ∙ c.loop-place.invariant
