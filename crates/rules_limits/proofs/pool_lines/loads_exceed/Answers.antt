use Rattle.std.proofs.Common.{length, sym, ap, eqb-true, ◌∙◌}
use Rattle.std.proofs.lemmas.List.{length-map, nil_from_length}
use Rattle.plain_lists.specs.Firsts.{first_of}
use Rattle.row_readings.specs.PoolLimits.{used_under}
use Rattle.rules_refusals.proofs.Saying.{says-as}
use Rattle.rules_limits.specs.Pools.{pool_lines, pool_line_over, pools_over}
use Rattle.rules_limits.proofs.pool_lines.loads_exceed.Goals as goal

pub returns-then-is_empty : goal.returns-then-is_empty
returns-then-is_empty c =
    let none = sym c.view.ensures.same ∙ nil_from_length c.view.result.now (eqb-true (length c.view.result.now) 0 (sym c.is_empty.ensures ∙ c.if-is_empty.true)) in
    ap (pools_over c.args.before.now c.args.after.now) none

pub lines_exceed-requires-clause-before : goal.lines_exceed-requires-clause-before
lines_exceed-requires-clause-before c =
    ap length (c.view-3.ensures ∙ c.in_ok-before.ensures) ∙ length-map c.args.limits.now (used_under c.args.before.now) ∙ sym (ap length c.view-2.ensures.same)

pub lines_exceed-requires-clause-after : goal.lines_exceed-requires-clause-after
lines_exceed-requires-clause-after c =
    ap length (c.view-4.ensures ∙ c.in_ok-after.ensures) ∙ length-map c.args.limits.now (used_under c.args.after.now) ∙ sym (ap length c.view-2.ensures.same)

pub returns : goal.returns
returns c =
    says-as c.lines_exceed.result
    (λ i. first_of pool_line_over (pool_lines (c.view-2.ensures.same i) ((c.view-3.ensures ∙ c.in_ok-before.ensures) i) ((c.view-4.ensures ∙ c.in_ok-after.ensures) i)))
    c.lines_exceed.ensures
