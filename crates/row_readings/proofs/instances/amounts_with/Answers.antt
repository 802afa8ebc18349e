use Rattle.std.proofs.Common.{sym, ap, ◌∙◌, arith}
use Rattle.project_limits.specs.Instance.{instance_amounts}
use Rattle.row_readings.proofs.Over.{replaced-by_none, amounts-laid}
use Rattle.row_readings.proofs.instances.amounts_with.Goals as goal

pub returns-then-len-eq0 : goal.returns-then-len-eq0
returns-then-len-eq0 c =
    let row = c.args.row.now in
    c.amounts_of-below.ensures
    ∙ ap (λ config. instance_amounts row.kind config c.args.devices.now)
    (sym (replaced-by_none c.args.config.now row.config (omega (arith, c.len.ensures.len, c.if-len-eq0.true))))

pub returns : goal.returns
returns c =
    let row = c.args.row.now in
    amounts-laid row.kind c.args.config.now row.config c.args.devices.now c.amounts_of-below.result c.amounts_of-own.result
    c.own_or.result c.own_or-2.result c.own_or-3.result c.len.ensures.config.rising c.amounts_of-below.ensures c.amounts_of-own.ensures
    c.own_or.ensures c.own_or-2.ensures c.own_or-3.ensures
