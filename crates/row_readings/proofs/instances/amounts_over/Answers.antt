use Rattle.std.proofs.Common.{ap, ◌∙◌, arith}
use Rattle.config_lists.specs.Entries.{replaced}
use Rattle.expansion.specs.Layers.{laid}
use Rattle.project_limits.specs.Instance.{instance_amounts}
use Rattle.row_readings.proofs.Over.{own-devices_none}
use Rattle.row_readings.proofs.instances.amounts_over.Goals as goal

pub returns-then-len-eq0 : goal.returns-then-len-eq0
returns-then-len-eq0 c =
    c.amounts_with.ensures ∙ own-devices_none c.args.below.now c.args.row.now (omega (arith, c.len.ensures.len, c.if-len-eq0.true))

pub returns : goal.returns
unfolding laid
returns c =
    let row = c.args.row.now in
    c.amounts_with-amounts.ensures ∙ ap (instance_amounts row.kind (replaced c.args.below.now.config row.config)) c.in_ok-devices.ensures
