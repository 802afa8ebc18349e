use Rattle.std.proofs.Common.{append_assoc, ◌∙◌}
use Rattle.workload.proofs.stream.instance_body.Goals as goal

pub returns : goal.returns
returns c = c.in_ok-format.ensures.ok ∙ simp append_assoc
