use Rattle.std.proofs.Common.{ap}
use Rattle.row_machine.specs.machine.Step.{step, after_command, well}
use Rattle.precondition_laws.proofs.Expected.{other-tag}
use Rattle.precondition_laws.proofs.laws.another_tag_is_refused.Goals as goal

pub returns : goal.returns
unfolding step
returns c = λ s command of row tag moment h apart project objects.
    ap (after_command s command moment well) (other-tag s command of row tag moment h apart project objects)
