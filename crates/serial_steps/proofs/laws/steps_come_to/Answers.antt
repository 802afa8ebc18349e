use Rattle.serial_steps.proofs.Counting.{all-come_to}
use Rattle.serial_steps.proofs.laws.steps_come_to.Goals as goal

pub returns : goal.returns
returns c = all-come_to
