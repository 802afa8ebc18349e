use Rattle.serial_steps.proofs.Making.{one_more}
use Rattle.serial_steps.proofs.serial.SerialDaemon.make_steps.Goals as goal

pub loop-made-preserved : goal.loop-made-preserved
loop-made-preserved g c = one_more (λ s. Unit {0}) _ _ _ c.loop-made.made c.loop-made.invariant tt c.step.ensures
