use Rattle.serial_steps.proofs.Making.{IsBusy, soon, busy-sooner, finishes-over, not-idle}
use Rattle.serial_steps.proofs.serial.SerialDaemon.finish.Goals as goal

pub loop-made-init : goal.loop-made-init
loop-made-init g c = soon IsBusy _ c.works_alone.ensures.whole

pub loop-made-preserved : goal.loop-made-preserved
loop-made-preserved g c =
    busy-sooner _ _ _ c.loop-made.made c.loop-made.invariant c.works_alone-in-loop-made.ensures.whole c.works_alone-in-loop-made.ensures.alone
    (not-idle c.is_idle.result c.loop-made.self.state c.is_idle.ensures.1 c.if-is_idle.false) c.step.ensures

pub returns : goal.returns
returns g c = finishes-over _ _ c.loop-made.made c.loop-made.invariant c.loop-made-test.false c.loop-made.auto.made-end
