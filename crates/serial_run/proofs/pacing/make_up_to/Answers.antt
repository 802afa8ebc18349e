use Rattle.serial_steps.proofs.Making.{IsBusy, none_so_far, not-idle, one_more}
use Rattle.serial_run.proofs.StepsMade.{makes-all, makes-fewer}
use Rattle.serial_run.proofs.pacing.make_up_to.Goals as goal

pub loop-made-init : goal.loop-made-init
loop-made-init g c = none_so_far IsBusy _

pub loop-made-preserved : goal.loop-made-preserved
loop-made-preserved g c = one_more IsBusy _ _ _ c.loop-made.made c.loop-made.invariant
    (not-idle c.is_idle.result c.loop-made.daemon.state c.is_idle.ensures.1 c.if-is_idle.false) c.step.ensures
