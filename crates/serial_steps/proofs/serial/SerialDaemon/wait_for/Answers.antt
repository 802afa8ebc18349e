use Rattle.serial_steps.proofs.Making.{IsLive, soon, live-sooner, waits-over, is-live}
use Rattle.serial_steps.proofs.serial.SerialDaemon.wait_for.Goals as goal

pub loop-made-init : goal.loop-made-init
loop-made-init g c = soon (IsLive c.args.number) _ c.works_alone.ensures.whole

pub loop-made-preserved : goal.loop-made-preserved
loop-made-preserved g c =
    live-sooner c.args.number _ _ _ c.loop-made.made c.loop-made.invariant c.works_alone-in-loop-made.ensures.whole c.works_alone-in-loop-made.ensures.alone
    (is-live c.args.number c.loop-made.self.state c.is_live.result c.is_live.ensures c.if-not-is_live.false) c.step.ensures

pub returns : goal.returns
returns g c = waits-over c.args.number _ _ c.loop-made.made c.loop-made.invariant c.loop-made-test.false c.loop-made.auto.made-end
