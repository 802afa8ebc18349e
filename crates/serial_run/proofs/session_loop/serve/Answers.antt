use Rattle.serial_run.proofs.Served.{none_so_far, one_more, session_final}
use Rattle.serial_run.proofs.session_loop.serve.Goals as goal

pub loop-done-init : goal.loop-done-init
loop-done-init g c = none_so_far _ _ _

pub returns-in-Final : goal.returns-in-Final
returns-in-Final g c = session_final _ _ _ _ _ c.loop-done.done c.end_after_final.result c.loop-done.invariant c.loop-done-test.true c.in-Final.ensures c.end_after_final.ensures

pub loop-done-preserved : goal.loop-done-preserved
loop-done-preserved g c = one_more _ _ _ _ _ c.loop-done.done c.loop-done.invariant c.in-GoOn.ensures
