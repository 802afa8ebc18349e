use Rattle.gates.proofs.Walking.{walk-append, walk-none}
use Rattle.serve_loop.specs.Work.{WorkBy}
use Rattle.serve_loop.proofs.worker.work.Goals as goal

pub loop-init : goal.loop-init
loop-init g c = walk-none WorkBy _ _

pub returns-in-Over : goal.returns-in-Over
returns-in-Over g c = rw c.in-Over.is at c.loop.invariant

pub loop-preserved : goal.loop-preserved
loop-preserved g c = walk-append c.loop.invariant c.go_on-post.ensures
