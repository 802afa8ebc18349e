use Rattle.gates.proofs.Walking.{walk-none}
use Rattle.serve_loop.specs.Work.{WorkBy}
use Rattle.serve_loop.proofs.worker.go_on.Goals as goal

pub returns-in-Asking : goal.returns-in-Asking
returns-in-Asking g c = rw c.in-Asking.is (c.take_call.ensures _)

pub returns-in-Idling : goal.returns-in-Idling
returns-in-Idling g c = rw c.in-Idling.is (c.idle.ensures _ _)

pub returns-in-Over : goal.returns-in-Over
returns-in-Over g c = rw c.in-Over.is (walk-none WorkBy _ _)
