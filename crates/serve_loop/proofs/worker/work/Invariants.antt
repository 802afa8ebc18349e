use Rattle.gates.specs.serial_steps.specs.Steps.{hosted}
use Rattle.gates.specs.Gates.{Walk, seen}
use Rattle.serve_loop.specs.Work.{WorkBy, worker_world}
use Rattle.serve_loop.specs.declared.worker.WorkerState.TheVariants as post
use Rattle.serve_loop.proofs.worker.work.Given as goal

-- so far the worker came from its first post to the one that it has now
abbrev pub invariant-loop : goal.invariant-loop
invariant-loop g l = Walk WorkBy (seen g.G.Gate.contents g.G.Gate.turned g.G.Gate.idled l.fn.gate)
    (seen g.G.Gate.contents g.G.Gate.turned g.G.Gate.idled l.gate)
    (worker_world post.Asking (hosted g.H.Host.contents g.H.Host.failures l.fn.host) (g.C.Clock.readings l.fn.clock))
    (worker_world l.post (hosted g.H.Host.contents g.H.Host.failures l.host) (g.C.Clock.readings l.clock))
