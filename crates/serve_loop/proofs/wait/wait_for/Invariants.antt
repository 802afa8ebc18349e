use Rattle.std.proofs.Common.{◌<◌}
use Rattle.records.specs.declared.commands.Command.{Command}
use Rattle.gates.specs.Gates.{Walk, seen}
use Rattle.serve_loop.specs.Waits.{ServeBy, command_world, looking, most_idles}
use Rattle.serve_loop.proofs.wait.wait_for.Given as goal

-- so far it idled so often until the time was up, and the operation is to be looked at once more
abbrev pub invariant-loop : goal.invariant-loop
invariant-loop g l = (l.idles < most_idles) × ((c : Command) → Walk (ServeBy c)
    (seen g.G.Gate.contents g.G.Gate.turned g.G.Gate.idled l.fn.gate)
    (seen g.G.Gate.contents g.G.Gate.turned g.G.Gate.idled l.gate)
    (command_world (looking l.fn.number l.fn.deadline 0) (g.C.Clock.readings l.fn.clock))
    (command_world (looking l.fn.number l.fn.deadline l.idles) (g.C.Clock.readings l.clock)))
