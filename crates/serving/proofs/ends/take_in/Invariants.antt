use Rattle.std.proofs.Common.{◌≡◌, ◌+◌, ◌≤◌, vec_len}
use Rattle.serving.specs.Serves.{TakesIn}
use Rattle.serving.proofs.ends.take_in.Given as goal

-- what was taken in and what is left to take in are all
abbrev pub invariant-loop-task : goal.invariant-loop-task
invariant-loop-task g l = record {
  links : (g.P.Spawner.counts l.spawner).links ≡ (g.P.Spawner.counts l.fn.spawner).links;
  others : (g.P.Spawner.counts l.spawner).others ≡ (g.P.Spawner.counts l.fn.spawner).others;
  declined : (g.P.Spawner.counts l.spawner).declined ≡ (g.P.Spawner.counts l.fn.spawner).declined;
  out : (g.P.Spawner.counts l.spawner).out + vec_len l.fn.tasks ≡ (g.P.Spawner.counts l.fn.spawner).out + vec_len l.tasks;
  late : (g.P.Spawner.counts l.spawner).late ≡ (g.P.Spawner.counts l.fn.spawner).late;
  held : vec_len l.tasks ≤ vec_len l.fn.tasks;
  failures : g.P.Spawner.failures l.spawner ≡ g.P.Spawner.failures l.fn.spawner;
  slots : g.B.Jobs.slots l.jobs + vec_len l.tasks ≡ g.B.Jobs.slots l.fn.jobs + vec_len l.fn.tasks;
  room : g.B.Jobs.room l.fn.jobs ≤ g.B.Jobs.room l.jobs;
  closed : g.B.Jobs.closed l.jobs ≡ g.B.Jobs.closed l.fn.jobs;
  ready : g.P.Spawner.ready l.spawner;
}

abbrev pub decreases-loop-task : goal.decreases-loop-task
decreases-loop-task g l = goal.left-loop-task g l
