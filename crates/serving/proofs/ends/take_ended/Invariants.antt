use Rattle.std.proofs.Common.{◌≡◌, ◌+◌, ◌≤◌, vec_len, vec_capacity}
use Rattle.serving.specs.Serves.{TakesEndedOnes}
use Rattle.serving.proofs.ends.take_ended.Given as goal

-- what has ended of those that were looked at was taken in, and nothing was begun
abbrev pub invariant-loop-left : goal.invariant-loop-left
invariant-loop-left g l = record {
  links : (g.P.Spawner.counts l.spawner).links ≡ (g.P.Spawner.counts l.fn.spawner).links;
  others : (g.P.Spawner.counts l.spawner).others ≡ (g.P.Spawner.counts l.fn.spawner).others;
  declined : (g.P.Spawner.counts l.spawner).declined ≡ (g.P.Spawner.counts l.fn.spawner).declined;
  out : (g.P.Spawner.counts l.spawner).out + vec_len l.fn.tasks ≡ (g.P.Spawner.counts l.fn.spawner).out + vec_len l.tasks;
  waited : (g.P.Spawner.counts l.spawner).waited ≡ (g.P.Spawner.counts l.fn.spawner).waited;
  late : (g.P.Spawner.counts l.spawner).late ≡ (g.P.Spawner.counts l.fn.spawner).late;
  left : l.left ≤ vec_len l.tasks;
  fewer : vec_len l.tasks ≤ vec_len l.fn.tasks;
  capacity : vec_capacity l.tasks ≡ vec_capacity l.fn.tasks;
  failures : g.P.Spawner.failures l.spawner ≡ g.P.Spawner.failures l.fn.spawner;
  slots : g.B.Jobs.slots l.jobs + vec_len l.tasks ≡ g.B.Jobs.slots l.fn.jobs + vec_len l.fn.tasks;
  room : g.B.Jobs.room l.fn.jobs ≤ g.B.Jobs.room l.jobs;
  closed : g.B.Jobs.closed l.jobs ≡ g.B.Jobs.closed l.fn.jobs;
  ready : g.P.Spawner.ready l.spawner;
}

abbrev pub decreases-loop-left : goal.decreases-loop-left
decreases-loop-left g l = l.left
