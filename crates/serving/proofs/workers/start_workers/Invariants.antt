use Rattle.std.proofs.Common.{◌≡◌, ◌+◌, ◌≤◌, vec_len}
use Rattle.serving.specs.Serves.{StartsWorkers}
use Rattle.serving.proofs.workers.start_workers.Given as goal

-- as many workers were started as there were rounds
abbrev pub invariant-loop-i : goal.invariant-loop-i
invariant-loop-i g l = record {
  started : StartsWorkers (g.P.Spawner.counts l.fn.spawner) (g.P.Spawner.counts l.spawner) (vec_len l.fn.tasks) (vec_len l.tasks);
  all : vec_len l.tasks ≡ vec_len l.fn.tasks + l._i;
  later : g.P.Spawner.failures l.fn.spawner ≤ g.P.Spawner.failures l.spawner;
  slots : g.B.Jobs.slots l.fn.jobs ≤ g.B.Jobs.slots l.jobs + l._i;
  used : g.B.Jobs.slots l.jobs + vec_len l.tasks ≤ g.B.Jobs.slots l.fn.jobs + vec_len l.fn.tasks;
  room : g.B.Jobs.room l.fn.jobs ≤ g.B.Jobs.room l.jobs;
  ready : g.P.Spawner.ready l.spawner;
}
