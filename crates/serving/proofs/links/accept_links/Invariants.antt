use Rattle.std.proofs.Common.{◌≡◌, ◌+◌, ◌≤◌, vec_len, vec_capacity}
use Rattle.serving.specs.Serves.{BeginsLinks, GivesFirst}
use Rattle.serving.proofs.links.accept_links.Given as goal

-- as many links were given as there were rounds
abbrev pub invariant-loop-i : goal.invariant-loop-i
invariant-loop-i g l = record {
  begun : BeginsLinks l.fn.at_once (g.P.Spawner.counts l.fn.spawner) (g.P.Spawner.counts l.spawner) (vec_len l.fn.tasks) (vec_len l.tasks)
      (g.D.Doors.seen l.fn.doors).given (g.D.Doors.seen l.doors).given;
  given : (g.D.Doors.seen l.doors).given ≡ (g.D.Doors.seen l.fn.doors).given + l._i;
  first : GivesFirst (g.D.Doors.seen l.fn.doors).given (g.D.Doors.seen l.doors).given (g.D.Doors.left l.fn.doors) (g.D.Doors.left l.doors);
  failed : (g.D.Doors.seen l.fn.doors).failed ≤ (g.D.Doors.seen l.doors).failed;
  later : g.P.Spawner.failures l.fn.spawner ≤ g.P.Spawner.failures l.spawner;
  slots : g.B.Jobs.slots l.jobs + vec_len l.tasks ≡ g.B.Jobs.slots l.fn.jobs + vec_len l.fn.tasks;
  room : g.B.Jobs.room l.fn.jobs ≤ g.B.Jobs.room l.jobs;
  held : vec_len l.tasks ≤ l.fn.at_once;
  capacity : l.fn.at_once ≤ vec_capacity l.tasks;
  ready : g.P.Spawner.ready l.spawner;
}
