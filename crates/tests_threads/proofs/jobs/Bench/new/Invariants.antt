use Rattle.std.proofs.Common.{◌≡◌, ◌≤◌, vec_len, vec_capacity}
use Rattle.tests_threads.proofs.jobs.Bench.new.Given as goal

-- a handle for each place
abbrev pub invariant-loop-place : goal.invariant-loop-place
invariant-loop-place g l = record {
  count : vec_len l.boards ≡ l._place;
  room : l.slots ≤ vec_capacity l.boards;
}
