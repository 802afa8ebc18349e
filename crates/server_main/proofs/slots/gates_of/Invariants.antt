use Rattle.std.proofs.Common.{◌≡◌, ◌+◌, ◌≤◌, vec_len, vec_capacity}
use Rattle.server_main.proofs.slots.gates_of.Given as goal

-- a gate for each ticket that was taken out
abbrev pub invariant-loop-ticket : goal.invariant-loop-ticket
invariant-loop-ticket g l = record {
  count : vec_len l.gates + vec_len l.tickets ≡ vec_len l.fn.tickets;
  room : vec_len l.fn.tickets ≤ vec_capacity l.gates;
}

abbrev pub decreases-loop-ticket : goal.decreases-loop-ticket
decreases-loop-ticket g l = vec_len l.tickets
