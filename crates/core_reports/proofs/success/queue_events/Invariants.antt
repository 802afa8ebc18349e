use Rattle.std.proofs.Common.{◌≡◌, ◌+◌, ◌≤◌, ◌++◌, length, map}
use Rattle.std.specs.Prelude.{vec_capacity}
use Rattle.core_reports.specs.declared.waiting.Waiting.TheVariants as waiting
use Rattle.core_reports.proofs.success.queue_events.Given as goal

abbrev pub invariant-loop-place : goal.invariant-loop-place
invariant-loop-place l =
    (l.untold.items ++ map waiting.Whole l.notices ≡ l.fn.untold.items ++ map waiting.Whole l.fn.notices)
    × (length l.untold.items + length l.notices ≤ vec_capacity l.untold)
    × (vec_capacity l.fn.untold ≤ vec_capacity l.untold)
    × (length l.notices + l._place ≡ length l.fn.notices)
