use Rattle.std.proofs.Common.{◌≡◌, ◌++◌, length}
use Rattle.workload.specs.Summary.{codes_of}
use Rattle.workload.proofs.replies.codes_of.Given as goal

abbrev pub invariant-loop-reply : goal.invariant-loop-reply
invariant-loop-reply l = codes_of l.bytes ≡ l.codes.items ++ codes_of l.rest

abbrev pub decreases-loop-reply : goal.decreases-loop-reply
decreases-loop-reply l = length l.rest
