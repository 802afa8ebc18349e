use Rattle.std.proofs.Common.{◌≡◌, ◌≤◌, length, drop}
use Rattle.operations.specs.OperationTable.{by_number}
use Rattle.object_views.proofs.operations_shown.by_number.Given as goal

abbrev pub invariant-loop-place : goal.invariant-loop-place
invariant-loop-place l = (l.place ≤ length l.operations) × (l.all.items ≡ by_number (drop l.place l.operations))

abbrev pub decreases-loop-place : goal.decreases-loop-place
decreases-loop-place l = l.place
