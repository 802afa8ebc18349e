use Rattle.std.proofs.Common.{◌≡◌, take, drop}
use Rattle.workload.specs.Summary.{parted}
use Rattle.workload.proofs.Parting.{after}
use Rattle.workload.proofs.replies.find.Given as goal

abbrev pub invariant-loop-place : goal.invariant-loop-place
invariant-loop-place l = parted l.mark l.text ≡ after (take l.place l.text) (parted l.mark (drop l.place l.text))
