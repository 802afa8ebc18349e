use Rattle.std.proofs.Common.{◌-◌, length}
use Rattle.size_values.proofs.Expiries.{IsExpiryFront}
use Rattle.size_values.proofs.expiry.expiry_in.Given as goal

abbrev pub invariant-loop-front : goal.invariant-loop-front
invariant-loop-front l = IsExpiryFront l.text l.front

abbrev pub decreases-loop-front : goal.decreases-loop-front
decreases-loop-front l = length l.text - l.front.end
