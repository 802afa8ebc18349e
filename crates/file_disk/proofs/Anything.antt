-- Where a crash may leave anything, it may also leave what it leaves after a write.
use Rattle.std.proofs.Common.{ℕ, List, refl, arith}
use Rattle.disk_model.specs.Disk.{Torn, Follows}

pub anything_follows : (place count : ℕ) → Follows (Torn place count) (λ left. Unit {0}) (λ left. Unit {0})
anything_follows place count left is = (left, tt, record { before = refl; after = refl; no_shorter = omega arith; no_longer = omega arith })
