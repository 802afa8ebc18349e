-- The laws of the moments of a disk in memory.
use Rattle.std.specs.Prelude.{ℕ, ◌≡◌, ◌≤◌, List, []}
use Rattle.std.proofs.Common.{arith, subst}
use Rattle.disk_model.specs.Disk.{DiskState}
use Rattle.disk_model.specs.Memory.{MemoryState, LeftAt, memory_disk}

pub le_refl : (n : ℕ) → n ≤ n
le_refl n = omega arith

-- since this moment there is no other
pub only_now : (d : MemoryState) (left : List ℕ) → (memory_disk d).left_since d.calls.made left → (memory_disk d).may_leave left
only_now d left now =
    let same : now.0 ≡ d.calls.made = omega (arith, now.1, now.2) in
    subst (λ (moment : ℕ). LeftAt moment d.writes [] left) same now.3
