-- A call that is passed on to a host, and the count of failures beside it.
use Rattle.std.specs.Prelude.{◌≡◌, ℕ, ◌+◌, ◌≤◌, min, if◌then◌else◌, Result}
use Rattle.size_values.specs.declared.memory.Or.{Or}
use Rattle.size_values.specs.Calls.{has_failed, last_number}

-- the count after a call: one more where the call failed; it stops at the last number
abbrev pub counted : {T E : Type 0} → ℕ → Result T (Or E) → ℕ
counted count answer = if has_failed answer then min (count + 1) last_number else count
