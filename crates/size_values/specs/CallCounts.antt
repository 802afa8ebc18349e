-- What calls of the outside do to its counts: how many calls were made, and how many of them failed.
use Rattle.std.specs.Prelude.{ℕ, ◌+◌, ◌≤◌, ◌≡◌, min, Result, Ok, Err}
use Rattle.size_values.specs.Calls.{last_number}
use Rattle.size_values.specs.Causes.{Rose}
use Rattle.size_values.specs.declared.memory.Or.{Or}
use Rattle.size_values.specs.declared.memory.Or.TheVariants as or

-- a count of calls after so many more of them; it stops at the last number
abbrev pub called : ℕ → ℕ → ℕ
called more calls = min (calls + more) last_number

-- What one call does to the count of failures: a call that is well or out of memory leaves it as it was, and one that
-- failed raised it.
abbrev pub CountsFailure : {T E : Type 0} → ℕ → ℕ → Result T (Or E) → Type 0
CountsFailure before now (Ok value) = now ≡ before
CountsFailure before now (Err or.NoMemory) = now ≡ before
CountsFailure before now (Err (or.Why why)) = (before ≤ now) × Rose before now
