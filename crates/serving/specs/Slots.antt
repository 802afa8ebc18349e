-- How many slots for jobs are free, before and after a call.
use Rattle.std.specs.Prelude.{◌≡◌, ℕ, ◌+◌, Result, Ok, Err}

-- a slot came back, where the call failed
abbrev pub KeepsSlot : {T E : Type 0} → ℕ → ℕ → Result T E → Type 0
KeepsSlot old new (Ok job) = new ≡ old
KeepsSlot old new (Err error) = new ≡ old + 1
