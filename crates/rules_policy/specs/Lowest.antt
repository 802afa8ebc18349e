-- That all rules hold up to a number.
use Rattle.std.specs.Prelude.{ℕ, ◌<◌, ◌≡◌, Option, None}
use Rattle.records.specs.declared.refusals.Refusal.{Refusal}

-- no rule of a lower number is broken
abbrev pub HoldBelow : ℕ → (ℕ → Option Refusal) → Type 0
HoldBelow lowest rule = (number : ℕ) → number < lowest → rule number ≡ None
