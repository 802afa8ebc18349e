-- Sets of numbers as bits: bit k of a set is 1 where k is in it.
use Rattle.std.specs.Prelude.{ℕ, zero, suc, ◌+◌, ◌*◌, ◌^◌, ◌==◌, Bool, if◌then◌else◌}
use Rattle.std.specs.Int.{bit_at}
use Rattle.schedule_texts.specs.declared.numbers.NumberSet.{NumberSet}

-- the number is in the set
abbrev pub has : NumberSet → ℕ → Bool
has set number = bit_at set.bits number == 1

abbrev pub empty_set : NumberSet
empty_set = record { bits = 0 }

abbrev pub bit_of : Bool → ℕ
bit_of holds = if holds then 1 else 0

-- the bits of the numbers below the limit that pass the test
unfoldable pub bits_below : ℕ → (ℕ → Bool) → ℕ
bits_below zero test = 0
bits_below (suc n) test = bit_of (test n) * 2 ^ n + bits_below n test

-- the set of the numbers up to 59 that pass the test
abbrev pub set_of : (ℕ → Bool) → NumberSet
set_of test = record { bits = bits_below 60 test }
