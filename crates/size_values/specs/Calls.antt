use Rattle.std.specs.Prelude.{ℕ, ◌+◌, ◌-◌, ◌^◌, ◌==◌, nat_lt, ◌&&◌, Bool, true, false, List, min, if◌then◌else◌, Result}
use Rattle.std.specs.Prelude.{Ok, Err}
use Rattle.std.specs.List.{list_any}
use Rattle.size_values.specs.declared.memory.Or.{Or}
use Rattle.size_values.specs.declared.memory.Or.TheVariants as or

-- the last number that a count takes
abbrev pub last_number : ℕ
last_number = 2 ^ 64 - 1

-- The calls of an object whose calls are numbered from 1: which numbers fail, how many calls were made, and how many
-- of them failed. Both counts stop at the last number.
pub record Calls : Type 0 where
  pub fails : List ℕ
  pub made : ℕ
  pub failed : ℕ

-- no call was made yet
abbrev pub no_calls : List ℕ → Calls
no_calls fails = record { fails = fails; made = 0; failed = 0 }

-- The next call is one of those that fail. After the call of the last number none fails.
abbrev pub is_next_failing : Calls → Bool
is_next_failing calls = nat_lt calls.made last_number && list_any (λ number. number == calls.made + 1) calls.fails

-- after one more call
abbrev pub after_call : Calls → Calls
after_call calls =
    record calls {
      made = min (calls.made + 1) last_number;
      failed = if is_next_failing calls then min (calls.failed + 1) last_number else calls.failed;
    }

-- a call answered a failure, and neither its value nor out of memory
abbrev pub has_failed : {T E : Type 0} → Result T (Or E) → Bool
has_failed (Ok value) = false
has_failed (Err or.NoMemory) = false
has_failed (Err (or.Why why)) = true
