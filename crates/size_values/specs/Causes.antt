use Rattle.std.specs.Prelude.{ℕ, ◌+◌, ◌-◌, ◌^◌, ◌≤◌, min, Result, Ok, Err, Option, Some, None, ◌≡◌, OnErr}
use Rattle.size_values.specs.declared.memory.Or.{Or}
use Rattle.size_values.specs.declared.memory.Or.TheVariants as or

-- A count of faults rose from before to now. It stops at its last value, and there it counts as risen.
abbrev pub Rose : ℕ → ℕ → Type 0
Rose before now = min (before + 1) (2 ^ 64 - 1) ≤ now

-- It rose n times at least, or stands at its last value.
abbrev pub RoseBy : ℕ → ℕ → ℕ → Type 0
RoseBy n before now = min (before + n) (2 ^ 64 - 1) ≤ now

-- the reason of an answer meets the fact; Ok and out of memory are free of it
abbrev pub OnWhy : {T E : Type 0} → Result T (Or E) → Type 0 → Type 0
OnWhy (Ok value) P = Unit {0}
OnWhy (Err or.NoMemory) P = Unit {0}
OnWhy (Err (or.Why why)) P = P

-- A call of the outside: its count never falls, and it failed only where the count rose.
pub record HasCause {T E : Type 0} (before now : ℕ) (result : Result T E) : Type 0 where
  pub later : before ≤ now
  pub failed : OnErr result (Rose before now)

-- The same of a call that may also want memory, which has no cause.
pub record HasCauseOrMemory {T E : Type 0} (before now : ℕ) (result : Result T (Or E)) : Type 0 where
  pub later : before ≤ now
  pub failed : OnWhy result (Rose before now)

-- A refusal of this rule, or none. Out of memory says nothing of the rule.
abbrev pub Refuses : {R : Type 0} → Or R → Option R → Type 0
Refuses or.NoMemory rule = Unit {0}
Refuses (or.Why refusal) rule = rule ≡ Some refusal

-- A check answers the rule that is broken first, if any is.
abbrev pub Says : {T R : Type 0} → Result T (Or R) → Option R → Type 0
Says (Ok value) rule = rule ≡ None
Says (Err error) rule = Refuses error rule
