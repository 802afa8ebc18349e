use Rattle.std.specs.Prelude.{ℕ, List, Bool, Option, ◌+◌, ◌≡◌, min, Some, IsSome, Result, Ok, Err}
use Rattle.size_values.specs.declared.memory.Or.{Or}
use Rattle.size_values.specs.declared.memory.Or.TheVariants as or
use Rattle.size_values.specs.Calls.{last_number}
use Rattle.program_start.specs.declared.journal_trouble.JournalTrouble.{JournalTrouble}

-- What is seen of a keeper of a journal: the path of its file; whether one that is missing is made; whether it has its
-- file open; how many calls were made, and how many of them failed, both up to 2^64 - 1; and why the last of those
-- failed.
pub record Kept : Type 0 where
  pub path : List ℕ
  pub is_made : Bool
  pub is_open : Bool
  pub calls : ℕ
  pub failures : ℕ
  pub trouble : Option JournalTrouble

-- a call that failed says why, and any other call leaves what was said
abbrev pub SaysWhy : {T E : Type 0} → Kept → Kept → Result T (Or E) → Type 0
SaysWhy before now (Ok value) = now.trouble ≡ before.trouble
SaysWhy before now (Err or.NoMemory) = now.trouble ≡ before.trouble
SaysWhy before now (Err (or.Why error)) = IsSome now.trouble

-- the keeper after a call that was refused for this: a trouble is counted and kept, and out of memory is none
abbrev pub after_refusal : Or JournalTrouble → Kept → Kept
after_refusal or.NoMemory keeper = keeper
after_refusal (or.Why trouble) keeper =
    record keeper { failures = min (keeper.failures + 1) last_number; trouble = Some trouble }
