use Rattle.std.specs.Prelude.{ℕ, List, Bool, false, Option, None, ◌+◌, ◌≡◌, min, Some, IsSome, Result, Ok, Err}
use Rattle.std.specs.Option.{unwrap_or}
use Rattle.size_values.specs.declared.memory.Or.{Or}
use Rattle.size_values.specs.declared.memory.Or.TheVariants as or
use Rattle.size_values.specs.Calls.{last_number}
use Rattle.sqlite_keeper.specs.declared.trouble.Trouble.{Trouble}
use Rattle.sqlite_keeper.specs.declared.trouble.Trouble.TheVariants.{NotLoaded}

-- What is seen of a keeper of a file: the path of the file, and whether one that is missing is made; whether it has its
-- file open; how many calls were made, and how many of them failed, both up to 2^64 - 1; why the last of those failed; why
-- the file was let go, where it failed and could not be opened again; and how many commits were found kept in a file
-- that had failed.
pub record Kept : Type 0 where
  pub path : List ℕ
  pub is_made : Bool
  pub is_open : Bool
  pub calls : ℕ
  pub failures : ℕ
  pub trouble : Option Trouble
  pub lost : Option Trouble
  pub mended : ℕ

-- a keeper of this path before its first call
abbrev pub new_keeper : List ℕ → Bool → Kept
new_keeper path is_made = record {
  path = path;
  is_made = is_made;
  is_open = false;
  calls = 0;
  failures = 0;
  trouble = None;
  lost = None;
  mended = 0;
}

-- why a keeper that has no file open makes no changes: its file was let go for this, or none was loaded
abbrev pub why_closed : Kept → Trouble
why_closed keeper = unwrap_or keeper.lost NotLoaded

-- a call that failed says why, and any other call leaves what was said
abbrev pub SaysWhy : {T E : Type 0} → Kept → Kept → Result T (Or E) → Type 0
SaysWhy before now (Ok value) = now.trouble ≡ before.trouble
SaysWhy before now (Err or.NoMemory) = now.trouble ≡ before.trouble
SaysWhy before now (Err (or.Why error)) = IsSome now.trouble

-- the keeper after a call that was refused for this: a trouble is counted and kept, and out of memory is none
abbrev pub after_refusal : Or Trouble → Kept → Kept
after_refusal or.NoMemory keeper = keeper
after_refusal (or.Why trouble) keeper =
    record keeper { failures = min (keeper.failures + 1) last_number; trouble = Some trouble }
