use Rattle.std.specs.Prelude.{ℕ, zero, suc, ◌≡◌, ◌≤◌, ◌⊎◌, List, Option, option_map}
use Rattle.size_values.specs.CallCounts.{called}
use Rattle.size_values.specs.Causes.{Rose}
use Rattle.size_values.specs.declared.entry.Entry.{Entry}
use Rattle.size_values.specs.declared.entry.EntryChange.{EntryChange}
use Rattle.record_keeper.specs.Entries.{after_changes}

-- What is seen of a keeper at one moment: its contents, where it shows them; how many calls were made so far; and how
-- many of them failed. Both counts stop at 2^64 - 1.
pub record Store : Type 0 where
  pub contents : Option (List Entry)
  pub calls : ℕ
  pub failures : ℕ

-- a store after so many more calls that changed nothing and did not fail
abbrev pub after_calls : ℕ → Store → Store
after_calls times store = record store { calls = called times store.calls }

-- a store after one more call, which made these changes
abbrev pub after_commit : List EntryChange → Store → Store
after_commit changes store = record {
  contents = option_map (after_changes changes) store.contents;
  calls = called 1 store.calls;
  failures = store.failures;
}

-- after at most so many more calls, which changed nothing and did not fail
abbrev pub IsAfterUpTo : ℕ → Store → Store → Type 0
IsAfterUpTo zero before now = now ≡ before
IsAfterUpTo (suc times) before now = (now ≡ after_calls (suc times) before) ⊎ IsAfterUpTo times before now

-- after so many more calls, of which the last one failed: the entries are as before, and the count of failures rose
pub record FailsAtCall (times : ℕ) (before now : Store) : Type 0 where
  pub contents : now.contents ≡ before.contents
  pub calls : now.calls ≡ called times before.calls
  pub later : before.failures ≤ now.failures
  pub rose : Rose before.failures now.failures
