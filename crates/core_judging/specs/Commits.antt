-- What the commit of a change does to the store.
use Rattle.std.specs.Prelude.{◌≡◌, List, Result, Ok, Err}
use Rattle.size_values.specs.declared.entry.EntryChange.{EntryChange}
use Rattle.size_values.specs.declared.memory.Or.{Or}
use Rattle.size_values.specs.declared.memory.Or.TheVariants as or
use Rattle.record_keeper.specs.Store.{Store, FailsAtCall, IsAfterUpTo, after_commit}
use Rattle.records.specs.declared.refusals.Rule.TheVariants as rule
use Rattle.records.specs.declared.refusals.Refusal.{Refusal}
use Rattle.row_machine.specs.machine.Refusals.{plain_refusal}

-- Entries were changed in one call to the store; or that call failed, which is told; or memory was refused, before it
-- or in it.
abbrev pub Commits : {T : Type 0} → Result T (Or Refusal) → List EntryChange → Store → Store → Type 0
Commits (Ok unit) changes before now = now ≡ after_commit changes before
Commits (Err (or.Why refusal)) changes before now = (refusal ≡ plain_refusal rule.K1) × FailsAtCall 1 before now
Commits (Err or.NoMemory) changes before now = IsAfterUpTo 1 before now
