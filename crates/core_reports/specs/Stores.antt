-- What changes of rows do to the store that keeps them.
use Rattle.std.specs.Prelude.{◌≡◌, ◌≤◌, ℕ, List, [], ◌∷◌, Option, option_map}
use Rattle.size_values.specs.declared.entry.Entry.{Entry}
use Rattle.record_keeper.specs.Store.{Store, FailsAtCall, IsAfterUpTo, after_commit}
use Rattle.row_machine.specs.declared.changes.RowChange.{RowChange}
use Rattle.row_machine.specs.opening.Records.{records_of}
use Rattle.row_machine.specs.machine.State.{State}
use Rattle.row_machine.specs.machine.Step.{Outcome, well, keeper_failed, no_memory}
use Rattle.machine_laws.specs.Entries.{entry_changes}

-- The keeper's count of failures bears the outcome out: where the keeper failed it rose from before to now (that it
-- rose is part of the outcome), and else it is as it was.
abbrev pub IsCaused : Outcome → ℕ → ℕ → Type 0
IsCaused well before now = now ≡ before
IsCaused (keeper_failed rise) before now = (rise.before ≡ before) × (rise.after ≡ now) × (before ≤ now)
IsCaused no_memory before now = now ≡ before

-- Changes go to the store in one call. Where there are none, the keeper is not called and so cannot fail. Where all
-- is well their entries are changed; where the keeper failed the entries are as before, and the rise of its count is
-- the one that the outcome tells; and where memory was refused, before that call or in it, the store is as before but
-- for the call.
abbrev pub Stores : List RowChange → Outcome → Store → Store → Type 0
Stores [] well before now = now ≡ before
Stores [] (keeper_failed rise) before now = ⊥
Stores [] no_memory before now = now ≡ before
Stores (change ∷ changes) well before now = now ≡ after_commit (entry_changes (change ∷ changes)) before
Stores (change ∷ changes) (keeper_failed rise) before now =
    FailsAtCall 1 before now × (rise.before ≡ before.failures) × (rise.after ≡ now.failures)
Stores (change ∷ changes) no_memory before now = IsAfterUpTo 1 before now

-- contents that were the records of the old state are those of the new one; what showed none goes on to show none
abbrev pub KeepsRecords : Option (List Entry) → State → Option (List Entry) → State → Type 0
KeepsRecords contents state contents' later =
    (start : Option (List Entry)) → contents ≡ option_map (λ _. records_of state) start
    → contents' ≡ option_map (λ _. records_of later) start
