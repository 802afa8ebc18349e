-- The parts of a report: what a success needs, what its commit did to the store, and what a report comes to.
use Rattle.std.specs.Prelude.{◌≡◌, ℕ, List, [], ◌∷◌, map, Result, Ok, Err}
use Rattle.host_model.specs.declared.report.Report.{Report}
use Rattle.operations.specs.declared.operation.OpFault.{OpFault}
use Rattle.operations.specs.declared.operation.OpFault.TheVariants as fault
use Rattle.record_keeper.specs.Store.{Store, FailsAtCall, IsAfterUpTo, after_commit}
use Rattle.size_values.specs.declared.entry.EntryChange.{EntryChange}
use Rattle.row_machine.specs.machine.Task.{Task}
use Rattle.row_machine.specs.machine.State.{State}
use Rattle.row_machine.specs.machine.Operations.{power_after, success_changes}
use Rattle.row_machine.specs.shown.Notices.{success_notices}
use Rattle.row_machine.specs.facts.Whole.{IsWhole}
use Rattle.machine_laws.specs.Entries.{entry_changes}
use Rattle.core_reports.specs.Jobs.{IsReported}
use Rattle.core_reports.specs.Waiting.{IsSilent}
use Rattle.core_reports.specs.Waiting.{told_by}
use Rattle.core_reports.specs.declared.jobs.Turned.{Turned}
use Rattle.core_reports.specs.declared.success.Ending.{Ending}
use Rattle.core_reports.specs.declared.waiting.Waiting.{Waiting}

-- what the success of a task needs over these rows
pub record IsEndingOf (state : State) (task : Task) (moment : ℕ) (ending : Ending) : Type 0 where
  pub power : ending.power ≡ power_after state task
  pub changes : ending.changes ≡ success_changes state task
  pub entries : ending.entries ≡ entry_changes (success_changes state task)
  pub notices : ending.notices ≡ success_notices task moment

-- Changes of entries were committed in one call to the store, which is not called where there are none. Or that call
-- failed, which is told with the count of failures before and after it; or memory was refused, before it or in it.
abbrev pub CommitsSome : {T : Type 0} → Result T OpFault → List EntryChange → Store → Store → Type 0
CommitsSome (Ok unit) [] before now = now ≡ before
CommitsSome (Ok unit) (change ∷ changes) before now = now ≡ after_commit (change ∷ changes) before
CommitsSome (Err fault.NoMemory) [] before now = now ≡ before
CommitsSome (Err fault.NoMemory) (change ∷ changes) before now = IsAfterUpTo 1 before now
CommitsSome (Err (fault.Keeper earlier later)) [] before now = ⊥
CommitsSome (Err (fault.Keeper earlier later)) (change ∷ changes) before now =
    FailsAtCall 1 before now × (earlier ≡ before.failures) × (later ≡ now.failures)
CommitsSome (Err other) changes before now = ⊥

-- A report was taken as one step of the machine, and these notices wait. The facts hold of the rows after it, nothing
-- else was told, and no operation was entered.
pub record IsTurned (state : State) (number : ℕ) (report : Report) (moment : ℕ) (later : State) (waiting : List Waiting)
    (result : Turned) (store store' : Store) : Type 0 where
  pub reported : IsReported state number report moment later (map (told_by later.operations) waiting) result
      store store'
  pub whole : IsWhole later
  pub silent : IsSilent later
  pub next : later.operations.next ≡ state.operations.next
