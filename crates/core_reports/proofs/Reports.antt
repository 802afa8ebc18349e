-- A report taken as one step of the machine, with what went to the store, from what was done for it.
use Rattle.std.proofs.Common.{◌≡◌, ℕ, ◌+◌, List, [], ◌∷◌, ◌++◌, Option, Some, None, refl, ap, sym, subst, ◌∙◌}
use Rattle.std.specs.Option.{option_map}
use Rattle.size_values.specs.declared.entry.Entry.{Entry}
use Rattle.size_values.specs.declared.rise.Rise.{Rise}
use Rattle.host_model.specs.declared.call.HostCall.{HostCall}
use Rattle.host_model.specs.declared.report.Report.{Report}
use Rattle.host_model.specs.declared.report.Report.TheVariants as report
use Rattle.operations.specs.declared.operation.Operation.{Operation}
use Rattle.operations.specs.declared.operation.OpFault.{OpFault}
use Rattle.operations.specs.declared.operation.OpFault.TheVariants as fault
use Rattle.operations.specs.declared.status.Status.{Status}
use Rattle.operations.specs.declared.status.Status.TheVariants as status
use Rattle.operations.specs.OperationTable.{live_at}
use Rattle.record_keeper.specs.Entries.{after_changes}
use Rattle.record_keeper.specs.Store.{Store, FailsAtCall, IsAfterUpTo}
use Rattle.records.specs.declared.notices.Untold.{Untold}
use Rattle.row_machine.specs.declared.changes.RowChange.{RowChange}
use Rattle.row_machine.specs.declared.events.Event.TheVariants as event
use Rattle.row_machine.specs.declared.events.Answer.TheVariants as answer
use Rattle.row_machine.specs.machine.Task.{Task}
use Rattle.row_machine.specs.machine.State.{State}
use Rattle.row_machine.specs.machine.Accept.{and_then}
use Rattle.row_machine.specs.machine.Step.{well, keeper_failed, no_memory, step, done, reported, committed, failure}
use Rattle.row_machine.specs.machine.Operations.{with_task, one_more_done, undone, failed, succeeded, cancelled, success_changes}
use Rattle.row_machine.specs.opening.Records.{records_of}
use Rattle.row_machine.specs.shown.Notices.{telling, success_notices}
use Rattle.row_machine.specs.facts.Whole.{IsWhole}
use Rattle.machine_laws.specs.Entries.{entry_changes}
use Rattle.machine_laws.proofs.BooksSteps.{failure-keeps}
use Rattle.machine_laws.proofs.RecordsKept.{successes-follow}
use Rattle.core_reports.specs.Jobs.{changes_reported, changes_by, changes_while, changes_at_last, answer_of, IsReported}
use Rattle.core_reports.specs.Stores.{Stores}
use Rattle.core_reports.specs.declared.jobs.Turned.{Turned}
use Rattle.core_reports.specs.declared.jobs.Turned.TheVariants as turned
use Rattle.core_reports.proofs.Stores.{failures-same, contents-same}
use Rattle.core_reports.proofs.Handing.{notice_of, next-step, undo-step}
use Rattle.core_reports.proofs.Reporting.{as_ended, failure-is, cancelled-is, success-is, running-step, last-step, cancelled-step}

-- a report that changes no rows and asks nothing of the store
reported-plainly : (s : State) (op : ℕ) (r : Report) (moment : ℕ) (s' : State) (untold : List Untold) (result : Turned) (store : Store)
    → changes_reported s op r ≡ [] → records_of s' ≡ records_of s
    → step s (event.Done op r moment) well ≡ Some (and_then (answer_of op result) (telling untold s'))
    → IsReported s op r moment s' untold result store store
reported-plainly s op r moment s' untold result store none same is = record {
  outcome = well;
  caused = refl;
  stored = subst (λ cs. Stores cs well store store) (sym none) refl;
  is = is;
  kept = λ start told. told ∙ ap (λ rs. option_map (λ _. rs) start) (sym same);
}

-- ---- which changes a report commits

-- none where no operation of the number is live
none-unknown : (s : State) (op : ℕ) (r : Report) → live_at s.operations op ≡ None → changes_reported s op r ≡ []
unfolding changes_reported
none-unknown s op r gone = ap (changes_by s r) gone

-- none where it does not run
none-waiting : (s : State) (o : Operation Task) (r : Report) → changes_while s o r status.Pending ≡ []
none-waiting s o report.Done = refl
none-waiting s o (report.Failed rise) = refl
none-waiting s o report.NoMemory = refl

none-cancelling : (s : State) (o : Operation Task) (r : Report) → changes_while s o r status.Cancelling ≡ []
none-cancelling s o report.Done = refl
none-cancelling s o (report.Failed rise) = refl
none-cancelling s o report.NoMemory = refl

-- those of an operation that is live, by its status
of-live : (s : State) (o : Operation Task) (r : Report) (now : Status) → live_at s.operations o.number ≡ Some o → o.status ≡ now
    → changes_reported s o.number r ≡ changes_while s o r now
unfolding changes_reported
of-live s o r now live is = ap (changes_by s r) live ∙ ap (changes_while s o r) is

-- ---- no call is out

pub unknown-reported : (s : State) (op : ℕ) (r : Report) (moment : ℕ) (s' : State) (untold : List Untold) (store : Store)
    → live_at s.operations op ≡ None → s' ≡ s → untold ≡ [] → IsReported s op r moment s' untold turned.Stray store store
unfolding step
unknown-reported s op r moment s' untold store gone same none =
    reported-plainly s op r moment s' untold turned.Stray store (none-unknown s op r gone) (ap records_of same)
    (ap (done s op r moment well) gone ∙ ap (λ t. Some (and_then (answer.Stray op) t)) (sym same) ∙ ap (λ ns. Some (and_then (answer.Stray op) (telling ns s'))) (sym none))

module _ (s : State) (o : Operation Task) (r : Report) (moment : ℕ) (s' : State) (untold : List Untold) (store : Store) (h : IsWhole s) (live : live_at s.operations o.number ≡ Some o) where
  pub waiting-reported : o.status ≡ status.Pending → s' ≡ s → untold ≡ [] → IsReported s o.number r moment s' untold turned.Stray store store
  unfolding step
  waiting-reported waits same none =
      reported-plainly s o.number r moment s' untold turned.Stray store (of-live s o r status.Pending live waits ∙ none-waiting s o r) (ap records_of same)
      (ap (done s o.number r moment well) live
      ∙ ap (reported s o r moment well) waits
      ∙ ap (λ t. Some (and_then (answer.Stray o.number) t)) (sym same)
      ∙ ap (λ ns. Some (and_then (answer.Stray o.number) (telling ns s'))) (sym none))

  -- ---- a call is handed out

  -- the one that takes the deed back
  pub undone-reported : (call : HostCall) → o.status ≡ status.Cancelling → o.work.undo ≡ Some call → s' ≡ with_task o.number (undone o.work) s → untold ≡ []
      → IsReported s o.number r moment s' untold (turned.Next call) store store
  unfolding records_of
  undone-reported call cancelling undo made none =
      reported-plainly s o.number r moment s' untold (turned.Next call) store (of-live s o r status.Cancelling live cancelling ∙ none-cancelling s o r)
      (ap records_of made)
      (undo-step s o call [] r moment live cancelling undo
      ∙ ap (λ t. Some (and_then (answer.Job o.number call) t)) (sym made)
      ∙ ap (λ ns. Some (and_then (answer.Job o.number call) (telling ns s'))) (sym none))

  -- ---- it ends as Cancelled

  pub cancelled-reported : o.status ≡ status.Cancelling → o.work.undo ≡ None → s' ≡ cancelled s o.number moment
      → untold ≡ notice_of (as_ended o status.Cancelled fault.None moment) moment ∷ [] → IsReported s o.number r moment s' untold turned.Ended store store
  unfolding records_of cancelled
  cancelled-reported cancelling none made tells =
      reported-plainly s o.number r moment s' untold turned.Ended store (of-live s o r status.Cancelling live cancelling ∙ none-cancelling s o r)
      (ap records_of made)
      (cancelled-step s o moment h.operations.kept live r cancelling none
      ∙ ap Some (cancelled-is s o moment h.operations.kept live s' untold made tells))

-- the records stay where an operation fails
records-failed : (s : State) (o : Operation Task) (why : OpFault) (count moment : ℕ) → records_of (failed s o why count moment) ≡ records_of s
unfolding failed records_of
records-failed s o why count moment = failure-keeps (λ t. records_of t ≡ records_of s) (λ t powers e. e) o.work count s refl

module _ (s : State) (o : Operation Task) (moment : ℕ) (s' : State) (untold : List Untold) (h : IsWhole s) (live : live_at s.operations o.number ≡ Some o) (runs : o.status ≡ status.Running) where
  -- the next call is handed out
  pub next-reported : (call : HostCall) (rest : List HostCall) (store : Store) → o.work.calls ≡ call ∷ rest → s' ≡ with_task o.number (one_more_done o.work rest) s → untold ≡ []
      → IsReported s o.number report.Done moment s' untold (turned.Next call) store store
  unfolding records_of
  next-reported call rest store calls made none =
      reported-plainly s o.number report.Done moment s' untold (turned.Next call) store
      (of-live s o report.Done status.Running live runs ∙ ap (changes_at_last s o) calls) (ap records_of made)
      (next-step s o call rest moment live runs calls
      ∙ ap (λ t. Some (and_then (answer.Job o.number call) t)) (sym made)
      ∙ ap (λ ns. Some (and_then (answer.Job o.number call) (telling ns s'))) (sym none))

  -- ---- it ends as Failure

  -- what it is told as
  abbrev pub tells : OpFault → List Untold
  tells why = notice_of (as_ended o status.Failure why moment) moment ∷ []

  -- a call failed
  pub call-failed-reported : (rise : Rise) (store : Store) → s' ≡ failed s o (fault.Host (o.work.done + 1) rise.before rise.after) o.work.done moment
      → untold ≡ tells (fault.Host (o.work.done + 1) rise.before rise.after) → IsReported s o.number (report.Failed rise) moment s' untold turned.Ended store store
  call-failed-reported rise store made told =
      reported-plainly s o.number (report.Failed rise) moment s' untold turned.Ended store (of-live s o (report.Failed rise) status.Running live runs)
      (ap records_of made ∙ records-failed s o _ o.work.done moment)
      (running-step s o moment h.operations.kept live (report.Failed rise) well runs
      ∙ ap Some (failure-is s o moment h.operations.kept live (fault.Host (o.work.done + 1) rise.before rise.after) o.work.done s' untold made told))

  -- the host was out of memory
  pub call-unmade-reported : (store : Store) → s' ≡ failed s o fault.NoMemory o.work.done moment → untold ≡ tells fault.NoMemory
      → IsReported s o.number report.NoMemory moment s' untold turned.Ended store store
  call-unmade-reported store made told =
      reported-plainly s o.number report.NoMemory moment s' untold turned.Ended store (of-live s o report.NoMemory status.Running live runs)
      (ap records_of made ∙ records-failed s o _ o.work.done moment)
      (running-step s o moment h.operations.kept live report.NoMemory well runs
      ∙ ap Some (failure-is s o moment h.operations.kept live fault.NoMemory o.work.done s' untold made told))

  module _ (none : o.work.calls ≡ []) where
    -- the changes of the last call
    at-last : changes_reported s o.number report.Done ≡ success_changes s o.work
    at-last = of-live s o report.Done status.Running live runs ∙ ap (changes_at_last s o) none

    -- what told the records goes on to
    failed-keeps : (why : OpFault) (store store' : Store) → store'.contents ≡ store.contents → s' ≡ failed s o why (o.work.done + 1) moment
        → (start : Option (List Entry)) → store.contents ≡ option_map (λ _. records_of s) start → store'.contents ≡ option_map (λ _. records_of s') start
    failed-keeps why store store' same made start told =
        same ∙ told ∙ ap (λ rs. option_map (λ _. rs) start) (sym (ap records_of made ∙ records-failed s o why (o.work.done + 1) moment))

    -- memory was refused before the commit or in it
    pub last-unmade-reported : (store store' : Store) → Stores (success_changes s o.work) no_memory store store' → IsAfterUpTo 1 store store'
        → s' ≡ failed s o fault.NoMemory (o.work.done + 1) moment → untold ≡ tells fault.NoMemory
        → IsReported s o.number report.Done moment s' untold turned.Ended store store'
    last-unmade-reported store store' stored after made told = record {
      outcome = no_memory;
      caused = failures-same store store' after;
      stored = subst (λ cs. Stores cs no_memory store store') (sym at-last) stored;
      is = last-step s o moment h.operations.kept live no_memory runs none
          ∙ unmade (success_changes s o.work)
          ∙ ap Some (failure-is s o moment h.operations.kept live fault.NoMemory (o.work.done + 1) s' untold made told);
      kept = failed-keeps fault.NoMemory store store' (contents-same store store' after) made;
    } where
      unmade : (cs : List RowChange) → committed s o moment no_memory cs ≡ Some (failure s o fault.NoMemory (o.work.done + 1) moment)
      unmade [] = refl
      unmade (c ∷ cs) = refl

    -- the keeper failed
    pub last-failed-reported : (rise : Rise) (c : RowChange) (cs : List RowChange) (store store' : Store) → success_changes s o.work ≡ c ∷ cs
        → FailsAtCall 1 store store' → rise.before ≡ store.failures → rise.after ≡ store'.failures
        → s' ≡ failed s o (fault.Keeper rise.before rise.after) (o.work.done + 1) moment → untold ≡ tells (fault.Keeper rise.before rise.after)
        → IsReported s o.number report.Done moment s' untold turned.Ended store store'
    last-failed-reported rise c cs store store' some fails before after made told = record {
      outcome = keeper_failed rise;
      caused = (before, after, fails.later);
      stored = subst (λ xs. Stores xs (keeper_failed rise) store store') (sym (at-last ∙ some)) (fails, before, after);
      is = last-step s o moment h.operations.kept live (keeper_failed rise) runs none
          ∙ ap (committed s o moment (keeper_failed rise)) some
          ∙ ap Some (failure-is s o moment h.operations.kept live (fault.Keeper rise.before rise.after) (o.work.done + 1) s' untold made told);
      kept = failed-keeps (fault.Keeper rise.before rise.after) store store' fails.contents made;
    }

    -- ---- it ends as Success

    pub succeeded-reported : (store store' : Store) → Stores (success_changes s o.work) well store store' → store'.failures ≡ store.failures
        → store'.contents ≡ option_map (after_changes (entry_changes (success_changes s o.work))) store.contents
        → s' ≡ succeeded s o moment → untold ≡ success_notices o.work moment ++ notice_of (as_ended o status.Success fault.None moment) moment ∷ []
        → IsReported s o.number report.Done moment s' untold turned.Ended store store'
    succeeded-reported store store' stored failures entries made told = record {
      outcome = well;
      caused = failures;
      stored = subst (λ cs. Stores cs well store store') (sym at-last) stored;
      is = last-step s o moment h.operations.kept live well runs none ∙ ap Some (success-is s o moment h.operations.kept live s' untold made told);
      kept = λ start is. entries ∙ ap (option_map (after_changes (entry_changes (success_changes s o.work)))) is ∙ follows start;
    } where
      follows : (start : Option (List Entry))
          → option_map (after_changes (entry_changes (success_changes s o.work))) (option_map (λ _. records_of s) start) ≡ option_map (λ _. records_of s') start
      follows None = refl
      follows (Some xs) = ap Some (successes-follow s o moment h live ∙ ap records_of (sym made))
