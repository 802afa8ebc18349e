-- What the report of the last call comes to: a success, or a failure where its rows are not committed.
use Rattle.std.proofs.Common.{◌≡◌, ℕ, ◌+◌, ◌<◌, ◌≤◌, List, [], ◌∷◌, ◌++◌, length, map, Option, Some, Ok, Err, refl, ap}
use Rattle.std.proofs.Common.{sym, subst, ◌∙◌, arith}
use Rattle.std.specs.Option.{option_map_or}
use Rattle.size_values.specs.Moments.{moment_limit}
use Rattle.size_values.specs.declared.entry.EntryChange.{EntryChange}
use Rattle.size_values.specs.declared.rise.Rise.{Rise}
use Rattle.host_model.specs.declared.report.Report.TheVariants as report
use Rattle.operations.specs.declared.operation.Operation.{Operation}
use Rattle.operations.specs.declared.operation.OpFault.{OpFault}
use Rattle.operations.specs.declared.operation.OpFault.TheVariants as fault
use Rattle.operations.specs.declared.status.Status.TheVariants as status
use Rattle.operations.specs.OperationTable.{OperationTable, live_at, kept_at}
use Rattle.record_keeper.specs.Store.{Store}
use Rattle.records.specs.declared.notices.Untold.{Untold}
use Rattle.row_machine.specs.declared.changes.RowChange.{RowChange}
use Rattle.row_machine.specs.machine.Changes.{applied}
use Rattle.row_machine.specs.machine.Task.{Task}
use Rattle.row_machine.specs.machine.State.{State}
use Rattle.row_machine.specs.machine.Operations.{converted, ended, failed, power_after, succeeded, success_changes}
use Rattle.row_machine.specs.machine.Operations.{with_power_after}
use Rattle.row_machine.specs.shown.Notices.{success_notices}
use Rattle.row_machine.specs.facts.Whole.{IsWhole}
use Rattle.machine_laws.specs.Entries.{entry_changes}
use Rattle.machine_laws.proofs.BooksSteps.{power-keeps}
use Rattle.machine_laws.proofs.ChangeKinds.{success-keeps}
use Rattle.machine_laws.proofs.NamesApplied.{applied-operations}
use Rattle.machine_laws.proofs.NamesDeeds.{power_after-operations}
use Rattle.core_reports.specs.Jobs.{IsReported}
use Rattle.core_reports.specs.Waiting.{IsSilent}
use Rattle.core_reports.specs.Reported.{CommitsSome, IsEndingOf, IsTurned}
use Rattle.core_reports.specs.Turns.{shown_at}
use Rattle.core_reports.specs.Waiting.{told_by}
use Rattle.core_reports.specs.declared.jobs.Turned.TheVariants as turned
use Rattle.core_reports.specs.declared.success.Ending.{Ending}
use Rattle.core_reports.specs.declared.waiting.Waiting.{Waiting}
use Rattle.core_reports.specs.declared.waiting.Waiting.TheVariants as waits
use Rattle.core_reports.proofs.Begun.{shown-told}
use Rattle.core_reports.proofs.Comings.{own-live, told-failed, failed-turned}
use Rattle.core_reports.proofs.Handing.{notice_of}
use Rattle.core_reports.proofs.Powers.{failed-over}
use Rattle.core_reports.proofs.Reporting.{as_ended, succeeded-kept}
use Rattle.core_reports.proofs.Reports.{last-unmade-reported, last-failed-reported, succeeded-reported}
use Rattle.core_reports.proofs.Silent.{applied-silent}
use Rattle.core_reports.proofs.Successes.{HasFailed, few-notices, uncommitted, stored-well, failures-well, contents-well}
use Rattle.core_reports.proofs.Successes.{stored-unmade, after-unmade, failed-so}
use Rattle.core_reports.proofs.Turning.{HasLast}

-- ---- the facts that a success leaves

succeeded-silent : (s : State) (o : Operation Task) (moment : ℕ) → IsSilent s → IsSilent (succeeded s o moment)
unfolding succeeded
succeeded-silent s o moment q =
    let acted = power-keeps (λ t. IsSilent t) (λ t powers e. record { notices = e.notices; next = e.next }) o.work
    (power_after s o.work) s q in
    let made = applied-silent (success_changes s o.work) (with_power_after o.work (power_after s o.work) s) acted in
    record { notices = made.notices; next = made.next }

succeeded-next : (s : State) (o : Operation Task) (moment : ℕ)
    → (succeeded s o moment).operations.next ≡ s.operations.next
unfolding succeeded
succeeded-next s o moment =
    ap (λ (k : OperationTable Task). k.next)
    (applied-operations (success_changes s o.work) (with_power_after o.work (power_after s o.work) s)
    ∙ power_after-operations o.work (power_after s o.work) s)

-- what was done for a success is what the machine says
succeeded-by : (s t s' : State) (o : Operation Task) (number moment : ℕ) (e : Ending) → o.number ≡ number
    → IsEndingOf s o.work moment e
    → t ≡ with_power_after o.work e.power s
    → s' ≡ converted number (ended number status.Success fault.None moment (applied t e.changes))
    → s' ≡ succeeded s o moment
unfolding succeeded
succeeded-by s t s' o number moment e numbered is powered made =
    made
    ∙ ap (λ x. converted number (ended number status.Success fault.None moment (applied x e.changes)))
    (powered ∙ ap (λ power. with_power_after o.work power s) is.power)
    ∙ ap (λ cs. converted number (ended number status.Success fault.None moment
    (applied (with_power_after o.work (power_after s o.work) s) cs))) is.changes
    ∙ ap (λ n. converted n (ended n status.Success fault.None moment
    (applied (with_power_after o.work (power_after s o.work) s) (success_changes s o.work))))
    (sym numbered)

-- whole notices that wait before others are told as they are
told-whole : (k : OperationTable Task) (ns : List Untold) (ws : List Waiting)
    → map (told_by k) (map waits.Whole ns ++ ws) ≡ ns ++ map (told_by k) ws
told-whole k [] ws = refl
told-whole k (n ∷ ns) ws = ap (λ xs. n ∷ xs) (told-whole k ns ws)

module _ (s : State) (number moment : ℕ) (h : IsWhole s) (quiet : IsSilent s) (early : moment < moment_limit)
    (n : HasLast s number report.Done) (s' : State)
    (waiting old : List Waiting) (none : old ≡ []) where
  -- ---- it ends as Failure

  -- the rows were not committed
  pub uncommitted-turned : (why : OpFault) (es : List EntryChange) (store store' : Store)
      → es ≡ entry_changes (success_changes s n.running.of.work)
      → CommitsSome {T = Unit {0}} (Err why) es store store'
      → s' ≡ failed s n.running.of why (n.running.of.work.done + 1) moment
      → waiting ≡ old ++ shown_at s'.operations number moment
      → IsTurned s number report.Done moment s' waiting turned.Ended store store'
  uncommitted-turned fault.NoMemory es store store' made stored fails tells =
      failed-turned s number moment h quiet s' waiting early n.running fault.NoMemory
      (n.running.of.work.done + 1) fails old none tells report.Done store store'
      (last-unmade-reported s n.running.of moment s' (map (told_by s'.operations) waiting) h
      (own-live s number moment h quiet s' waiting n.running.of n.running.numbered n.running.live) n.running.status
      n.calls store store'
      (stored-unmade (success_changes s n.running.of.work) es store store' made stored)
      (after-unmade (success_changes s n.running.of.work) es store store' made stored) fails
      (told-failed s number moment h quiet s' waiting early n.running fault.NoMemory
      (n.running.of.work.done + 1) fails old none tells))
  uncommitted-turned (fault.Keeper earlier later) es store store' made stored fails tells =
      failed-turned s number moment h quiet s' waiting early n.running (fault.Keeper rise.before rise.after)
      (n.running.of.work.done + 1) fails_so old none tells
      report.Done store store'
      (last-failed-reported s n.running.of moment s' (map (told_by s'.operations) waiting) h
      (own-live s number moment h quiet s' waiting n.running.of n.running.numbered n.running.live) n.running.status
      n.calls rise f.first f.rest store store' f.some
      f.fails refl refl fails_so
      (told-failed s number moment h quiet s' waiting early n.running (fault.Keeper rise.before rise.after)
      (n.running.of.work.done + 1) fails_so old none tells))
    where
      f : HasFailed (success_changes s n.running.of.work) earlier later store store'
      f = failed-so (success_changes s n.running.of.work) es earlier later store store' made stored

      rise : Rise
      rise = record { before = store.failures; after = store'.failures; rose = f.fails.rose }

      fails_so : s' ≡ failed s n.running.of (fault.Keeper rise.before rise.after) (n.running.of.work.done + 1) moment
      fails_so =
          fails
          ∙ ap (λ x. failed s n.running.of (fault.Keeper x later) (n.running.of.work.done + 1) moment) f.before
          ∙ ap (λ x. failed s n.running.of (fault.Keeper store.failures x) (n.running.of.work.done + 1) moment) f.after
  uncommitted-turned fault.None es store store' made stored fails tells = absurd stored
  uncommitted-turned (fault.Host call before after) es store store' made stored fails tells = absurd stored

  -- how many calls were counted before anything changed
  counted_so : (view : State) (count : ℕ) → view ≡ s
      → count ≡ option_map_or (λ (o : Operation Task). o.work.done) (live_at view.operations number) 0
      → count ≡ n.running.of.work.done
  counted_so view count same counted =
      counted
      ∙ ap (λ (t : State). option_map_or (λ (o : Operation Task). o.work.done) (live_at t.operations number) 0) same
      ∙ ap (λ (x : Option (Operation Task)). option_map_or (λ (o : Operation Task). o.work.done) x 0) n.running.live

  -- memory was refused before anything was done
  pub unready-turned : (view : State) (count : ℕ) (store : Store) → view ≡ s
      → count ≡ option_map_or (λ (o : Operation Task). o.work.done) (live_at view.operations number) 0
      → ((o : Operation Task) → live_at s.operations number ≡ Some o
      → s' ≡ failed s o fault.NoMemory (count + 1) moment)
      → waiting ≡ old ++ shown_at s'.operations number moment
      → IsTurned s number report.Done moment s' waiting turned.Ended store store
  unready-turned view count store same counted fails tells =
      uncommitted-turned fault.NoMemory (entry_changes (success_changes s n.running.of.work)) store store refl
      (uncommitted (entry_changes (success_changes s n.running.of.work)) store)
      (fails n.running.of n.running.live
      ∙ ap (λ k. failed s n.running.of fault.NoMemory (k + 1) moment) (counted_so view count same counted)) tells

  -- what the success needs, read off the rows before it
  ending_so : (view : State) (e : Ending) → view ≡ s
      → ((o : Operation Task) → live_at view.operations number ≡ Some o → IsEndingOf view o.work moment e)
      → IsEndingOf s n.running.of.work moment e
  ending_so view e same ending =
      subst (λ (v : State). (o : Operation Task) → live_at v.operations number ≡ Some o
      → IsEndingOf v o.work moment e) same ending n.running.of n.running.live

  -- it was told why the rows were not committed, and the target had its status
  pub uncarried-turned : (why : OpFault) (view view' t : State) (e : Ending) (count : ℕ) (store store' : Store)
      → view ≡ s
      → count ≡ option_map_or (λ (o : Operation Task). o.work.done) (live_at view.operations number) 0
      → view' ≡ s → ((o : Operation Task) → live_at view'.operations number ≡ Some o → IsEndingOf view' o.work moment e)
      → CommitsSome {T = Unit {0}} (Err why) e.entries store store' → t.operations ≡ s.operations
      → ((o : Operation Task) → live_at s.operations number ≡ Some o → t ≡ with_power_after o.work e.power s)
      → ((o : Operation Task) → live_at t.operations number ≡ Some o → s' ≡ failed t o why (count + 1) moment)
      → waiting ≡ old ++ shown_at s'.operations number moment
      → IsTurned s number report.Done moment s' waiting turned.Ended store store'
  uncarried-turned why view view' t e count store store' same counted same' ending stored operations powered fails
      tells =
      let is = ending_so view' e same' ending in
      uncommitted-turned why e.entries store store' is.entries stored
      (fails n.running.of (ap (λ k. live_at k number) operations ∙ n.running.live)
      ∙ ap (λ k. failed t n.running.of why (k + 1) moment) (counted_so view count same counted)
      ∙ ap (λ x. failed x n.running.of why (n.running.of.work.done + 1) moment) (powered n.running.of n.running.live)
      ∙ failed-over s n.running.of e.power why moment (sym is.power)) tells

  -- there is room for the notices
  pub roomy : (view : State) (e : Ending) → view ≡ s
      → ((o : Operation Task) → live_at view.operations number ≡ Some o → IsEndingOf view o.work moment e)
      → length e.notices ≤ 2
  roomy view e same ending =
      let is = ending_so view e same ending in
      omega (arith, few-notices n.running.of.work moment, ap length is.notices)

  -- ---- it ends as Success

  pub succeeded-turned : (u : Unit {0}) (view t : State) (e : Ending) (store store' : Store) → view ≡ s
      → ((o : Operation Task) → live_at view.operations number ≡ Some o → IsEndingOf view o.work moment e)
      → CommitsSome (Ok u) e.entries store store'
      → ((o : Operation Task) → live_at s.operations number ≡ Some o → t ≡ with_power_after o.work e.power s)
      → s' ≡ converted number (ended number status.Success fault.None moment (applied t e.changes))
      → waiting ≡ (old ++ map waits.Whole e.notices) ++ shown_at s'.operations number moment
      → IsTurned s number report.Done moment s' waiting turned.Ended store store'
  succeeded-turned u view t e store store' same ending stored powered made tells = record {
    reported =
        subst (λ k. IsReported s k report.Done moment s'
        (map (told_by s'.operations) waiting) turned.Ended store store') n.running.numbered
        (succeeded-reported s o moment s'
        (map (told_by s'.operations) waiting) h own n.running.status n.calls store store'
        (stored-well cs e.entries store store' is.entries u stored)
        (failures-well cs e.entries store store' is.entries u stored)
        (contents-well cs e.entries store store' is.entries u stored) so told);
    whole = subst IsWhole (sym so) (success-keeps s o moment early
        (record { whole = h; live = own; status = n.running.status }) n.calls);
    silent = subst IsSilent (sym so) (succeeded-silent s o moment quiet);
    next = ap (λ (t : State). t.operations.next) so ∙ succeeded-next s o moment;
  } where
    o : Operation Task
    o = n.running.of

    is : IsEndingOf s o.work moment e
    is = ending_so view e same ending

    cs : List RowChange
    cs = success_changes s o.work

    own : live_at s.operations o.number ≡ Some o
    own = own-live s number moment h quiet s' waiting o n.running.numbered n.running.live

    so : s' ≡ succeeded s o moment
    so = succeeded-by s t s' o number moment e n.running.numbered is (powered o n.running.live) made

    over : Operation Task
    over = as_ended o status.Success fault.None moment

    kept : kept_at s'.operations number ≡ Some over
    kept =
        ap (λ (t : State). kept_at t.operations number) so
        ∙ ap (λ k. kept_at (succeeded s o moment).operations k) (sym n.running.numbered)
        ∙ succeeded-kept s o moment h.operations.kept own

    told : map (told_by s'.operations) waiting ≡ success_notices o.work moment ++ notice_of over moment ∷ []
    told =
        ap (map (told_by s'.operations))
        (tells ∙ ap (λ xs. (xs ++ map waits.Whole e.notices) ++ shown_at s'.operations number moment) none
        ∙ ap (λ ns. map waits.Whole ns ++ shown_at s'.operations number moment) is.notices)
        ∙ told-whole s'.operations (success_notices o.work moment) (shown_at s'.operations number moment)
        ∙ ap (λ ns. success_notices o.work moment ++ ns)
        (shown-told s'.operations over number moment n.running.numbered kept)
