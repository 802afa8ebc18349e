-- What a report comes to, with the facts that hold of the rows after it, from what was done for it.
use Rattle.std.proofs.Common.{◌≡◌, ℕ, ◌+◌, ◌<◌, true, List, [], ◌∷◌, ◌++◌, map, Option, Some, None, refl, ap, sym}
use Rattle.std.proofs.Common.{subst, ◌∙◌}
use Rattle.std.specs.Option.{option_and_then, option_map_or}
use Rattle.size_values.specs.Moments.{moment_limit}
use Rattle.host_model.specs.declared.call.HostCall.{HostCall}
use Rattle.host_model.specs.declared.report.Report.{Report}
use Rattle.host_model.specs.declared.report.Report.TheVariants as report
use Rattle.operations.specs.Statuses.{is_live}
use Rattle.operations.specs.declared.operation.Operation.{Operation}
use Rattle.operations.specs.declared.operation.OpFault.{OpFault}
use Rattle.operations.specs.declared.operation.OpFault.TheVariants as fault
use Rattle.operations.specs.declared.status.Status.{Status}
use Rattle.operations.specs.declared.status.Status.TheVariants as status
use Rattle.operations.specs.OperationTable.{live_at, kept_at}
use Rattle.record_keeper.specs.Store.{Store}
use Rattle.records.specs.declared.notices.Untold.{Untold}
use Rattle.row_machine.specs.machine.Task.{Task}
use Rattle.row_machine.specs.machine.State.{State}
use Rattle.row_machine.specs.machine.Operations.{with_task, one_more_done, undone, failed, cancelled}
use Rattle.row_machine.specs.facts.Whole.{IsWhole}
use Rattle.machine_laws.proofs.Base.{live-mem, live-number}
use Rattle.machine_laws.proofs.BooksSteps.{failure-keeps}
use Rattle.machine_laws.proofs.ChangeKinds.{next_calls-keep, undo_calls-keep, cancelled-keeps}
use Rattle.machine_laws.proofs.ChangeKinds.{failure-keeps as failures-keep}
use Rattle.core_drafts.specs.Background.{handed, handed_at}
use Rattle.core_drafts.specs.declared.calls.Handing.TheVariants as handing
use Rattle.core_reports.specs.Jobs.{IsReported}
use Rattle.core_reports.specs.Waiting.{IsSilent}
use Rattle.core_reports.specs.Reported.{IsTurned}
use Rattle.core_reports.specs.Turns.{shown_at, turn_of, turn_while, turn_done, turn_cancelling}
use Rattle.core_reports.specs.Waiting.{told_by}
use Rattle.core_reports.specs.declared.jobs.Turned.TheVariants as turned
use Rattle.core_reports.specs.declared.turns.Turn.TheVariants as turn
use Rattle.core_reports.specs.declared.waiting.Waiting.{Waiting}
use Rattle.core_reports.proofs.Begun.{shown-told}
use Rattle.core_reports.proofs.Handing.{notice_of}
use Rattle.core_reports.proofs.Reporting.{as_ended, failed-kept, cancelled-kept}
use Rattle.core_reports.proofs.Reports.{unknown-reported, waiting-reported, undone-reported, cancelled-reported}
use Rattle.core_reports.proofs.Reports.{next-reported, call-failed-reported, call-unmade-reported}
use Rattle.core_reports.proofs.Turning.{IsLive, HasNext, HasUndo, HasNoUndo}

-- ---- the facts that ends leave

pub cancelled-silent : (s : State) (number moment : ℕ) → IsSilent s → IsSilent (cancelled s number moment)
unfolding cancelled
cancelled-silent s number moment q = record { notices = q.notices; next = q.next }

pub cancelled-next : (s : State) (number moment : ℕ) → (cancelled s number moment).operations.next ≡ s.operations.next
unfolding cancelled
cancelled-next s number moment = refl

pub failed-silent : (s : State) (o : Operation Task) (why : OpFault) (count moment : ℕ) → IsSilent s
    → IsSilent (failed s o why count moment)
unfolding failed
failed-silent s o why count moment q =
    let broken = failure-keeps (λ t. IsSilent t)
    (λ t powers e. record { notices = e.notices; next = e.next }) o.work count s q in
    record { notices = broken.notices; next = broken.next }

pub failed-next : (s : State) (o : Operation Task) (why : OpFault) (count moment : ℕ)
    → (failed s o why count moment).operations.next ≡ s.operations.next
unfolding failed
failed-next s o why count moment =
    failure-keeps (λ t. t.operations.next ≡ s.operations.next) (λ t powers e. e) o.work count s refl

module _ (s : State) (number moment : ℕ) (h : IsWhole s) (quiet : IsSilent s) (s' : State)
    (waiting : List Waiting) where
  -- the live operation under its own number
  pub own-live : (o : Operation Task) → o.number ≡ number → live_at s.operations number ≡ Some o
      → live_at s.operations o.number ≡ Some o
  own-live o numbered live = ap (live_at s.operations) numbered ∙ live

  -- ---- no call is out

  pub stray-turned : (r : Report) (store : Store) → turn_of (live_at s.operations number) r ≡ turn.Stray → s' ≡ s
      → waiting ≡ []
      → IsTurned s number r moment s' waiting turned.Stray store store
  stray-turned r store stray same none = record {
    reported = at (live_at s.operations number) refl stray;
    whole = subst IsWhole (sym same) h;
    silent = subst IsSilent (sym same) quiet;
    next = ap (λ (t : State). t.operations.next) same;
  } where
    untold : List Untold
    untold = map (told_by s'.operations) waiting

    nothing : untold ≡ []
    nothing = ap (map (told_by s'.operations)) none

    out : (o : Operation Task) → live_at s.operations number ≡ Some o → (now : Status) (r : Report) → o.status ≡ now
        → is_live now ≡ true → turn_while o r now ≡ turn.Stray
        → IsReported s number r moment s' untold turned.Stray store store
    out o live status.Pending r is lives e =
        subst (λ n. IsReported s n r moment s' untold turned.Stray store store) (live-number s number o live)
        (waiting-reported s o r moment s' untold store h
        (own-live o (live-number s number o live) live) is same nothing)
    out o live status.Running report.Done is lives e = by o.work.calls e where
      by : (calls : List HostCall) → turn_done calls ≡ turn.Stray
          → IsReported s number report.Done moment s' untold turned.Stray store store
      by [] e = cc
      by (call ∷ calls) e = cc
    out o live status.Running (report.Failed rise) is lives e = cc
    out o live status.Running report.NoMemory is lives e = cc
    out o live status.Cancelling r is lives e = by o.work.undo e where
      by : (undo : Option HostCall) → turn_cancelling undo ≡ turn.Stray
          → IsReported s number r moment s' untold turned.Stray store store
      by None e = cc
      by (Some call) e = cc
    out o live status.Success r is lives e = cc
    out o live status.Failure r is lives e = cc
    out o live status.Cancelled r is lives e = cc

    at : (x : Option (Operation Task)) → live_at s.operations number ≡ x → turn_of x r ≡ turn.Stray
        → IsReported s number r moment s' untold turned.Stray store store
    at None gone e = unknown-reported s number r moment s' untold store gone same nothing
    at (Some o) live e = out o live o.status r refl (h.operations.kept.all_live.at o (live-mem s number o live)) e

  -- ---- a call is handed out

  -- the next one
  pub next-turned : (r : Report) (call : HostCall) (store : Store) → HasNext s number r
      → ((c : HostCall) (task : Task) → handed_at handing.Next s.operations number ≡ Some (c, task)
      → (call ≡ c) × (s' ≡ with_task number task s))
      → waiting ≡ [] → IsTurned s number r moment s' waiting (turned.Next call) store store
  next-turned r call store n hands none = record {
    reported =
        subst (λ k. IsReported s k r moment s' (map (told_by s'.operations) waiting)
        (turned.Next call) store store) n.running.numbered
        (subst (λ x. IsReported s o.number x moment s' (map (told_by s'.operations) waiting)
        (turned.Next call) store store) (sym n.report)
        (next-reported s o moment s' (map
        (told_by s'.operations) waiting) h own n.running.status call n.rest store calls made
        (ap (map (told_by s'.operations)) none)));
    whole = subst IsWhole (sym made)
        (next_calls-keep s o call n.rest (record { whole = h; live = own; status = n.running.status }) calls);
    silent = subst IsSilent (sym made) (record { notices = quiet.notices; next = quiet.next });
    next = ap (λ (t : State). t.operations.next) made;
  } where
    o : Operation Task
    o = n.running.of

    own : live_at s.operations o.number ≡ Some o
    own = own-live o n.running.numbered n.running.live

    out : (call ≡ n.call) × (s' ≡ with_task number (one_more_done o.work n.rest) s)
    out = hands n.call (one_more_done o.work n.rest)
        (ap (λ (x : Option (Operation Task)). option_and_then
        (λ (o : Operation Task). handed handing.Next o.work) x) n.running.live
        ∙ ap (λ calls. handed handing.Next (record o.work { calls = calls })) n.calls)

    calls : o.work.calls ≡ call ∷ n.rest
    calls = n.calls ∙ ap (λ c. c ∷ n.rest) (sym out.0)

    made : s' ≡ with_task o.number (one_more_done o.work n.rest) s
    made = out.1 ∙ ap (λ k. with_task k (one_more_done o.work n.rest) s) (sym n.running.numbered)

  -- the one that takes the deed back
  pub undo-turned : (r : Report) (call : HostCall) (store : Store) → HasUndo s number
      → ((c : HostCall) (task : Task) → handed_at handing.Undo s.operations number ≡ Some (c, task)
      → (call ≡ c) × (s' ≡ with_task number task s))
      → waiting ≡ [] → IsTurned s number r moment s' waiting (turned.Next call) store store
  undo-turned r call store u hands none = record {
    reported =
        subst (λ k. IsReported s k r moment s' (map (told_by s'.operations) waiting)
        (turned.Next call) store store) u.cancelling.numbered
        (undone-reported s o r moment s'
        (map (told_by s'.operations) waiting) store h own call u.cancelling.status undo made
        (ap (map (told_by s'.operations)) none));
    whole = subst IsWhole (sym made)
        (undo_calls-keep s o call (record { whole = h; live = own; status = u.cancelling.status }) undo);
    silent = subst IsSilent (sym made) (record { notices = quiet.notices; next = quiet.next });
    next = ap (λ (t : State). t.operations.next) made;
  } where
    o : Operation Task
    o = u.cancelling.of

    own : live_at s.operations o.number ≡ Some o
    own = own-live o u.cancelling.numbered u.cancelling.live

    out : (call ≡ u.call) × (s' ≡ with_task number (undone o.work) s)
    out = hands u.call (undone o.work)
        (ap (λ (x : Option (Operation Task)). option_and_then
        (λ (o : Operation Task). handed handing.Undo o.work) x) u.cancelling.live
        ∙ ap (λ undo. handed handing.Undo (record o.work { undo = undo })) u.undo)

    undo : o.work.undo ≡ Some call
    undo = u.undo ∙ ap (λ c. Some c) (sym out.0)

    made : s' ≡ with_task o.number (undone o.work) s
    made = out.1 ∙ ap (λ k. with_task k (undone o.work) s) (sym u.cancelling.numbered)

  -- ---- it ends as Cancelled

  pub cancelled-turned : moment < moment_limit → (r : Report) (old : List Waiting) (store : Store)
      → HasNoUndo s number → s' ≡ cancelled s number moment
      → old ≡ [] → waiting ≡ old ++ shown_at s'.operations number moment
      → IsTurned s number r moment s' waiting turned.Ended store store
  cancelled-turned early r old store u made none tells = record {
    reported =
        subst (λ k. IsReported s k r moment s'
        (map (told_by s'.operations) waiting) turned.Ended store store) u.cancelling.numbered
        (cancelled-reported s o r moment s'
        (map (told_by s'.operations) waiting) store h own u.cancelling.status u.undo made_own told);
    whole = subst IsWhole (sym made_own) (cancelled-keeps s o moment early h own);
    silent = subst IsSilent (sym made) (cancelled-silent s number moment quiet);
    next = ap (λ (t : State). t.operations.next) made ∙ cancelled-next s number moment;
  } where
    o : Operation Task
    o = u.cancelling.of

    own : live_at s.operations o.number ≡ Some o
    own = own-live o u.cancelling.numbered u.cancelling.live

    made_own : s' ≡ cancelled s o.number moment
    made_own = made ∙ ap (λ k. cancelled s k moment) (sym u.cancelling.numbered)

    over : Operation Task
    over = as_ended o status.Cancelled fault.None moment

    kept : kept_at s'.operations number ≡ Some over
    kept =
        ap (λ (t : State). kept_at t.operations number) made_own
        ∙ ap (λ k. kept_at (cancelled s o.number moment).operations k) (sym u.cancelling.numbered)
        ∙ cancelled-kept s o moment h.operations.kept own

    told : map (told_by s'.operations) waiting ≡ notice_of over moment ∷ []
    told =
        ap (map (told_by s'.operations)) (tells ∙ ap (λ xs. xs ++ shown_at s'.operations number moment) none)
        ∙ shown-told s'.operations over number moment u.cancelling.numbered kept

  -- ---- it ends as Failure

  module _ (early : moment < moment_limit) (l : IsLive s number status.Running) (why : OpFault) (count : ℕ)
      (made : s' ≡ failed s l.of why count moment)
      (old : List Waiting) (none : old ≡ []) (tells : waiting ≡ old ++ shown_at s'.operations number moment) where
    -- it is told as it ended
    pub told-failed : map (told_by s'.operations) waiting ≡ notice_of (as_ended l.of status.Failure why moment) moment
        ∷ []
    told-failed =
        ap (map (told_by s'.operations)) (tells ∙ ap (λ xs. xs ++ shown_at s'.operations number moment) none)
        ∙ shown-told s'.operations (as_ended l.of status.Failure why moment) number moment l.numbered
        (ap (λ (t : State). kept_at t.operations number) made
        ∙ ap (λ k. kept_at (failed s l.of why count moment).operations k) (sym l.numbered)
        ∙ failed-kept s l.of moment h.operations.kept (own-live l.of l.numbered l.live) why count)

    pub failed-turned : (r : Report) (store store' : Store)
        → IsReported s l.of.number r moment s' (map (told_by s'.operations) waiting) turned.Ended store store'
        → IsTurned s number r moment s' waiting turned.Ended store store'
    failed-turned r store store' reported = record {
      reported = subst (λ k. IsReported s k r moment s'
          (map (told_by s'.operations) waiting) turned.Ended store store') l.numbered reported;
      whole = subst IsWhole (sym made)
          (failures-keep s l.of why count moment early
          (record { whole = h; live = own-live l.of l.numbered l.live; status = l.status }));
      silent = subst IsSilent (sym made) (failed-silent s l.of why count moment quiet);
      next = ap (λ (t : State). t.operations.next) made ∙ failed-next s l.of why count moment;
    }

  -- a call failed, or the host was out of memory
  module _ (early : moment < moment_limit) (why : OpFault) (old : List Waiting) (store : Store) (none : old ≡ [])
      (tells : waiting ≡ old ++ shown_at s'.operations number moment)
      (o : Operation Task) (live : live_at s.operations number ≡ Some o)
      (made : s' ≡ failed s o why o.work.done moment) where
    runs : o.status ≡ status.Running → IsLive s number status.Running
    runs is = record { of = o; live = live; numbered = live-number s number o live; status = is }

    own : live_at s.operations o.number ≡ Some o
    own = own-live o (live-number s number o live) live

    fails-while : (now : Status) (r : Report) → o.status ≡ now → turn_while o r now ≡ turn.Fails why
        → IsTurned s number r moment s' waiting turned.Ended store store
    unfolding runs
    fails-while status.Running report.Done is e = by o.work.calls e where
      by : (calls : List HostCall) → turn_done calls ≡ turn.Fails why
          → IsTurned s number report.Done moment s' waiting turned.Ended store store
      by [] e = cc
      by (call ∷ calls) e = cc
    fails-while status.Running (report.Failed rise) is e =
        let so : why ≡ fault.Host (o.work.done + 1) rise.before rise.after = cc in
        failed-turned early (runs is) why o.work.done made old none tells (report.Failed rise) store store
        (call-failed-reported s o moment s' (map (told_by s'.operations) waiting) h own is rise store
        (made ∙ ap (λ w. failed s o w o.work.done moment) so)
        (told-failed early (runs is) why o.work.done made old none tells
        ∙ ap (λ w. notice_of (as_ended o status.Failure w moment) moment ∷ []) so))
    fails-while status.Running report.NoMemory is e =
        let so : why ≡ fault.NoMemory = cc in
        failed-turned early (runs is) why o.work.done made old none tells report.NoMemory store store
        (call-unmade-reported s o moment s' (map (told_by s'.operations) waiting) h own is store
        (made ∙ ap (λ w. failed s o w o.work.done moment) so)
        (told-failed early (runs is) why o.work.done made old none tells
        ∙ ap (λ w. notice_of (as_ended o status.Failure w moment) moment ∷ []) so))
    fails-while status.Cancelling r is e = by o.work.undo e where
      by : (undo : Option HostCall) → turn_cancelling undo ≡ turn.Fails why
          → IsTurned s number r moment s' waiting turned.Ended store store
      by None e = cc
      by (Some call) e = cc
    fails-while status.Pending r is e = cc
    fails-while status.Success r is e = cc
    fails-while status.Failure r is e = cc
    fails-while status.Cancelled r is e = cc

  pub fails-turned : moment < moment_limit
      → (r : Report) (why : OpFault) (count : ℕ) (old : List Waiting) (store : Store)
      → turn_of (live_at s.operations number) r ≡ turn.Fails why
      → count ≡ option_map_or (λ (o : Operation Task). o.work.done) (live_at s.operations number) 0
      → ((o : Operation Task) → live_at s.operations number ≡ Some o → s' ≡ failed s o why count moment)
      → old ≡ [] → waiting ≡ old ++ shown_at s'.operations number moment
      → IsTurned s number r moment s' waiting turned.Ended store store
  fails-turned early r why count old store turns counted fails none tells =
      at (live_at s.operations number) refl turns where
        at : (x : Option (Operation Task)) → live_at s.operations number ≡ x → turn_of x r ≡ turn.Fails why
            → IsTurned s number r moment s' waiting turned.Ended store store
        at None gone e = cc
        at (Some o) live e =
            fails-while early why old store none tells o live
            (fails o live
            ∙ ap (λ n. failed s o why n moment)
            (counted ∙ ap (λ (x : Option (Operation Task)). option_map_or
            (λ (o : Operation Task). o.work.done) x 0) live))
            o.status r refl e
