-- What is known of projects after a report was taken, and after a cancel.
use Rattle.std.proofs.Common.{◌≡◌, ◌≢◌, ℕ, ◌⊎◌, Bool, true, false, cond, Option, Some, None, List, [], ◌∷◌, inl, inr, refl, sym, ◌∙◌, ap, subst}
use Rattle.host_model.specs.declared.call.HostCall.{HostCall}
use Rattle.host_model.specs.declared.report.Report.{Report}
use Rattle.host_model.specs.declared.report.Report.TheVariants as report
use Rattle.operations.specs.declared.operation.Operation.{Operation}
use Rattle.operations.specs.declared.operation.OpFault.{OpFault}
use Rattle.operations.specs.declared.operation.OpFault.TheVariants as fault
use Rattle.operations.specs.declared.status.Status.{Status}
use Rattle.operations.specs.declared.status.Status.TheVariants as status
use Rattle.operations.specs.OperationTable.{live_at, kept_at}
use Rattle.records.specs.declared.notices.Untold.{Untold}
use Rattle.row_machine.specs.declared.changes.RowChange.{RowChange}
use Rattle.row_machine.specs.declared.events.Answer.{Answer}
use Rattle.row_machine.specs.declared.events.Answer.TheVariants as answer
use Rattle.row_machine.specs.declared.events.Event.TheVariants as event
use Rattle.row_machine.specs.machine.Accept.{After}
use Rattle.row_machine.specs.machine.State.{State}
use Rattle.row_machine.specs.machine.Step.{Outcome, well, keeper_failed, no_memory, step, done, reported, while_running, while_cancelling, call_done, call_failed, committed, failure, success, stray}
use Rattle.row_machine.specs.machine.Task.{Task}
use Rattle.row_machine.specs.machine.Operations.{with_task, one_more_done, undone, failed, cancelled, succeeded, success_changes}
use Rattle.row_machine.specs.shown.Notices.{telling, operation_notice, success_notices}
use Rattle.row_machine.specs.facts.Whole.{IsWhole}
use Rattle.machine_laws.proofs.Base.{live-number}
use Rattle.machine_laws.proofs.EndsShares.{told-same}
use Rattle.machine_laws.proofs.SharesCores.{cores-work}
use Rattle.core_reports.proofs.Reporting.{as_ended, failed-kept, cancelled-kept, succeeded-kept}
use Rattle.std.specs.Prelude.{IfSome}
use Rattle.row_readings.specs.Footprints.{share_footprint}
use Rattle.row_readings.specs.declared.amounts.Footprint.{Footprint}
use Rattle.core_totals.specs.declared.ends.Counted.{Counted}
use Rattle.core_totals.specs.declared.totals.Totals.{Totals}
use Rattle.core_totals.specs.Totals.{AreTotals, lowered, nothing_known}
use Rattle.core_totals.specs.Ends.{given_back, held_footprint, leaves_usage, has_fall, fall_of, HasFall, IsCounted, after_return, after_success, after_status, after_end}
use Rattle.core_totals.proofs.Told.{totals-same, totals-none, totals-fallen}
use Rattle.core_totals.proofs.Successes.{leaves-usage, lowers-usage}
use Rattle.core_totals.proofs.Shares.{share-held, totals-given_back}
use Rattle.core_totals.proofs.Usage.{SameUsage, Falls, Loses, falls-told, falls-untold, usage-cores, usage-told, told-usage, failed-loses, cancelled-loses, loses-told, loses-untold}

-- What a report of an operation comes to: no operation ends, and no usage changes; or it fails or is cancelled, and what it
-- claimed counts no more; or it succeeds.
pub data Comes (s : State) (n : ℕ) (r : Answer) (t : State) : Type 0 where
  goes_on : SameUsage s t → ((m : ℕ) → r ≢ answer.Ended m) → Comes s n r t
  gives_back : (o : Operation Task) (now : Status) (why : OpFault) (moment : ℕ) → live_at s.operations n ≡ Some o
      → kept_at t.operations n ≡ Some (as_ended o now why moment) → (now ≡ status.Failure) ⊎ (now ≡ status.Cancelled) → r ≡ answer.Ended n
      → Loses s t o → Comes s n r t
  succeeds : (o : Operation Task) (moment : ℕ) → live_at s.operations n ≡ Some o → r ≡ answer.Ended n
      → kept_at t.operations n ≡ Some (as_ended o status.Success fault.None moment) → (leaves_usage o.work.deed ≡ true → SameUsage s t)
      → (has_fall o.work.deed ≡ true → Falls s t o.work.project (fall_of s o.work)) → Comes s n r t

-- each state that a report can leave
abbrev Reaches : State → ℕ → Option After → Type 0
Reaches s n result = (a : After) → result ≡ Some a → Comes s n a.answer a.state

none-reached : (s : State) (n : ℕ) → Reaches s n None
none-reached s n a is = cc

reached : (s : State) (n : ℕ) (b : After) → Comes s n b.answer b.state → Reaches s n (Some b)
reached s n b h a is = subst (λ (x : After). Comes s n x.answer x.state) (some-is is) h where
  some-is : {x y : After} → Some x ≡ Some y → x ≡ y
  some-is same = cc

told-kept : (s : State) (ns : List Untold) (n : ℕ) (o : Operation Task) → kept_at s.operations n ≡ Some o → kept_at (telling ns s).operations n ≡ Some o
told-kept s ns n o is = ap (λ k. kept_at k n) (told-same ns s).operations ∙ is

module _ (s : State) (o : Operation Task) (moment : ℕ) (h : IsWhole s) (live : live_at s.operations o.number ≡ Some o) where
  failure-comes : (why : OpFault) (count : ℕ) → Comes s o.number (failure s o why count moment).answer (failure s o why count moment).state
  failure-comes why count =
      let t = failed s o why count moment in
      let ns = operation_notice t o.number moment in
      gives_back o status.Failure why moment live (told-kept t ns o.number (as_ended o status.Failure why moment) (failed-kept s o moment h.operations.kept live why count))
      (inl refl) refl (loses-told s t o ns (failed-loses s o why count moment live))

  cancel-comes : Comes s o.number (answer.Ended o.number) (telling (operation_notice (cancelled s o.number moment) o.number moment) (cancelled s o.number moment))
  cancel-comes =
      let t = cancelled s o.number moment in
      let ns = operation_notice t o.number moment in
      gives_back o status.Cancelled fault.None moment live (told-kept t ns o.number (as_ended o status.Cancelled fault.None moment) (cancelled-kept s o moment h.operations.kept live))
      (inr refl) refl (loses-told s t o ns (cancelled-loses s o.number moment o live))

  success-comes : o.status ≡ status.Running → o.work.calls ≡ [] → Comes s o.number (success s o moment).answer (success s o moment).state
  success-comes running none_left =
      let t = succeeded s o moment in
      let lives = success_notices o.work moment in
      let u = telling lives t in
      let ns = operation_notice u o.number moment in
      let ended = as_ended o status.Success fault.None moment in
      succeeds o moment live refl (told-kept u ns o.number ended (told-kept t lives o.number ended (succeeded-kept s o moment h.operations.kept live)))
      (λ leaves. told-usage s u ns (told-usage s t lives (leaves-usage s o moment h live leaves)))
      (λ falls. falls-told s u o.work.project (fall_of s o.work) ns (falls-told s t o.work.project (fall_of s o.work) lives
      (lowers-usage s o moment (record { whole = h; live = live; running = running; calls = none_left }) falls)))

  committed-comes : o.status ≡ status.Running → o.work.calls ≡ [] → (outcome : Outcome) (cs : List RowChange)
      → Reaches s o.number (committed s o moment outcome cs)
  committed-comes running none_left well [] = reached s o.number _ (success-comes running none_left)
  committed-comes running none_left well (c ∷ cs) = reached s o.number _ (success-comes running none_left)
  committed-comes running none_left (keeper_failed rise) [] = none-reached s o.number
  committed-comes running none_left (keeper_failed rise) (c ∷ cs) = reached s o.number _ (failure-comes _ _)
  committed-comes running none_left no_memory [] = reached s o.number _ (failure-comes _ _)
  committed-comes running none_left no_memory (c ∷ cs) = reached s o.number _ (failure-comes _ _)

  handed-comes : (call : HostCall) (rest : List HostCall) → Comes s o.number (answer.Job o.number call) (with_task o.number (one_more_done o.work rest) s)
  handed-comes call rest = goes_on (usage-cores s _ (cores-work o (one_more_done o.work rest) s.operations live refl)) (λ m e. cc)

  undone-comes : (call : HostCall) → Comes s o.number (answer.Job o.number call) (with_task o.number (undone o.work) s)
  undone-comes call = goes_on (usage-cores s _ (cores-work o (undone o.work) s.operations live refl)) (λ m e. cc)

  call_done-comes : o.status ≡ status.Running → (outcome : Outcome) (calls : List HostCall) → o.work.calls ≡ calls
      → Reaches s o.number (call_done s o moment outcome calls)
  call_done-comes running well (call ∷ rest) is = reached s o.number _ (handed-comes call rest)
  call_done-comes running (keeper_failed rise) (call ∷ rest) is = none-reached s o.number
  call_done-comes running no_memory (call ∷ rest) is = none-reached s o.number
  call_done-comes running well [] is = committed-comes running is well (success_changes s o.work)
  call_done-comes running (keeper_failed rise) [] is = committed-comes running is (keeper_failed rise) (success_changes s o.work)
  call_done-comes running no_memory [] is = committed-comes running is no_memory (success_changes s o.work)

  call_failed-comes : (outcome : Outcome) (why : OpFault) → Reaches s o.number (call_failed s o moment outcome why)
  call_failed-comes well why = reached s o.number _ (failure-comes why _)
  call_failed-comes (keeper_failed rise) why = none-reached s o.number
  call_failed-comes no_memory why = none-reached s o.number

  running-comes : o.status ≡ status.Running → (r : Report) (outcome : Outcome) → Reaches s o.number (while_running s o r moment outcome)
  running-comes running report.Done outcome = call_done-comes running outcome o.work.calls refl
  running-comes running (report.Failed rise) outcome = call_failed-comes outcome _
  running-comes running report.NoMemory outcome = call_failed-comes outcome _

  cancelling-comes : (outcome : Outcome) (undo : Option HostCall) → Reaches s o.number (while_cancelling s o moment outcome undo)
  cancelling-comes well (Some call) = reached s o.number _ (undone-comes call)
  cancelling-comes well None = reached s o.number _ cancel-comes
  cancelling-comes (keeper_failed rise) None = none-reached s o.number
  cancelling-comes (keeper_failed rise) (Some call) = none-reached s o.number
  cancelling-comes no_memory None = none-reached s o.number
  cancelling-comes no_memory (Some call) = none-reached s o.number

stray-comes : (s : State) (n : ℕ) (outcome : Outcome) → Reaches s n (stray s n outcome)
stray-comes s n well = reached s n _ (goes_on (λ project k measure. refl) (λ m e. cc))
stray-comes s n (keeper_failed rise) = none-reached s n
stray-comes s n no_memory = none-reached s n

reported-comes : (s : State) (o : Operation Task) (r : Report) (moment : ℕ) (outcome : Outcome) (now : Status) → IsWhole s
    → live_at s.operations o.number ≡ Some o → o.status ≡ now → Reaches s o.number (reported s o r moment outcome now)
reported-comes s o r moment outcome status.Running h live is = running-comes s o moment h live is r outcome
reported-comes s o r moment outcome status.Cancelling h live is = cancelling-comes s o moment h live outcome o.work.undo
reported-comes s o r moment outcome status.Pending h live is = stray-comes s o.number outcome
reported-comes s o r moment outcome status.Success h live is = stray-comes s o.number outcome
reported-comes s o r moment outcome status.Failure h live is = stray-comes s o.number outcome
reported-comes s o r moment outcome status.Cancelled h live is = stray-comes s o.number outcome

done-comes : (s : State) (n : ℕ) (r : Report) (moment : ℕ) (outcome : Outcome) (found : Option (Operation Task)) → IsWhole s
    → live_at s.operations n ≡ found → Reaches s n (done s n r moment outcome found)
done-comes s n r moment outcome (Some o) h found =
    let same = live-number s n o found in
    subst (λ m. Reaches s m (reported s o r moment outcome o.status)) same
    (reported-comes s o r moment outcome o.status h (subst (λ m. live_at s.operations m ≡ Some o) (sym same) found) refl)
done-comes s n r moment outcome None h found = stray-comes s n outcome

-- what a report comes to as one step
pub step-comes : (s : State) (n : ℕ) (r : Report) (moment : ℕ) (outcome : Outcome) (after : After) → IsWhole s
    → step s (event.Done n r moment) outcome ≡ Some after → Comes s n after.answer after.state
unfolding step
step-comes s n r moment outcome after h is = done-comes s n r moment outcome (live_at s.operations n) h refl after is

-- ---- totals after it

module _ (s t : State) (n : ℕ) (untold : List Untold) (totals : Totals) (counted : Counted) (h : IsWhole s) (are : AreTotals s totals)
    (is : IsCounted s n counted) where
  -- as no operation ended
  pub still-totals : (r : Answer) → ((m : ℕ) → r ≢ answer.Ended m) → Comes s n r (telling untold t) → AreTotals t totals
  still-totals r never (goes_on usage apart) = totals-same s t totals are (usage-told s t untold usage)
  still-totals r never (gives_back o now why moment live kept which ended loses) = absurd (never n ended)
  still-totals r never (succeeds o moment live ended kept leaves falls) = absurd (never n ended)

  -- as one did
  abbrev IsAfter : Option (Operation Task) → Type 0
  IsAfter kept = AreTotals t (after_end kept counted totals)

  kept-told : (o : Operation Task) → kept_at (telling untold t).operations n ≡ Some o → kept_at t.operations n ≡ Some o
  kept-told o kept = ap (λ k. kept_at k n) (sym (told-same untold t).operations) ∙ kept

  success-totals : (o : Operation Task) → live_at s.operations n ≡ Some o → (leaves_usage o.work.deed ≡ true → SameUsage s t)
      → (has_fall o.work.deed ≡ true → Falls s t o.work.project (fall_of s o.work))
      → AreTotals t (after_success o.work counted.fall totals)
  success-totals o live leaves falls = by counted.fall is.fall where
    at : (b : Bool) → leaves_usage o.work.deed ≡ b → AreTotals t (cond b totals nothing_known)
    at true does = totals-same s t totals are (leaves does)
    at false not = totals-none t

    by : (fall : Option Footprint) → IfSome fall (HasFall s (live_at s.operations n)) → AreTotals t (after_success o.work fall totals)
    by None known = at (leaves_usage o.work.deed) refl
    by (Some fall) known =
        let has : HasFall s (Some o) fall = subst (λ x. HasFall s x fall) live known in
        subst (λ (f : Footprint). AreTotals t (lowered o.work.project f.amounts f.on totals)) (sym has.1)
        (totals-fallen s t totals are o.work.project (fall_of s o.work) (falls has.0))

  pub ended-totals : Comes s n (answer.Ended n) (telling untold t) → AreTotals t (after_end (kept_at t.operations n) counted totals)
  ended-totals (goes_on usage apart) = absurd (apart n refl)
  ended-totals (gives_back o now why moment live kept which ended loses) =
      subst IsAfter (sym (kept-told (as_ended o now why moment) kept)) (by which) where
        returned : AreTotals t (given_back o.work (share_footprint s o.work).amounts (share_footprint s o.work).on totals)
        returned = totals-given_back s t o (loses-untold s t o untold loses) totals are

        given-by : (share : Option Footprint) → IfSome share (λ f. f ≡ held_footprint s n) → AreTotals t (after_return o.work share totals)
        given-by None known = totals-none t
        given-by (Some f) known = subst (λ (x : Footprint). AreTotals t (given_back o.work x.amounts x.on totals)) (sym (known ∙ share-held s n o h live)) returned

        given : AreTotals t (after_return o.work counted.share totals)
        given = given-by counted.share is.share

        by : (now ≡ status.Failure) ⊎ (now ≡ status.Cancelled) → AreTotals t (after_status now o.work counted totals)
        by (inl e) = subst (λ x. AreTotals t (after_status x o.work counted totals)) (sym e) given
        by (inr e) = subst (λ x. AreTotals t (after_status x o.work counted totals)) (sym e) given
  ended-totals (succeeds o moment live ended kept leaves falls) =
      subst IsAfter (sym (kept-told (as_ended o status.Success fault.None moment) kept))
      (success-totals o live (λ does. usage-told s t untold (leaves does)) (λ does. falls-untold s t o.work.project (fall_of s o.work) untold (falls does)))
