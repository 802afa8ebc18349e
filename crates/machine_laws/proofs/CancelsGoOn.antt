-- An operation that is being cancelled has its deed taken back and is then Cancelled, and nothing else happens to it.
use Rattle.std.proofs.Common.{◌≡◌, ◌≢◌, inl, inr, ℕ, Option, Some, None, List, refl, sym, ap, subst, ◌∙◌}
use Rattle.std.specs.List.{find}
use Rattle.std.specs.Option.{option_map, option_or}
use Rattle.std.proofs.lemmas.Bool.{eq-eqb, eqb-true, ne_eqb}
use Rattle.std.proofs.lemmas.Bool.Decides.{eqb_tells}
use Rattle.std.proofs.lemmas.List.Folds.{find-append}
use Rattle.plain_lists.specs.Edits.{changed_first}
use Rattle.plain_lists.proofs.EditLemmas.{find-changed, find-changed_other, find-gone}
use Rattle.plain_lists.proofs.Keys.{Distinct-left}
use Rattle.host_model.specs.declared.report.Report.{Report}
use Rattle.operations.specs.declared.operation.Operation.{Operation}
use Rattle.operations.specs.declared.status.Status.{Status}
use Rattle.operations.specs.declared.status.Status.TheVariants as status
use Rattle.operations.specs.declared.status.Status.TheVariants.{Running, Cancelling}
use Rattle.operations.specs.declared.operation.OpFault.TheVariants as fault
use Rattle.operations.specs.OperationTable.{OperationTable, has_number, live_at, kept_at}
use Rattle.records.specs.declared.notices.Untold.{Untold}
use Rattle.row_machine.specs.declared.events.Event.TheVariants as event
use Rattle.row_machine.specs.declared.events.Answer.TheVariants as answer
use Rattle.row_machine.specs.machine.Task.{Task}
use Rattle.row_machine.specs.machine.State.{State}
use Rattle.row_machine.specs.opening.Records.{rows_of}
use Rattle.row_machine.specs.machine.Changes.{applied}
use Rattle.row_machine.specs.shown.Notices.{telling, operation_notice}
use Rattle.row_machine.specs.machine.Operations.{entered, with_task, moved, handing_out, undone, cancelled, failed, succeeded}
use Rattle.row_machine.specs.machine.Accept.{and_then}
use Rattle.row_machine.specs.machine.Step.{step, well, done, reported, while_cancelling, after_end}
use Rattle.row_machine.specs.facts.Whole.{IsWhole}
use Rattle.machine_laws.specs.Headline.{IsKeptAs}
use Rattle.machine_laws.specs.Cancels.{CancellingGoesOn, CancellingStays, StaysCancelling}
use Rattle.machine_laws.specs.Cancels.StaysCancelling.{as_it_was, taken_back, cancelled as is_cancelled}
use Rattle.machine_laws.proofs.Base.{first-live}
use Rattle.machine_laws.proofs.BooksSteps.{applied-same}
use Rattle.machine_laws.proofs.Steps.{Alters, step-alters, IsCancellable}
use Rattle.machine_laws.proofs.Steps.IsCancellable.{waits, taken_back as was_taken_back}
use Rattle.machine_laws.proofs.Steps.AltersBy.{stays, closes, rows, enters, hands_out, goes_on, takes_back, turns, cancels, fails, succeeds}
use Rattle.machine_laws.proofs.EndsLive.{kept-ended, live-apart}
use Rattle.machine_laws.proofs.EndsShares.{told-same, cancelled-left, failed-left, succeeded-left}
use Rattle.machine_laws.proofs.CancelsBegin.{told-rows}

-- ---- the cancelled state

-- what a cancelled operation leaves: all rows, and itself among the ended
cancelled-rows : (s : State) (n moment : ℕ) → rows_of (cancelled s n moment) ≡ rows_of s
unfolding cancelled
cancelled-rows s n moment = refl

cancelled-kept : (s : State) (o : Operation Task) (moment : ℕ) → IsWhole s → live_at s.operations o.number ≡ Some o → IsKeptAs (cancelled s o.number moment) o status.Cancelled
unfolding cancelled
cancelled-kept s o moment h live = kept-ended s.operations o.number status.Cancelled fault.None moment o h.operations.kept live

cancelled-gone : (s : State) (n moment : ℕ) → IsWhole s → live_at (cancelled s n moment).operations n ≡ None
cancelled-gone s n moment h =
    ap (find (has_number n)) (cancelled-left s n moment)
    ∙ find-gone (λ (x : Operation Task). x.number) (has_number n) s.operations.live
    (Distinct-left (λ (x : Operation Task). x.number) s.operations.live s.operations.ended h.operations.kept.numbered.distinct)
    (λ x y px py. eqb-true y.number n py ∙ sym (eqb-true x.number n px))

told-kept : (s : State) (ns : List Untold) (o : Operation Task) (now : Status) → IsKeptAs s o now → IsKeptAs (telling ns s) o now
told-kept s ns o now e = ap (λ k. option_map (λ (x : Operation Task). x.status) (kept_at k o.number)) (told-same ns s).operations ∙ e

told-live : (s : State) (ns : List Untold) (n : ℕ) → live_at (telling ns s).operations n ≡ live_at s.operations n
told-live s ns n = ap (λ k. live_at k n) (told-same ns s).operations

-- ---- reports of it

reports : (s : State) (o : Operation Task) (report : Report) (moment : ℕ) → live_at s.operations o.number ≡ Some o → o.status ≡ Cancelling
    → step s (event.Done o.number report moment) well ≡ while_cancelling s o moment well o.work.undo
unfolding step
reports s o report moment live is =
    ap (done s o.number report moment well) live ∙ ap (reported s o report moment well) is

pub cancelling-goes : CancellingGoesOn
cancelling-goes s o report moment h live is = record {
  first = λ call undo. (
    and_then (answer.Job o.number call) (with_task o.number (undone o.work) s),
    (
      reports s o report moment live is ∙ ap (while_cancelling s o moment well) undo,
      record { answer = refl; cancelling = changed; rows = refl },
    ),
  );
  second = λ none. (
    after_end (cancelled s o.number moment) o.number moment,
    (
      reports s o report moment live is ∙ ap (while_cancelling s o moment well) none,
      record {
        answer = refl;
        kept = told-kept (cancelled s o.number moment) (operation_notice (cancelled s o.number moment) o.number moment) o status.Cancelled (cancelled-kept s o moment h live);
        over = told-live (cancelled s o.number moment) (operation_notice (cancelled s o.number moment) o.number moment) o.number ∙ cancelled-gone s o.number moment h;
        rows = told-rows (cancelled s o.number moment) (operation_notice (cancelled s o.number moment) o.number moment) ∙ cancelled-rows s o.number moment;
      },
    ),
  );
} where
  changed : live_at (with_task o.number (undone o.work) s).operations o.number ≡ Some (record o { work = undone o.work })
  changed = find-changed (has_number o.number) (λ (x : Operation Task). record x { work = undone o.work }) o s.operations.live live (eq-eqb o.number o.number refl)

-- ---- every other step

-- two that are found by one number are one
one-found : (s : State) (o other : Operation Task) → live_at s.operations o.number ≡ Some o → live_at s.operations other.number ≡ Some other → o.number ≡ other.number → other ≡ o
one-found s o other live other_live same = some-is (sym other_live ∙ ap (live_at s.operations) (sym same) ∙ live) where
  some-is : {x y : Operation Task} → Some x ≡ Some y → x ≡ y
  some-is e = cc

-- a change of another one leaves it
other-changed : (k : OperationTable Task) (o : Operation Task) (m : ℕ) (f : Operation Task → Operation Task) → ((x : Operation Task) → (f x).number ≡ x.number) → o.number ≢ m
    → find (has_number o.number) (changed_first (has_number m) f k.live) ≡ live_at k o.number
other-changed k o m f keeps apart = find-changed_other (has_number m) (has_number o.number) f k.live
    (λ y is. (ne_eqb y.number o.number (λ e. apart (sym e ∙ eqb-true y.number m is)), ne_eqb (f y).number o.number (λ e. apart (sym e ∙ keeps y ∙ eqb-true y.number m is))))

-- of one live operation that a step is about: it is this one, or this one stays
either : {X : Type 0} (s : State) (o other : Operation Task) → live_at s.operations o.number ≡ Some o → live_at s.operations other.number ≡ Some other
    → (other ≡ o → X) → (o.number ≢ other.number → X) → X
either s o other live other_live same apart = elim (eqb_tells o.number other.number) [
  | inl e ↦ same (one-found s o other live other_live e.1)
  | inr e ↦ apart e.1
]

-- another status than Cancelling
not-it : {X : Type 0} (o other : Operation Task) (now : Status) → o.status ≡ Cancelling → other.status ≡ now → now ≢ Cancelling → other ≡ o → X
not-it o other now is other_is differs same = absurd (differs (sym other_is ∙ ap (λ (x : Operation Task). x.status) same ∙ is))

pending-apart : status.Pending ≢ Cancelling
pending-apart e = cc

running-apart : Running ≢ Cancelling
running-apart e = cc

entered-found : (s : State) (task : Task) (moment : ℕ) (o : Operation Task) → live_at s.operations o.number ≡ Some o
    → live_at (entered s task moment).operations o.number ≡ Some o
unfolding entered
entered-found s task moment o live = find-append (has_number o.number) s.operations.live _ ∙ first _ _ live where
  first : (x rest : Option (Operation Task)) → x ≡ Some o → option_or x rest ≡ Some o
  first x rest e = ap (λ y. option_or y rest) e

stays-cancelling : {s t : State} (o : Operation Task) → IsWhole s → live_at s.operations o.number ≡ Some o → o.status ≡ Cancelling → Alters s t → StaysCancelling s t o
stays-cancelling o h live is stays = as_it_was live
stays-cancelling o h live is closes = as_it_was live
stays-cancelling {s} o h live is (rows c moment cs ns known accepted) =
    as_it_was (told-live (applied s cs) ns o.number ∙ ap (λ k. live_at k o.number) (applied-same cs s).operations ∙ live)
stays-cancelling {s} o h live is (enters c moment task ns known accepted) = as_it_was (told-live (entered s task moment) ns o.number ∙ entered-found s task moment o live)
stays-cancelling {s} o h live is (hands_out other moment call rest ns early first calls) =
    let found = first-live s other h first in
    either s o other live found.0 (not-it o other status.Pending is found.1 pending-apart)
    (λ apart. as_it_was (told-live (with_task other.number (handing_out other.work rest) (moved other.number Running moment s)) ns o.number
    ∙ other-changed (moved other.number Running moment s).operations o other.number _ (λ x. refl) apart
    ∙ other-changed s.operations o other.number _ (λ x. refl) apart ∙ live))
stays-cancelling {s} o h live is (goes_on other call rest l calls) =
    either s o other live l.live (not-it o other Running is l.status running-apart)
    (λ apart. as_it_was (other-changed s.operations o other.number _ (λ x. refl) apart ∙ live))
stays-cancelling {s} o h live is (takes_back other call l undo) =
    either s o other live l.live
    (λ same. subst (λ (x : Operation Task). StaysCancelling s (with_task x.number (undone x.work) s) o) (sym same)
    (taken_back call (ap (λ (x : Operation Task). x.work.undo) (sym same) ∙ undo)
    (find-changed (has_number o.number) (λ (x : Operation Task). record x { work = undone o.work }) o s.operations.live live (eq-eqb o.number o.number refl)) refl))
    (λ apart. as_it_was (other-changed s.operations o other.number _ (λ x. refl) apart ∙ live))
stays-cancelling {s} o h live is (turns other moment ns early l may) =
    either s o other live l.live (not-it o other Running is l.status running-apart)
    (λ apart. as_it_was (told-live (moved other.number Cancelling moment s) ns o.number ∙ other-changed s.operations o other.number _ (λ x. refl) apart ∙ live))
stays-cancelling {s} o h live is (cancels other moment ns early other_live why) = either s o other live other_live (by why)
    (λ apart. as_it_was (told-live (cancelled s other.number moment) ns o.number ∙ ap (find (has_number o.number)) (cancelled-left s other.number moment)
    ∙ live-apart s.operations o.number other.number apart ∙ live)) where
      by : IsCancellable other → other ≡ o → StaysCancelling s (telling ns (cancelled s other.number moment)) o
      by (waits pending may) same = not-it o other status.Pending is pending pending-apart same
      by (was_taken_back now undo) same = subst (λ (x : Operation Task). StaysCancelling s (telling ns (cancelled s x.number moment)) o) (sym same)
          (is_cancelled (ap (λ (x : Operation Task). x.work.undo) (sym same) ∙ undo)
          (told-kept (cancelled s o.number moment) ns o status.Cancelled (cancelled-kept s o moment h live))
          (told-live (cancelled s o.number moment) ns o.number ∙ cancelled-gone s o.number moment h)
          (told-rows (cancelled s o.number moment) ns ∙ cancelled-rows s o.number moment))
stays-cancelling {s} o h live is (fails other why done moment ns early l) =
    either s o other live l.live (not-it o other Running is l.status running-apart)
    (λ apart. as_it_was (told-live (failed s other why done moment) ns o.number ∙ ap (find (has_number o.number)) (failed-left s other why done moment)
    ∙ live-apart s.operations o.number other.number apart ∙ live))
stays-cancelling {s} o h live is (succeeds other moment lives ns early l none) =
    either s o other live l.live (not-it o other Running is l.status running-apart)
    (λ apart. as_it_was (told-live (telling lives (succeeded s other moment)) ns o.number ∙ told-live (succeeded s other moment) lives o.number
    ∙ ap (find (has_number o.number)) (succeeded-left s other moment)
    ∙ live-apart s.operations o.number other.number apart ∙ live))

pub cancelling-stays : CancellingStays
cancelling-stays s e outcome after o h possible stepped live is = stays-cancelling o h live is (step-alters s e outcome after h possible stepped)
