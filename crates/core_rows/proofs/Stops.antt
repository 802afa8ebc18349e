-- What a cancel comes to, as one step of the machine, with the facts that hold of the rows after it.
use Rattle.std.proofs.Common.{◌≡◌, ℕ, ◌<◌, Bool, true, false, List, [], ◌∷◌, ◌++◌, map, Option, Some, None, IsSome}
use Rattle.std.proofs.Common.{refl, ap, sym, subst, ◌∙◌}
use Rattle.std.specs.Fmt.{decimal}
use Rattle.std.specs.Option.{option_and_then, option_map, option_map_or, is_some}
use Rattle.std.specs.Result.{result_err}
use Rattle.plain_lists.specs.Firsts.{first}
use Rattle.size_values.specs.Causes.{Refuses}
use Rattle.size_values.specs.Moments.{moment_limit}
use Rattle.size_values.specs.declared.kinds.ObjectKind.TheVariants as kind
use Rattle.size_values.specs.declared.memory.Or.{Or}
use Rattle.operations.specs.OperationTable.{live_at, kept_at, cancel_answer}
use Rattle.operations.specs.Statuses.{is_live, is_pending, cancel_of}
use Rattle.operations.specs.declared.operation.Operation.{Operation}
use Rattle.operations.specs.declared.operation.OpFault.TheVariants as fault
use Rattle.operations.specs.declared.status.Status.{Status}
use Rattle.operations.specs.declared.status.Status.TheVariants as status
use Rattle.operations.proofs.KeptLemmas.{live-from_kept}
use Rattle.record_keeper.specs.Store.{Store}
use Rattle.records.specs.declared.commands.Command.{Command}
use Rattle.records.specs.declared.commands.What.TheVariants as what
use Rattle.records.specs.declared.notices.Untold.{Untold}
use Rattle.records.specs.declared.refusals.Refusal.{Refusal}
use Rattle.records.specs.declared.replies.Reply.{Reply}
use Rattle.records.specs.declared.replies.Reply.TheVariants as reply
use Rattle.row_machine.specs.declared.events.Answer.TheVariants as answer
use Rattle.row_machine.specs.declared.events.Event.TheVariants as event
use Rattle.row_machine.specs.facts.Whole.{IsWhole}
use Rattle.row_machine.specs.machine.Accept.{and_then, accepted, after_cancel, cancel, cancel_or_read, carried_out, with_operation_notice}
use Rattle.row_machine.specs.machine.NameRules.{missing_unless, what_is_missing}
use Rattle.row_machine.specs.machine.Plans.{nothing, plan_of}
use Rattle.row_machine.specs.machine.Rules.{broken, names_broken, plan_broken, standing_broken}
use Rattle.row_machine.specs.machine.State.{State}
use Rattle.row_machine.specs.machine.Step.{after_command, step, well}
use Rattle.row_machine.specs.machine.TableRules.{cancel_broken, cancel_refusal}
use Rattle.row_machine.specs.machine.Task.{Task}
use Rattle.row_machine.specs.machine.Operations.{cancelled, moved}
use Rattle.row_machine.specs.opening.Records.{records_of}
use Rattle.row_machine.specs.shown.Notices.{telling}
use Rattle.machine_laws.proofs.Base.{live-number}
use Rattle.machine_laws.proofs.CancelsBegin.{live-kept}
use Rattle.machine_laws.proofs.ChangeKinds.{cancels-keep, cancelled-keeps}
use Rattle.machine_laws.proofs.Commands.{command_of}
use Rattle.machine_laws.proofs.Told.{names-right}
use Rattle.core_rows.specs.Asked.{changes_at_once, changes_of, unless_refused}
use Rattle.core_rows.specs.Cancels.{stopped, waits}
use Rattle.core_judging.specs.core_reports.specs.Waiting.{IsSilent}
use Rattle.core_judging.specs.Judged.{reply_for}
use Rattle.core_rows.specs.Planned.{Follows}
use Rattle.core_judging.specs.core_reports.specs.Stores.{Stores}
use Rattle.core_judging.specs.core_reports.specs.Turns.{shown_at}
use Rattle.core_judging.specs.core_reports.specs.Waiting.{told_by}
use Rattle.core_judging.specs.core_reports.specs.declared.waiting.Waiting.{Waiting}
use Rattle.core_judging.specs.core_reports.proofs.Begun.{shown-told}
use Rattle.core_judging.specs.core_reports.proofs.Comings.{cancelled-silent, cancelled-next}
use Rattle.core_rows.proofs.Following.{follows-why}
use Rattle.core_judging.specs.core_reports.proofs.Handing.{told-kept, moved-live}
use Rattle.core_judging.specs.core_reports.proofs.Reporting.{as_ended, cancelled-kept}
use Rattle.core_judging.specs.core_reports.proofs.Turning.{IsLive, is-live}

-- ---- which operations can be cancelled

-- the operation of this number waits or runs, and may be cancelled
pub data CanStop (s : State) (number : ℕ) : Type 0 where
  waiting : (l : IsLive s number status.Pending) → l.of.may_cancel ≡ true → CanStop s number
  running : (l : IsLive s number status.Running) → l.of.may_cancel ≡ true → CanStop s number

pub stops-live : (s : State) (number : ℕ) → CanStop s number → IsSome (live_at s.operations number)
stops-live s number (waiting l may) = is-live l
stops-live s number (running l may) = is-live l

-- what a cancel of it answers
stops-answer : (s : State) (number : ℕ) (now : Status) (l : IsLive s number now) → l.of.may_cancel ≡ true
    → cancel_answer (kept_at s.operations number) ≡ cancel_of true now
stops-answer s number now l may =
    ap cancel_answer (live-kept s number l.of l.live)
    ∙ ap (λ m. cancel_of m l.of.status) may
    ∙ ap (cancel_of true) l.status

-- one that is kept, and of which a cancel breaks no rule
kept-stops : (s : State) (number : ℕ) (o : Operation Task) → IsWhole s → kept_at s.operations number ≡ Some o
    → option_and_then (cancel_refusal number) (result_err (cancel_of o.may_cancel o.status)) ≡ None → CanStop s number
kept-stops s number o h kept free = by o.may_cancel o.status refl refl free where
  live : is_live o.status ≡ true → live_at s.operations number ≡ Some o
  live is = live-from_kept s.operations number o h.operations.kept kept is

  by : (may : Bool) (now : Status) → o.may_cancel ≡ may → o.status ≡ now
      → option_and_then (cancel_refusal number) (result_err (cancel_of may now)) ≡ None → CanStop s number
  by true status.Pending may now e = waiting (record { of = o; live = live (ap is_live now); numbered = live-number s number o (live (ap is_live now)); status = now }) may
  by true status.Running may now e = running (record { of = o; live = live (ap is_live now); numbered = live-number s number o (live (ap is_live now)); status = now }) may
  by true status.Cancelling may now e = cc
  by true status.Success may now e = cc
  by true status.Failure may now e = cc
  by true status.Cancelled may now e = cc
  by false status.Pending may now e = cc
  by false status.Running may now e = cc
  by false status.Cancelling may now e = cc
  by false status.Success may now e = cc
  by false status.Failure may now e = cc
  by false status.Cancelled may now e = cc

-- ---- the state after a cancel

-- as the machine has it, with these notices left untold, and the facts that hold of it
pub record IsStopped (s : State) (number moment : ℕ) (s' : State) (untold : List Untold) : Type 0 where
  pub after : after_cancel s number moment (cancel_answer (kept_at s.operations number)) ≡ telling untold s'
  pub whole : IsWhole s'
  pub silent : IsSilent s'
  pub next : s'.operations.next ≡ s.operations.next
  pub records : records_of s' ≡ records_of s

module _ (s : State) (number moment : ℕ) (s' : State) (old waiting : List Waiting) (h : IsWhole s) (quiet : IsSilent s)
    (early : moment < moment_limit) (none : old ≡ []) (tells : waiting ≡ old ++ shown_at s'.operations number moment) where
  -- it is told as it is kept
  told-left : (now : Operation Task) → now.number ≡ number → kept_at s'.operations number ≡ Some now
      → with_operation_notice s' number moment ≡ telling (map (told_by s'.operations) waiting) s'
  told-left now numbered kept =
      told-kept s' now number moment kept
      ∙ ap (λ ns. telling ns s')
      (sym
      (ap (map (told_by s'.operations)) (tells ∙ ap (λ xs. xs ++ shown_at s'.operations number moment) none)
      ∙ shown-told s'.operations now number moment numbered kept))

  -- one that waits has ended
  ended-stopped : (l : IsLive s number status.Pending) → l.of.may_cancel ≡ true → s' ≡ cancelled s number moment
      → IsStopped s number moment s' (map (told_by s'.operations) waiting)
  unfolding records_of cancelled
  ended-stopped l may made = record {
    after =
        ap (after_cancel s number moment) (stops-answer s number status.Pending l may)
        ∙ ap (λ t. with_operation_notice t number moment) (sym made)
        ∙ told-left (as_ended o status.Cancelled fault.None moment) l.numbered kept;
    whole = subst IsWhole (sym made_own) (cancelled-keeps s o moment early h own);
    silent = subst IsSilent (sym made) (cancelled-silent s number moment quiet);
    next = ap (λ (t : State). t.operations.next) made ∙ cancelled-next s number moment;
    records = ap records_of made;
  } where
    o : Operation Task
    o = l.of

    own : live_at s.operations o.number ≡ Some o
    own = ap (live_at s.operations) l.numbered ∙ l.live

    made_own : s' ≡ cancelled s o.number moment
    made_own = made ∙ ap (λ k. cancelled s k moment) (sym l.numbered)

    kept : kept_at s'.operations number ≡ Some (as_ended o status.Cancelled fault.None moment)
    kept =
        ap (λ (t : State). kept_at t.operations number) made_own
        ∙ ap (λ k. kept_at (cancelled s o.number moment).operations k) (sym l.numbered)
        ∙ cancelled-kept s o moment h.operations.kept own

  -- one that runs is being cancelled
  turned-stopped : (l : IsLive s number status.Running) → l.of.may_cancel ≡ true
      → s' ≡ moved number status.Cancelling moment s
      → IsStopped s number moment s' (map (told_by s'.operations) waiting)
  unfolding records_of
  turned-stopped l may made = record {
    after =
        ap (after_cancel s number moment) (stops-answer s number status.Running l may)
        ∙ ap (λ t. with_operation_notice t number moment) (sym made)
        ∙ told-left now l.numbered kept;
    whole = subst IsWhole (sym made_own)
        (cancels-keep s o moment early (record { whole = h; live = own; status = l.status }) may);
    silent = subst IsSilent (sym made) (record { notices = quiet.notices; next = quiet.next });
    next = ap (λ (t : State). t.operations.next) made;
    records = ap records_of made;
  } where
    o : Operation Task
    o = l.of

    now : Operation Task
    now = record o { status = status.Cancelling; updated = moment }

    own : live_at s.operations o.number ≡ Some o
    own = ap (live_at s.operations) l.numbered ∙ l.live

    made_own : s' ≡ moved o.number status.Cancelling moment s
    made_own = made ∙ ap (λ k. moved k status.Cancelling moment s) (sym l.numbered)

    kept : kept_at s'.operations number ≡ Some now
    kept =
        ap (λ (t : State). kept_at t.operations number) made_own
        ∙ ap (λ k. kept_at (moved o.number status.Cancelling moment s).operations k) (sym l.numbered)
        ∙ live-kept (moved o.number status.Cancelling moment s) o.number now
        (moved-live s o status.Cancelling moment own)

  -- whether the operation waits, by its status
  waits-as : (now : Status) (l : IsLive s number now) → waits s number ≡ is_pending now
  waits-as now l =
      ap (λ (x : Option (Operation Task)). option_map_or (λ (o : Operation Task). is_pending o.status) x false) l.live
      ∙ ap is_pending l.status

  pub stopped-is : CanStop s number → s' ≡ stopped s number moment (waits s number)
      → IsStopped s number moment s' (map (told_by s'.operations) waiting)
  stopped-is (CanStop.waiting l may) made =
      ended-stopped l may (made ∙ ap (stopped s number moment) (waits-as status.Pending l))
  stopped-is (CanStop.running l may) made =
      turned-stopped l may (made ∙ ap (stopped s number moment) (waits-as status.Running l))

-- ---- the command

-- a rule alone
alone : {R : Type 0} (rule : Option R) → first (rule ∷ []) ≡ rule
alone None = refl
alone (Some r) = refl

module _ (s : State) (c : Command) (number moment : ℕ) (asks : c.what ≡ what.Cancel number)
    (names : names_broken s c ≡ None) (standing : standing_broken s c ≡ None) where
  -- it plans nothing
  none-planned : (project : List ℕ) (expects : Option (List ℕ)) → plan_of s (command_of project expects (what.Cancel number)) moment ≡ nothing
  unfolding plan_of
  none-planned project expects = refl

  plans : plan_of s c moment ≡ nothing
  plans = ap (λ w. plan_of s (command_of c.project c.expects w) moment) asks ∙ none-planned c.project c.expects

  -- and is judged by the rules on cancels
  pub left-cancel : broken s c moment ≡ cancel_broken s c.what
  unfolding broken
  left-cancel =
      ap (λ o. first (o ∷ standing_broken s c ∷ plan_broken s c (plan_of s c moment) moment ∷ [])) names
      ∙ ap (λ o. first (o ∷ plan_broken s c (plan_of s c moment) moment ∷ [])) standing
      ∙ ap (λ p. first (plan_broken s c p moment ∷ [])) plans
      ∙ alone (cancel_broken s c.what)

  -- where it breaks none of them, the operation can be cancelled
  is-kept : what_is_missing s c.project (what.Cancel number) ≡ None
      → missing_unless (is_some (kept_at s.operations number)) kind.Operation (decimal number) ≡ None
  unfolding what_is_missing
  is-kept e = e

  is-free : cancel_broken s (what.Cancel number) ≡ None
      → option_and_then (cancel_refusal number) (result_err (cancel_answer (kept_at s.operations number))) ≡ None
  unfolding cancel_broken
  is-free e = e

  pub can-stop : IsWhole s → cancel_broken s c.what ≡ None → CanStop s number
  can-stop h free =
      at (kept_at s.operations number) refl
      (is-kept (subst (λ w. what_is_missing s c.project w ≡ None) asks (names-right s c names).objects))
      (is-free (subst (λ w. cancel_broken s w ≡ None) asks free))
    where
      at : (x : Option (Operation Task)) → kept_at s.operations number ≡ x
          → missing_unless (is_some x) kind.Operation (decimal number) ≡ None
          → option_and_then (cancel_refusal number) (result_err (cancel_answer x)) ≡ None → CanStop s number
      at None is missing free = cc
      at (Some o) is missing free = kept-stops s number o h is free

  -- ---- as one step

  -- it is refused
  pub cancel-refused : (untold : List Untold) (why : Or Refusal) (r : Reply) (store : Store)
      → Refuses why (cancel_broken s c.what) → untold ≡ [] → r ≡ reply_for why → Follows s c moment s untold r store store
  cancel-refused untold why r store refuses none replied =
      subst (λ x. Follows s c moment s untold x store store) (sym replied)
      (follows-why s c moment untold why store (subst (Refuses why) (sym left-cancel) refuses) none)

  -- no changes go to the store
  none-stored : changes_of s c moment ≡ []
  unfolding changes_of
  none-stored = at (broken s c moment) where
    at : (o : Option Refusal) → unless_refused o (plan_of s c moment) ≡ []
    at None = ap changes_at_once plans
    at (Some r) = refl

  cancel-step : broken s c moment ≡ None → step s (event.Ask c moment) well ≡ Some (cancel s number moment)
  unfolding step accepted
  cancel-step free =
      ap (after_command s c moment well) free
      ∙ ap (λ p. Some (carried_out s c moment p)) plans
      ∙ ap (λ w. Some (cancel_or_read s c moment w)) asks

  -- it is accepted
  pub cancel-follows : (s' : State) (untold : List Untold) (store : Store) → cancel_broken s c.what ≡ None
      → IsStopped s number moment s' untold → Follows s c moment s' untold reply.Empty store store
  cancel-follows s' untold store free stopped = record {
    asked = record {
      outcome = well;
      caused = refl;
      stored = subst (λ cs. Stores cs well store store) (sym none-stored) refl;
      is = cancel-step (left-cancel ∙ free) ∙ ap (λ t. Some (and_then (answer.Reply reply.Empty) t)) stopped.after;
    };
    kept = λ start told. told ∙ ap (λ rs. option_map (λ _. rs) start) (sym stopped.records);
  }
