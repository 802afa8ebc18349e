-- The first operation that waits has calls, and one that is handed out makes it run.
use Rattle.std.proofs.Common.{◌≡◌, ℕ, ◌<◌, List, [], ◌∷◌, ◌++◌, length, map, Option, Some, None, IsSome, refl, ap, sym, subst, ◌∙◌, arith}
use Rattle.std.specs.Option.{option_map, option_and_then, option_to_list}
use Rattle.size_values.specs.Moments.{moment_limit}
use Rattle.row_machine.specs.Words.{calls_of}
use Rattle.host_model.specs.declared.call.HostCall.{HostCall}
use Rattle.operations.specs.declared.operation.Operation.{Operation}
use Rattle.operations.specs.declared.status.Status.TheVariants as status
use Rattle.operations.specs.OperationTable.{OperationTable, live_at, kept_at, first_pending_of}
use Rattle.records.specs.declared.notices.Untold.{Untold}
use Rattle.row_machine.specs.machine.Task.{Task}
use Rattle.row_machine.specs.machine.State.{State}
use Rattle.row_machine.specs.machine.Step.{first_pending}
use Rattle.row_machine.specs.machine.Operations.{with_task, moved, handing_out}
use Rattle.row_machine.specs.facts.Whole.{IsWhole, IsUnderWay, calls_out}
use Rattle.machine_laws.proofs.Base.{live-mem, first-live}
use Rattle.machine_laws.proofs.CancelsBegin.{live-kept}
use Rattle.machine_laws.proofs.ChangeKinds.{first_calls-keep}
use Rattle.machine_laws.proofs.WaitsEnding.{few-calls}
use Rattle.core_drafts.specs.Background.{handed, handed_at}
use Rattle.core_drafts.specs.declared.calls.Handing.TheVariants as handing
use Rattle.core_reports.specs.Jobs.{IsTaken}
use Rattle.core_reports.specs.Waiting.{IsSilent}
use Rattle.core_reports.specs.Turns.{shown_as, shown_at, IsBegun}
use Rattle.core_reports.specs.Waiting.{told_by, told_of}
use Rattle.core_reports.specs.declared.waiting.Waiting.{Waiting}
use Rattle.core_reports.proofs.Handing.{notice_of, with-task-live, moved-live, first-taken}

-- ---- the first that waits

-- the operation of this number waits first
pub record IsFirst (s : State) (number : ℕ) : Type 0 where
  pub of : Operation Task
  pub first : first_pending s ≡ Some of
  pub numbered : of.number ≡ number

pub first-found : (s : State) (number : ℕ) → first_pending_of s.operations ≡ Some number → IsFirst s number
first-found s number h = at (first_pending s) refl h where
  at : (x : Option (Operation Task)) → first_pending s ≡ x → option_map (λ (o : Operation Task). o.number) x ≡ Some number → IsFirst s number
  at None is h = cc
  at (Some o) is h = record { of = o; first = is; numbered = cc }

-- none of a number means none at all
pub none-first : (s : State) → first_pending_of s.operations ≡ None → first_pending s ≡ None
none-first s h = at (first_pending s) refl h where
  at : (x : Option (Operation Task)) → first_pending s ≡ x → option_map (λ (o : Operation Task). o.number) x ≡ None → first_pending s ≡ None
  at None is h = is
  at (Some o) is h = cc

-- ---- its calls

-- a call is left, and others after it
pub record HasCalls (task : Task) : Type 0 where
  pub call : HostCall
  pub rest : List HostCall
  pub calls : task.calls ≡ call ∷ rest

-- all calls of one that waits are left
waiting-calls : (o : Operation Task) → IsUnderWay o → o.status ≡ status.Pending → HasCalls o.work
waiting-calls o u waits = at o.work.calls refl where
  all : length o.work.calls ≡ length (calls_of o.work.deed)
  all = omega (arith, u.calls, u.waiting waits, ap calls_out waits)

  at : (calls : List HostCall) → o.work.calls ≡ calls → HasCalls o.work
  at [] is = let some = few-calls o.work.deed in absurd (omega (arith, some.0, all, ap (λ (cs : List HostCall). length cs) is))
  at (call ∷ rest) is = record { call = call; rest = rest; calls = is }

pub first-calls : (s : State) (o : Operation Task) → IsWhole s → first_pending s ≡ Some o → HasCalls o.work
first-calls s o h first =
    waiting-calls o (h.under_way.at o (live-mem s o.number o (first-live s o h first).0)) (first-live s o h first).1

-- ---- it runs

-- it is live, and its first call can be handed out, once it runs
pub first-live-at : (s : State) (number : ℕ) → IsWhole s → first_pending_of s.operations ≡ Some number → IsSome (live_at s.operations number)
first-live-at s number h is =
    let f = first-found s number is in
    subst (λ (x : Option (Operation Task)). IsSome x) (sym (ap (λ n. live_at s.operations n) (sym f.numbered) ∙ (first-live s f.of h f.first).0)) refl

-- what one that runs hands out first
handed-first : (s : State) (o : Operation Task) (moment : ℕ) (c : HasCalls o.work) → live_at s.operations o.number ≡ Some o
    → handed_at handing.First (moved o.number status.Running moment s).operations o.number ≡ Some (c.call, handing_out o.work c.rest)
handed-first s o moment c live =
    ap (λ (x : Option (Operation Task)). option_and_then (λ (o : Operation Task). handed handing.First o.work) x) (moved-live s o status.Running moment live)
    ∙ ap (λ calls. handed handing.First (record o.work { calls = calls })) c.calls

pub first-handed : (s s1 : State) (number moment : ℕ) → IsWhole s → first_pending_of s.operations ≡ Some number → s1 ≡ moved number status.Running moment s
    → IsSome (handed_at handing.First s1.operations number)
first-handed s s1 number moment h is made =
    let f = first-found s number is in
    let c = first-calls s f.of h f.first in
    subst (λ (x : Option (HostCall × Task)). IsSome x)
    (sym
    (ap (λ (t : State). handed_at handing.First t.operations number) made
    ∙ ap (λ n. handed_at handing.First (moved n status.Running moment s).operations n) (sym f.numbered)
    ∙ handed-first s f.of moment c (first-live s f.of h f.first).0)) refl

pub begun-is : (s s1 s2 : State) (number moment : ℕ) (call : HostCall) → IsWhole s → first_pending_of s.operations ≡ Some number
    → s1 ≡ moved number status.Running moment s
    → ((c : HostCall) (task : Task) → handed_at handing.First s1.operations number ≡ Some (c, task) → (call ≡ c) × (s2 ≡ with_task number task s1))
    → IsBegun s number moment call s2
begun-is s s1 s2 number moment call h is made hands = record {
  of = f.of;
  rest = c.rest;
  numbered = f.numbered;
  first = f.first;
  calls = c.calls ∙ ap (λ x. x ∷ c.rest) (sym out.0);
  made =
      out.1
      ∙ ap (λ t. with_task number (handing_out f.of.work c.rest) t) made
      ∙ ap (λ n. with_task n (handing_out f.of.work c.rest) (moved n status.Running moment s)) (sym f.numbered);
} where
  f : IsFirst s number
  f = first-found s number is

  c : HasCalls f.of.work
  c = first-calls s f.of h f.first

  out : (call ≡ c.call) × (s2 ≡ with_task number (handing_out f.of.work c.rest) s1)
  out = hands c.call (handing_out f.of.work c.rest)
      (ap (λ (t : State). handed_at handing.First t.operations number) made
      ∙ ap (λ n. handed_at handing.First (moved n status.Running moment s).operations n) (sym f.numbered)
      ∙ handed-first s f.of moment c (first-live s f.of h f.first).0)

-- ---- what is told

-- an operation that is kept is told as it is
pub shown-told : (k : OperationTable Task) (o : Operation Task) (number moment : ℕ) → o.number ≡ number → kept_at k number ≡ Some o
    → map (told_by k) (shown_at k number moment) ≡ notice_of o moment ∷ []
shown-told k o number moment numbered kept =
    ap (λ (x : Option (Operation Task)). map (told_by k) (option_to_list (option_map (shown_as moment) x))) kept
    ∙ ap (λ n. told_by k (shown_as moment (record o { number = n })) ∷ []) numbered
    ∙ ap (λ (x : Option (Operation Task)). told_of x shown ∷ []) kept
    ∙ ap (λ n. told_of (Some o) (record shown { number = n }) ∷ []) (sym numbered)
  where
    shown : Rattle.core_reports.specs.declared.waiting.Shown.Shown
    shown = record { moment = moment; number = number; status = o.status; may_cancel = o.may_cancel; created = o.created; updated = o.updated; fault = o.fault }

-- what waits after nothing is all that waits
pub all-told : {X Y : Type 0} (f g : X → Y) (xs ys zs : List X) → map f xs ≡ [] → ys ≡ xs ++ zs → map g ys ≡ map g zs
all-told f g [] ys zs e is = ap (map g) is
all-told f g (x ∷ xs) ys zs e is = cc

-- ---- the facts, and the step

pub begun-whole : (s s' : State) (number moment : ℕ) (call : HostCall) → moment < moment_limit → IsWhole s → IsBegun s number moment call s' → IsWhole s'
begun-whole s s' number moment call early h b = subst IsWhole (sym b.made) (first_calls-keep s b.of call b.rest moment early h b.first b.calls)

pub begun-silent : (s s' : State) (number moment : ℕ) (call : HostCall) → IsSilent s → IsBegun s number moment call s' → IsSilent s'
begun-silent s s' number moment call h b = subst IsSilent (sym b.made) (record { notices = h.notices; next = h.next })

pub begun-taken : (s s' : State) (number moment : ℕ) (call : HostCall) (before after : List Waiting) (wait : List Untold) → IsWhole s → IsBegun s number moment call s'
    → map (told_by s.operations) before ≡ [] → after ≡ before ++ shown_at s'.operations number moment → wait ≡ map (told_by s'.operations) after
    → IsTaken s moment (Some (number, call)) s' wait
begun-taken s s' number moment call before after wait h b quiet tells is =
    subst (λ n. IsTaken s moment (Some (n, call)) s' wait) b.numbered
    (first-taken s b.of call b.rest moment s' wait b.first (first-live s b.of h b.first).0 b.calls b.made
    (is
    ∙ all-told (told_by s.operations) (told_by s'.operations) before after (shown_at s'.operations number moment) quiet tells
    ∙ shown-told s'.operations now number moment b.numbered kept))
  where
    now : Operation Task
    now = record b.of { status = status.Running; updated = moment; work = handing_out b.of.work b.rest }

    kept : kept_at s'.operations number ≡ Some now
    kept =
        ap (λ (t : State). kept_at t.operations number) b.made
        ∙ ap (λ n. kept_at (with_task b.of.number (handing_out b.of.work b.rest) (moved b.of.number status.Running moment s)).operations n) (sym b.numbered)
        ∙ live-kept (with_task b.of.number (handing_out b.of.work b.rest) (moved b.of.number status.Running moment s)) b.of.number now
        (with-task-live (moved b.of.number status.Running moment s) (record b.of { status = status.Running; updated = moment }) (handing_out b.of.work b.rest)
        (moved-live s b.of status.Running moment (first-live s b.of h b.first).0))
