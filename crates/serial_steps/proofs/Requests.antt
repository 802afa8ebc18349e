-- A request leaves the worker of a serial server alone, with the same call in hand.
use Rattle.std.proofs.Common.{◌≡◌, ◌≢◌, ◌⊎◌, inl, inr, ℕ, Bool, true, false, Option, Some, None, List, ◌++◌, refl, sym, ap, subst, ◌∙◌}
use Rattle.std.specs.List.{find}
use Rattle.std.specs.Option.{option_or}
use Rattle.std.proofs.lemmas.Bool.{eq-eqb, eqb-true, ne_eqb}
use Rattle.std.proofs.lemmas.Bool.Decides.{eqb_tells}
use Rattle.std.proofs.lemmas.List.Folds.{find-append}
use Rattle.plain_lists.specs.Members.{Each}
use Rattle.plain_lists.specs.Edits.{changed_first}
use Rattle.plain_lists.proofs.Elements.{Each-push}
use Rattle.plain_lists.proofs.EditLemmas.{Each-dropped, find-changed, find-changed_other}
use Rattle.plain_lists.proofs.Searches.{find-some}
use Rattle.operations.specs.declared.operation.Operation.{Operation}
use Rattle.operations.specs.declared.status.Status.{Status}
use Rattle.operations.specs.declared.status.Status.TheVariants as status
use Rattle.operations.specs.declared.status.Status.TheVariants.{Pending, Running, Cancelling}
use Rattle.operations.specs.Statuses.{is_live, cancel_of}
use Rattle.operations.specs.OperationTable.{OperationTable, has_number, live_at, kept_at, cancel_answer}
use Rattle.operations.proofs.KeptLemmas.{live-from_kept}
use Rattle.records.specs.declared.commands.Command.{Command}
use Rattle.records.specs.declared.commands.What.{What}
use Rattle.records.specs.declared.commands.What.TheVariants as what
use Rattle.records.specs.declared.notices.Untold.{Untold}
use Rattle.records.specs.declared.refusals.Refusal.{Refusal}
use Rattle.row_machine.specs.declared.events.Event.TheVariants as event
use Rattle.row_machine.specs.machine.Task.{Task}
use Rattle.row_machine.specs.machine.State.{State}
use Rattle.row_machine.specs.machine.Changes.{applied}
use Rattle.row_machine.specs.machine.Plans.{Plan, nothing, changes, starts, plan_of}
use Rattle.row_machine.specs.machine.Operations.{entered, moved, cancelled}
use Rattle.row_machine.specs.shown.Notices.{telling, operation_notice, change_notices}
use Rattle.row_machine.specs.machine.Rules.{broken}
use Rattle.row_machine.specs.machine.Accept.{After, accepted, carried_out, after_cancel, cancel_or_read}
use Rattle.row_machine.specs.machine.Step.{Outcome, well, keeper_failed, no_memory, step, after_command, unavailable}
use Rattle.row_machine.specs.facts.Whole.{IsWhole}
use Rattle.machine_laws.specs.Waits.{IsAlone}
use Rattle.machine_laws.proofs.Base.{Each-found}
use Rattle.machine_laws.proofs.BooksSteps.{applied-same}
use Rattle.machine_laws.proofs.EndsLive.{live-apart}
use Rattle.machine_laws.proofs.EndsShares.{told-same, cancelled-left}

-- ---- the same operations

-- one that waits, or the one in hand
abbrev pub WaitsOr : Option ℕ → Operation Task → Type 0
WaitsOr hand o = (o.status ≡ Pending) ⊎ (hand ≡ Some o.number)

-- an operation of this number is live, and does not wait
abbrev Goes : OperationTable Task → ℕ → Type 0
Goes k n = (o : Operation Task) × ((live_at k n ≡ Some o) × (o.status ≢ Pending))

-- a state with the same operations
pub same-alone : (s t : State) (hand : Option ℕ) → t.operations ≡ s.operations → IsAlone s hand → IsAlone t hand
same-alone s t hand same h = record {
  others = subst (λ (k : OperationTable Task). Each (WaitsOr hand) k.live) (sym same) h.others;
  own = λ n e. subst (λ (k : OperationTable Task). Goes k n) (sym same) (h.own n e);
}

-- the worker is left alone, whatever it has in hand
abbrev pub KeepsAlone : State → State → Type 0
KeepsAlone s t = (hand : Option ℕ) → IsAlone s hand → IsAlone t hand

alike : (s : State) → KeepsAlone s s
alike s hand h = h

-- notices are told besides
told-besides : (s t : State) (ns : List Untold) → KeepsAlone s t → KeepsAlone s (telling ns t)
told-besides s t ns keeps hand h = same-alone t (telling ns t) hand (told-same ns t).operations (keeps hand h)

-- ---- one more operation

-- what is found among the first is found among all
found-first : {X : Type 0} (p : X → Bool) (xs ys : List X) (x : X) → find p xs ≡ Some x → find p (xs ++ ys) ≡ Some x
found-first {X} p xs ys x is = find-append p xs ys ∙ first (find p xs) (find p ys) is where
  first : (o rest : Option X) → o ≡ Some x → option_or o rest ≡ Some x
  first o rest e = ap (λ y. option_or y rest) e

entered-alone : (s : State) (task : Task) (moment : ℕ) → KeepsAlone s (entered s task moment)
unfolding entered
entered-alone s task moment hand h = record {
  others = Each-push (WaitsOr hand) h.others (inl refl);
  own = λ n e. let own : Goes s.operations n = h.own n e in
      (own.0, (found-first (has_number n) s.operations.live _ own.0 own.1.0, own.1.1));
}

-- ---- a cancel

running-apart : Running ≢ Pending
running-apart e = cc

cancelling-apart : Cancelling ≢ Pending
cancelling-apart e = cc

-- one that waited is out
cancelled-alone : (s : State) (o : Operation Task) (moment : ℕ) → live_at s.operations o.number ≡ Some o → o.status ≡ Pending → KeepsAlone s (cancelled s o.number moment)
cancelled-alone s o moment live waits hand h = record {
  others = subst (Each (WaitsOr hand)) (sym (cancelled-left s o.number moment)) (Each-dropped (has_number o.number) h.others);
  own = λ n e. own n (h.own n e);
} where
  some-is : {x y : Operation Task} → Some x ≡ Some y → x ≡ y
  some-is same = cc

  own : (n : ℕ) → Goes s.operations n → Goes (cancelled s o.number moment).operations n
  own n goes = (
    goes.0,
    (ap (find (has_number n)) (cancelled-left s o.number moment) ∙ live-apart s.operations n o.number apart ∙ goes.1.0, goes.1.1),
  ) where
    apart : n ≢ o.number
    apart same =
        let one : o ≡ goes.0 = some-is (sym live ∙ ap (live_at s.operations) (sym same) ∙ goes.1.0) in
        goes.1.1 (ap (λ (x : Operation Task). x.status) (sym one) ∙ waits)

-- one that ran is being cancelled
turning-alone : (s : State) (o : Operation Task) (moment : ℕ) → live_at s.operations o.number ≡ Some o → o.status ≡ Running → KeepsAlone s (moved o.number Cancelling moment s)
turning-alone s o moment live running hand h = record {
  others = Each-found (WaitsOr hand) (has_number o.number) change o s.operations.live live turns h.others;
  own = λ n e. own n (h.own n e);
} where
  change : Operation Task → Operation Task
  change x = record x { status = Cancelling; updated = moment }

  turns : WaitsOr hand o → WaitsOr hand (change o)
  turns (inl waits) = absurd (running-apart (sym running ∙ waits))
  turns (inr e) = inr e

  own : (n : ℕ) → Goes s.operations n → Goes (moved o.number Cancelling moment s).operations n
  own n goes = elim (eqb_tells o.number n) [
    | inl same ↦ (
      change o,
      (
        subst (λ m. find (has_number m) (changed_first (has_number o.number) change s.operations.live) ≡ Some (change o)) same.1
            (find-changed (has_number o.number) change o s.operations.live live (eq-eqb o.number o.number refl)),
        cancelling-apart,
      ),
    )
    | inr other ↦ (
      goes.0,
      (
        find-changed_other (has_number o.number) (has_number n) change s.operations.live
            (λ y is. (differs y other.1 is, differs y other.1 is)) ∙ goes.1.0,
        goes.1.1,
      ),
    )
  ] where
    differs : (y : Operation Task) → o.number ≢ n → has_number o.number y ≡ true → has_number n y ≡ false
    differs y apart is = ne_eqb y.number n (λ e. apart (sym (eqb-true y.number o.number is) ∙ e))

-- of one that is kept, by its status
cancel-alone : (s : State) (moment : ℕ) (o : Operation Task) → IsWhole s → kept_at s.operations o.number ≡ Some o
    → KeepsAlone s (after_cancel s o.number moment (cancel_of o.may_cancel o.status))
cancel-alone s moment o h found = by o.may_cancel o.status refl where
  live : is_live o.status ≡ true → live_at s.operations o.number ≡ Some o
  live is = live-from_kept s.operations o.number o h.operations.kept found is

  by : (may : Bool) (now : Status) → o.status ≡ now → KeepsAlone s (after_cancel s o.number moment (cancel_of may now))
  by true status.Pending now = told-besides s (cancelled s o.number moment) (operation_notice (cancelled s o.number moment) o.number moment)
      (cancelled-alone s o moment (live (ap is_live now)) now)
  by true status.Running now = told-besides s (moved o.number Cancelling moment s) (operation_notice (moved o.number Cancelling moment s) o.number moment)
      (turning-alone s o moment (live (ap is_live now)) now)
  by true status.Cancelling now = alike s
  by true status.Success now = alike s
  by true status.Failure now = alike s
  by true status.Cancelled now = alike s
  by false status.Pending now = alike s
  by false status.Running now = alike s
  by false status.Cancelling now = alike s
  by false status.Success now = alike s
  by false status.Failure now = alike s
  by false status.Cancelled now = alike s

cancels-alone : (s : State) (n moment : ℕ) → IsWhole s → KeepsAlone s (after_cancel s n moment (cancel_answer (kept_at s.operations n)))
cancels-alone s n moment h = by (kept_at s.operations n) refl where
  by : (o : Option (Operation Task)) → kept_at s.operations n ≡ o → KeepsAlone s (after_cancel s n moment (cancel_answer o))
  by None found = alike s
  by (Some o) found =
      let same : o.number ≡ n = eqb-true o.number n (find-some (has_number n) (s.operations.live ++ s.operations.ended) o found).1 in
      subst (λ m. KeepsAlone s (after_cancel s m moment (cancel_of o.may_cancel o.status))) same
      (cancel-alone s moment o h (subst (λ m. kept_at s.operations m ≡ Some o) (sym same) found))

-- ---- a request

reads-alone : (s : State) (c : Command) (moment : ℕ) (w : What) → IsWhole s → KeepsAlone s (cancel_or_read s c moment w).state
reads-alone s c moment (what.Cancel op) h = cancels-alone s op moment h
reads-alone s c moment what.Root h = alike s
reads-alone s c moment what.Server h = alike s
reads-alone s c moment (what.List of recursion) h = alike s
reads-alone s c moment (what.Get of) h = alike s
reads-alone s c moment (what.State of) h = alike s
reads-alone s c moment (what.Create of body) h = alike s
reads-alone s c moment (what.Put of body) h = alike s
reads-alone s c moment (what.Patch of body) h = alike s
reads-alone s c moment (what.Move of to) h = alike s
reads-alone s c moment (what.Delete of) h = alike s
reads-alone s c moment (what.Act of action) h = alike s
reads-alone s c moment (what.Restore of snapshot) h = alike s
reads-alone s c moment (what.GetOp op) h = alike s
reads-alone s c moment (what.Wait op timeout) h = alike s

carried-alone : (s : State) (c : Command) (moment : ℕ) (p : Plan) → IsWhole s → KeepsAlone s (carried_out s c moment p).state
carried-alone s c moment nothing h = reads-alone s c moment c.what h
carried-alone s c moment (changes cs) h = told-besides s (applied s cs) (change_notices s c moment)
    (λ hand alone. same-alone s (applied s cs) hand (applied-same cs s).operations alone)
carried-alone s c moment (starts task) h = told-besides s (entered s task moment) (operation_notice (entered s task moment) s.operations.next moment)
    (entered-alone s task moment)

accepted-alone : (s : State) (c : Command) (moment : ℕ) → IsWhole s → KeepsAlone s (accepted s c moment).state
unfolding accepted
accepted-alone s c moment h = carried-alone s c moment (plan_of s c moment) h

-- each state that a request can leave
abbrev Leaves : State → Option After → Type 0
Leaves s result = (a : After) → result ≡ Some a → KeepsAlone s a.state

none-left : (s : State) → Leaves s None
none-left s a is = cc

leaves : (s : State) (b : After) → KeepsAlone s b.state → Leaves s (Some b)
leaves s b h a is = subst (λ (x : After). KeepsAlone s x.state) (some-is is) h where
  some-is : {x y : After} → Some x ≡ Some y → x ≡ y
  some-is same = cc

unavailable-leaves : (s : State) (p : Plan) → Leaves s (unavailable s p)
unavailable-leaves s nothing = none-left s
unavailable-leaves s (changes cs) = leaves s _ (alike s)
unavailable-leaves s (starts task) = none-left s

asked-leaves : (s : State) (c : Command) (moment : ℕ) (outcome : Outcome) (r : Option Refusal) → IsWhole s → Leaves s (after_command s c moment outcome r)
asked-leaves s c moment well (Some refusal) h = leaves s _ (alike s)
asked-leaves s c moment well None h = leaves s _ (accepted-alone s c moment h)
asked-leaves s c moment (keeper_failed rise) (Some refusal) h = none-left s
asked-leaves s c moment (keeper_failed rise) None h = unavailable-leaves s (plan_of s c moment)
asked-leaves s c moment no_memory None h = leaves s _ (alike s)
asked-leaves s c moment no_memory (Some refusal) h = leaves s _ (alike s)

pub request-alone : (s : State) (c : Command) (moment : ℕ) (outcome : Outcome) (a : After) (hand : Option ℕ) → IsWhole s
    → step s (event.Ask c moment) outcome ≡ Some a → IsAlone s hand → IsAlone a.state hand
unfolding step
request-alone s c moment outcome a hand h is = asked-leaves s c moment outcome (broken s c moment) h a is hand
