-- Each step of a worker that serves alone leaves less to do, and so all operations end.
use Rattle.std.proofs.Common.{◌≡◌, ◌≢◌, ◌⊎◌, inl, inr, ℕ, suc, ◌+◌, ◌-◌, ◌*◌, ◌<◌, ◌≤◌, true, false, Option, Some, None, List, [], ◌∷◌, length, refl, sym, ap, subst, ◌∙◌, arith}
use Rattle.std.specs.Prelude.{option_and_then}
use Rattle.std.specs.List.{find, sum_by}
use Rattle.std.specs.Option.{option_map, option_to_list}
use Rattle.std.proofs.lemmas.List.Sums.{sum_by-cons}
use Rattle.std.proofs.lemmas.Bool.{eq-eqb}
use Rattle.plain_lists.specs.Members.{Each}
use Rattle.plain_lists.specs.Edits.{changed_first, dropped}
use Rattle.plain_lists.proofs.Elements.{Each-head, Each-tail, Each-map}
use Rattle.plain_lists.proofs.PutsLemmas.{sum_by-Puts, Distinct-unputs}
use Rattle.plain_lists.proofs.EditLemmas.{changed-Puts, dropped-Puts, find-changed, Each-dropped}
use Rattle.plain_lists.proofs.Keys.{Distinct-left}
use Rattle.plain_lists.proofs.Searches.{find-none}
use Rattle.size_values.specs.Moments.{moment_limit}
use Rattle.size_values.specs.declared.kinds.Action.TheVariants as action
use Rattle.size_values.specs.declared.kinds.Deed.{Deed}
use Rattle.size_values.specs.declared.kinds.Deed.TheVariants as deed
use Rattle.host_model.specs.declared.call.HostCall.{HostCall}
use Rattle.instance_states.specs.Plans.{calls_of}
use Rattle.operations.specs.declared.operation.Operation.{Operation}
use Rattle.operations.specs.declared.status.Status.{Status}
use Rattle.operations.specs.declared.status.Status.TheVariants as status
use Rattle.operations.specs.declared.status.Status.TheVariants.{Pending, Running, Cancelling}
use Rattle.operations.specs.Statuses.{is_pending}
use Rattle.operations.specs.OperationTable.{OperationTable, has_number, live_at}
use Rattle.row_machine.specs.machine.Task.{Task}
use Rattle.row_machine.specs.machine.State.{State}
use Rattle.row_machine.specs.machine.Operations.{handing_out, one_more_done, undone}
use Rattle.row_machine.specs.machine.Accept.{After}
use Rattle.row_machine.specs.machine.Step.{step}
use Rattle.row_machine.specs.facts.Whole.{IsWhole, IsUnderWay, calls_out}
use Rattle.machine_laws.specs.Possible.{IsPossible}
use Rattle.machine_laws.specs.Waits.{Round, Served, served, serves, event_of, hand_of, IsAlone, WaitsEnd, FewSteps}
use Rattle.machine_laws.proofs.Base.{first-live, live-mem, taken-live, Each-found}
use Rattle.machine_laws.proofs.StepKept.{step-keeps}
use Rattle.machine_laws.proofs.WaitsSteps.{Does, served-does}
use Rattle.machine_laws.proofs.WaitsSteps.Does.{idles, idles_on, takes, goes_on, takes_back, ends}

-- ---- how many steps an operation needs

abbrev pub steps_in : Status → Task → ℕ
steps_in status.Pending task = 1 + length task.calls
steps_in status.Running task = 1 + length task.calls
steps_in status.Cancelling task = 1 + length (option_to_list task.undo)
steps_in other task = 1

abbrev pub steps : Operation Task → ℕ
steps o = steps_in o.status o.work

abbrev pub steps_of : State → ℕ
steps_of s = sum_by steps s.operations.live

-- at least one
steps-some : (o : Operation Task) → 1 ≤ steps o
steps-some o = by o.status where
  by : (now : Status) → 1 ≤ steps_in now o.work
  by status.Pending = omega arith
  by status.Running = omega arith
  by status.Cancelling = omega arith
  by status.Success = omega arith
  by status.Failure = omega arith
  by status.Cancelled = omega arith

-- a deed has one call or two
pub few-calls : (d : Deed) → (1 ≤ length (calls_of d)) × (length (calls_of d) ≤ 2)
few-calls deed.Create = (omega arith, omega arith)
few-calls deed.Copy = (omega arith, omega arith)
few-calls deed.Update = (omega arith, omega arith)
few-calls deed.Restore = (omega arith, omega arith)
few-calls deed.Rename = (omega arith, omega arith)
few-calls deed.Delete = (omega arith, omega arith)
few-calls (deed.Act action.Start ephemeral) = (omega arith, omega arith)
few-calls (deed.Act action.Stop true) = (omega arith, omega arith)
few-calls (deed.Act action.Stop false) = (omega arith, omega arith)
few-calls (deed.Act action.Restart ephemeral) = (omega arith, omega arith)
few-calls (deed.Act action.Freeze ephemeral) = (omega arith, omega arith)
few-calls (deed.Act action.Unfreeze ephemeral) = (omega arith, omega arith)
few-calls deed.Snap = (omega arith, omega arith)
few-calls deed.Unsnap = (omega arith, omega arith)
few-calls deed.CopyVolume = (omega arith, omega arith)

-- at most four
pub steps-few : (o : Operation Task) → IsUnderWay o → steps o ≤ 4
steps-few o h = by o.status where
  few : length o.work.calls ≤ 2
  few = let most = few-calls o.work.deed in omega (arith, h.calls, most.1)

  undo_few : (u : Option HostCall) → 1 + length (option_to_list u) ≤ 4
  undo_few None = omega arith
  undo_few (Some call) = omega arith

  by : (now : Status) → steps_in now o.work ≤ 4
  by status.Pending = omega (arith, few)
  by status.Running = omega (arith, few)
  by status.Cancelling = undo_few o.work.undo
  by status.Success = omega arith
  by status.Failure = omega arith
  by status.Cancelled = omega arith

pub sum-few : (os : List (Operation Task)) → Each (λ (o : Operation Task). steps o ≤ 4) os → sum_by steps os ≤ 4 * length os
sum-few [] h = omega arith
sum-few (o ∷ os) h = let rest = sum-few os (Each-tail h) in omega (arith, sum_by-cons steps o os, Each-head h, rest)

pub none-left : (os : List (Operation Task)) → sum_by steps os ≤ 0 → os ≡ []
none-left [] h = refl
none-left (o ∷ os) h = absurd (omega (arith, sum_by-cons steps o os, steps-some o, h))

-- ---- a change of one operation

-- the steps of one that is changed to less, or is gone
changed-steps : (os : List (Operation Task)) (n : ℕ) (f : Operation Task → Operation Task) (o : Operation Task) → find (has_number n) os ≡ Some o
    → steps (f o) + 1 ≤ steps o → sum_by steps (changed_first (has_number n) f os) ≤ sum_by steps os - 1
changed-steps os n f o e less =
    let puts = changed-Puts (has_number n) f o os e in
    omega (arith, sum_by-Puts steps puts.1.0, sum_by-Puts steps puts.1.1, less)

gone-steps : (os : List (Operation Task)) (n : ℕ) (o : Operation Task) → find (has_number n) os ≡ Some o → sum_by steps (dropped (has_number n) os) ≤ sum_by steps os - 1
gone-steps os n o e = omega (arith, sum_by-Puts steps (dropped-Puts (has_number n) o os e), steps-some o)

-- ---- a step

-- what a step keeps and lessens
pub record Lessens (s : State) (x : Served) : Type 0 where
  pub less : steps_of x.state ≤ steps_of s - 1
  pub alone : IsAlone x.state x.hand

-- with nothing in hand all wait
all-wait : (s : State) → IsAlone s None → Each (λ (o : Operation Task). o.status ≡ Pending) s.operations.live
all-wait s alone = Each-map by alone.others where
  by : (o : Operation Task) → (o.status ≡ Pending) ⊎ (None ≡ Some o.number) → o.status ≡ Pending
  by o (inl e) = e
  by o (inr e) = cc

no-first : (os : List (Operation Task)) → Each (λ (o : Operation Task). o.status ≡ Pending) os → find (λ (o : Operation Task). is_pending o.status) os ≡ None → os ≡ []
no-first [] waits e = refl
no-first (o ∷ os) waits e = absurd (never (ap is_pending (sym (Each-head waits)) ∙ Each-head (find-none (λ (x : Operation Task). is_pending x.status) (o ∷ os) e))) where
  never : true ≡ false → ⊥
  never same = cc

running-apart : Running ≢ Pending
running-apart e = cc

cancelling-apart : Cancelling ≢ Pending
cancelling-apart e = cc

-- one that is found by a number, changed: it is the one in hand
in-hand : (os : List (Operation Task)) (f : Operation Task → Operation Task) (o : Operation Task) → find (has_number o.number) os ≡ Some o → (f o).number ≡ o.number
    → Each (λ (x : Operation Task). (x.status ≡ Pending) ⊎ (Some o.number ≡ Some x.number)) os
    → Each (λ (x : Operation Task). (x.status ≡ Pending) ⊎ (Some o.number ≡ Some x.number)) (changed_first (has_number o.number) f os)
in-hand os f o e same h =
    Each-found (λ (x : Operation Task). (x.status ≡ Pending) ⊎ (Some o.number ≡ Some x.number)) (has_number o.number) f o os e (λ old. inr (ap Some (sym same))) h

found-hand : (os : List (Operation Task)) (f : Operation Task → Operation Task) (o : Operation Task) → find (has_number o.number) os ≡ Some o → (f o).number ≡ o.number
    → (f o).status ≢ Pending → (n : ℕ) → Some o.number ≡ Some n
    → (x : Operation Task) × ((find (has_number n) (changed_first (has_number o.number) f os) ≡ Some x) × (x.status ≢ Pending))
found-hand os f o e same apart n is = (
  f o,
  (
    subst (λ m. find (has_number m) (changed_first (has_number o.number) f os) ≡ Some (f o)) (some-is is)
        (find-changed (has_number o.number) f o os e (eq-eqb (f o).number o.number same)),
    apart,
  ),
) where
  some-is : {x y : ℕ} → Some x ≡ Some y → x ≡ y
  some-is same = cc

pub lessens : (s : State) (hand : Option ℕ) (x : Served) → IsWhole s → IsAlone s hand → Does s hand x → Lessens s x
lessens s None x h alone (idles none) = record {
  less = subst (λ os. sum_by steps os ≤ sum_by steps os - 1) (sym (no-first s.operations.live (all-wait s alone) none)) (omega arith);
  alone = alone;
}
lessens s None x h alone (idles_on o first none) =
    let found = first-live s o h first in
    let under_way = h.under_way.at o (live-mem s o.number o found.0) in
    let out : calls_out o.status ≡ 0 = ap calls_out found.1 in
    let left : length o.work.calls ≡ 0 = ap length none in
    let most = few-calls o.work.deed in
    absurd (omega (arith, under_way.calls, under_way.waiting found.1, out, left, most.0))
lessens s None x h alone (takes o call rest t moment first calls is) = record {
  less = subst (λ (os : List (Operation Task)). sum_by steps os ≤ steps_of s - 1) (sym live) (changed-steps s.operations.live o.number change o found.0 fewer);
  alone = record {
    others = subst (Each (λ (x : Operation Task). (x.status ≡ Pending) ⊎ (Some o.number ≡ Some x.number))) (sym live)
        (in-hand s.operations.live change o found.0 refl (Each-map (λ x waits. inl waits) (all-wait s alone)));
    own = λ n e. subst (λ os. (x : Operation Task) × ((find (has_number n) os ≡ Some x) × (x.status ≢ Pending))) (sym live)
        (found-hand s.operations.live change o found.0 refl running-apart n e);
  };
} where
  found : (live_at s.operations o.number ≡ Some o) × (o.status ≡ Pending)
  found = first-live s o h first

  change : Operation Task → Operation Task
  change x = record x { status = Running; updated = moment; work = handing_out o.work rest }

  live : t.operations.live ≡ changed_first (has_number o.number) change s.operations.live
  live = ap (λ (k : OperationTable Task). k.live) is ∙ taken-live s o rest moment

  fewer : steps (change o) + 1 ≤ steps o
  fewer =
      let waits : steps o ≡ 1 + length o.work.calls = ap (λ now. steps_in now o.work) found.1 in
      let long : length o.work.calls ≡ suc (length rest) = ap length calls in
      omega (arith, waits, long)
lessens s (Some n) x h alone (goes_on o call rest live running calls) = record {
  less = changed-steps s.operations.live o.number change o live fewer;
  alone = record {
    others = in-hand s.operations.live change o live refl alone.others;
    own = found-hand s.operations.live change o live refl (λ e. running-apart (sym running ∙ e));
  };
} where
  change : Operation Task → Operation Task
  change x = record x { work = one_more_done o.work rest }

  fewer : steps (change o) + 1 ≤ steps o
  fewer =
      let before : steps o ≡ 1 + length o.work.calls = ap (λ now. steps_in now o.work) running in
      let after : steps (change o) ≡ 1 + length rest = ap (λ now. steps_in now (one_more_done o.work rest)) running in
      let long : length o.work.calls ≡ suc (length rest) = ap length calls in
      omega (arith, before, after, long)
lessens s (Some n) x h alone (takes_back o call live now undo) = record {
  less = changed-steps s.operations.live o.number change o live fewer;
  alone = record {
    others = in-hand s.operations.live change o live refl alone.others;
    own = found-hand s.operations.live change o live refl (λ e. cancelling-apart (sym now ∙ e));
  };
} where
  change : Operation Task → Operation Task
  change x = record x { work = undone o.work }

  fewer : steps (change o) + 1 ≤ steps o
  fewer =
      let before : steps o ≡ 1 + length (option_to_list o.work.undo) = ap (λ st. steps_in st o.work) now in
      let after : steps (change o) ≡ 1 = ap (λ st. steps_in st (undone o.work)) now in
      let one : length (option_to_list o.work.undo) ≡ 1 = ap (λ u. length (option_to_list u)) undo in
      omega (arith, before, after, one)
lessens s (Some n) x h alone (ends o t live left) = record {
  less = subst (λ (os : List (Operation Task)). sum_by steps os ≤ steps_of s - 1) (sym left) (gone-steps s.operations.live o.number o live);
  alone = record {
    others = subst (Each (λ (x : Operation Task). (x.status ≡ Pending) ⊎ (None ≡ Some x.number))) (sym left)
        (record { at = λ x m. elim ((Each-dropped (has_number o.number) alone.others).at x m) [ inl waits ↦ inl waits | inr same ↦ absurd (apart.at x m (sym (some-is same))) ] });
    own = λ m e. none m e;
  };
} where
  some-is : {x y : ℕ} → Some x ≡ Some y → x ≡ y
  some-is same = cc

  apart : Each (λ (x : Operation Task). x.number ≢ o.number) (dropped (has_number o.number) s.operations.live)
  apart = (Distinct-unputs (λ (x : Operation Task). x.number) (dropped-Puts (has_number o.number) o s.operations.live live)
      (Distinct-left (λ (x : Operation Task). x.number) s.operations.live s.operations.ended h.operations.kept.numbered.distinct)).0

  none : (m : ℕ) → None ≡ Some m → (y : Operation Task) × ((live_at t.operations m ≡ Some y) × (y.status ≢ Pending))
  none m e = cc

-- ---- all steps

possible : (hand : Option ℕ) (round : Round) → round.moment < moment_limit → IsPossible (event_of hand round)
possible None round early = early
possible (Some n) round early = early

-- the state after a step is that of the machine's step
stepped : (s : State) (hand : Option ℕ) (round : Round) (x : Served) → IsWhole s → round.moment < moment_limit → served s hand round ≡ Some x → IsWhole x.state
stepped s hand round x h early is = at (step s (event_of hand round) round.outcome) refl is where
  some-is : {x y : Served} → Some x ≡ Some y → x ≡ y
  some-is same = cc

  at : (o : Option After) → step s (event_of hand round) round.outcome ≡ o → option_map (λ (a : After). record { state = a.state; hand = hand_of a.answer }) o ≡ Some x → IsWhole x.state
  at None e none = cc
  at (Some a) e one = subst (λ (y : Served). IsWhole y.state) (some-is one) (step-keeps s (event_of hand round) round.outcome a h (possible hand round early) e)

all-end : (s : State) (hand : Option ℕ) (rounds : List Round) (after : Served) → IsWhole s → IsAlone s hand → Each (λ (r : Round). r.moment < moment_limit) rounds
    → steps_of s ≤ length rounds → serves s hand rounds ≡ Some after → after.state.operations.live ≡ []
all-end s hand [] after h alone early enough is = subst (λ (x : Served). x.state.operations.live ≡ []) (some-is is) (none-left s.operations.live enough) where
  some-is : {x y : Served} → Some x ≡ Some y → x ≡ y
  some-is same = cc
all-end s hand (round ∷ rounds) after h alone early enough is =
    at (served s hand round) refl is (λ next. all-end next.state next.hand rounds after) where
      at : (o : Option Served) → served s hand round ≡ o → option_and_then (λ (next : Served). serves next.state next.hand rounds) o ≡ Some after
          → ((next : Served) → IsWhole next.state → IsAlone next.state next.hand → Each (λ (r : Round). r.moment < moment_limit) rounds
          → steps_of next.state ≤ length rounds → serves next.state next.hand rounds ≡ Some after → after.state.operations.live ≡ [])
          → after.state.operations.live ≡ []
      at None e none later = cc
      at (Some next) e rest later =
          let l = lessens s hand next h alone (served-does s hand round next h alone e) in
          later next (stepped s hand round next h (Each-head early) e) l.alone (Each-tail early) (omega (arith, l.less, enough)) rest

pub waits-end : WaitsEnd
waits-end s hand rounds after h alone early enough is =
    all-end s hand rounds after h alone early
    (omega (arith, sum-few s.operations.live (Each-map steps-few h.under_way), enough)) is

pub few-steps : FewSteps
few-steps s h = omega (arith, h.operations.kept.few_live)
