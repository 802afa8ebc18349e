-- Runs: that they move operations, join, and end each operation once.
use Rattle.std.proofs.Common.{◌≡◌, ◌≢◌, ℕ, cond, Option, Some, None, List, [], ◌∷◌, ◌++◌, refl, sym, ◌∙◌, ap, subst, arith}
use Rattle.std.specs.List.{find, filter_map, cons_option}
use Rattle.std.specs.Option.{option_map, option_and_then}
use Rattle.std.specs.Prelude.{is_none}
use Rattle.std.proofs.lemmas.List.{append_assoc}
use Rattle.std.proofs.lemmas.Bool.{eqb-true, eq-eqb, false≢true}
use Rattle.plain_lists.specs.Members.{Each, Distinct}
use Rattle.plain_lists.proofs.Elements.{Each-none, Each-cons, Each-append, Each-map, Each-head, Each-tail}
use Rattle.plain_lists.proofs.Keys.{Distinct-append}
use Rattle.plain_lists.proofs.Searches.{find-some, find-none}
use Rattle.operations.specs.declared.operation.Operation.{Operation}
use Rattle.operations.specs.declared.status.Status.{Status}
use Rattle.operations.specs.OperationTable.{has_number, live_at}
use Rattle.row_machine.specs.declared.events.Event.{Event}
use Rattle.row_machine.specs.machine.Task.{Task}
use Rattle.row_machine.specs.machine.State.{State}
use Rattle.row_machine.specs.machine.Accept.{After}
use Rattle.row_machine.specs.machine.Step.{Outcome, step}
use Rattle.row_machine.specs.machine.Runs.{Ran, prepended, run, end_of, ends_between}
use Rattle.row_machine.specs.facts.Laws.{EmptyRunStays, joined, RunsJoin, EndedStays, EndsOnce}
use Rattle.row_machine.proofs.Moving.{Moves, stays, both, AreLive, kept-live, moves-next, moves-live, IsOver, moves-over, kept-settled, moves-settled, settled-is}
use Rattle.row_machine.proofs.Following.{step-moves}

abbrev pub Events : Type 0
Events = List (Event × Outcome)

-- ---- runs

-- a run of one event more is a step and a run
pub data Begins (s : State) (e : Event × Outcome) (events : Events) (r : Ran) : Type 0 where
  begins : (first : After) (rest : Ran) → step s e.0 e.1 ≡ Some first → run first.state events ≡ Some rest → r ≡ prepended s first rest → Begins s e events r

pub run-begins : (s : State) (e : Event × Outcome) (events : Events) (r : Ran) → run s (e ∷ events) ≡ Some r → Begins s e events r
run-begins s e events r is = at (step s e.0 e.1) refl is where
  and_rest : (first : After) → step s e.0 e.1 ≡ Some first → (rest : Option Ran) → run first.state events ≡ rest → option_map (prepended s first) rest ≡ Some r → Begins s e events r
  and_rest first stepped None ran whole = cc
  and_rest first stepped (Some rest) ran whole = begins first rest stepped ran (some-is (sym whole)) where
    some-is : {x y : Ran} → Some x ≡ Some y → x ≡ y
    some-is same = cc

  at : (first : Option After) → step s e.0 e.1 ≡ first → option_and_then (λ a. option_map (prepended s a) (run a.state events)) first ≡ Some r → Begins s e events r
  at None stepped whole = cc
  at (Some first) stepped whole = and_rest first stepped (run first.state events) refl whole

pub run-moves : (s : State) (events : Events) (r : Ran) → run s events ≡ Some r → Moves s.operations r.state.operations
run-moves s [] r is = subst (λ x. Moves s.operations x.state.operations) (some-is is) stays where
  some-is : {x y : Ran} → Some x ≡ Some y → x ≡ y
  some-is same = cc
run-moves s (e ∷ events) r is = by (run-begins s e events r is) (λ first rest. run-moves first.state events rest) where
  by : Begins s e events r → ((first : After) (rest : Ran) → run first.state events ≡ Some rest → Moves first.state.operations rest.state.operations) → Moves s.operations r.state.operations
  by (begins first rest stepped ran whole) later =
      subst (λ x. Moves s.operations x.state.operations) (sym whole) (both (step-moves s e.0 e.1 first stepped) (later first rest ran))

-- ---- the laws on lists of events

pub empty-stays : EmptyRunStays
empty-stays s = refl

pub runs-join : RunsJoin
runs-join s [] more = sym (none-before (run s more)) where
  none-before : (r : Option Ran) → option_map (joined (record { answers = []; ends = []; state = s })) r ≡ r
  none-before None = refl
  none-before (Some r) = refl
runs-join s (e ∷ events) more = at (step s e.0 e.1) (λ first. runs-join first.state events more) where
  after-joined : (first : After) (a b : Ran) → prepended s first (joined a b) ≡ joined (prepended s first a) b
  after-joined first a b = ap (λ ends. record { answers = first.answer ∷ a.answers ++ b.answers; ends = ends; state = b.state }) (sym (append_assoc (ends_between s first.state) a.ends b.ends))

  and_more : (first : After) (a : Ran) (m : Option Ran) → option_map (prepended s first) (option_map (joined a) m) ≡ option_map (joined (prepended s first a)) m
  and_more first a None = refl
  and_more first a (Some b) = ap Some (after-joined first a b)

  and_rest : (first : After) (r : Option Ran)
      → option_map (prepended s first) (option_and_then (λ a. option_map (joined a) (run a.state more)) r)
      ≡ option_and_then (λ a. option_map (joined a) (run a.state more)) (option_map (prepended s first) r)
  and_rest first None = refl
  and_rest first (Some a) = and_more first a (run a.state more)

  at : (o : Option After)
      → ((first : After) → run first.state (events ++ more) ≡ option_and_then (λ a. option_map (joined a) (run a.state more)) (run first.state events))
      → option_and_then (λ first. option_map (prepended s first) (run first.state (events ++ more))) o
      ≡ option_and_then (λ a. option_map (joined a) (run a.state more)) (option_and_then (λ first. option_map (prepended s first) (run first.state events)) o)
  at None rest = refl
  at (Some first) rest = ap (option_map (prepended s first)) (rest first) ∙ and_rest first (run first.state events)

pub ended-stays : EndedStays
ended-stays s events r o later kept is there found =
    settled-is o later (moves-settled o (run-moves s events r is) (kept-settled o kept there)) found

-- ---- ends

abbrev number_of : ℕ × Status → ℕ
number_of end = end.0

-- an end has the number of its operation, which is no longer live
pub end-number : (later : State) (o : Operation Task) (end : ℕ × Status) → end_of later o ≡ Some end
    → (end.0 ≡ o.number) × (live_at later.operations o.number ≡ None)
end-number later o end is = by (live_at later.operations o.number) refl is where
  and_kept : (k : Option (Operation Task)) → find (has_number o.number) later.operations.ended ≡ k → option_map (λ (x : Operation Task). (x.number, x.status)) k ≡ Some end → end.0 ≡ o.number
  and_kept None found whole = cc
  and_kept (Some x) found whole =
      ap number_of (some-is (sym whole)) ∙ eqb-true x.number o.number (find-some (has_number o.number) later.operations.ended x found).1 where
        some-is : {a b : ℕ × Status} → Some a ≡ Some b → a ≡ b
        some-is same = cc

  by : (l : Option (Operation Task)) → live_at later.operations o.number ≡ l
      → cond (is_none l) (option_map (λ (x : Operation Task). (x.number, x.status)) (find (has_number o.number) later.operations.ended)) None ≡ Some end
      → (end.0 ≡ o.number) × (live_at later.operations o.number ≡ None)
  by None live whole = (and_kept (find (has_number o.number) later.operations.ended) refl whole, live)
  by (Some x) live whole = cc

-- of some live operations: what each end that is read says of its operation
ends-each : (later : State) (P : ℕ → Type 0) (os : List (Operation Task))
    → Each (λ (o : Operation Task). live_at later.operations o.number ≡ None → P o.number) os
    → Each (λ (end : ℕ × Status). P end.0) (filter_map (end_of later) os)
ends-each later P [] h = Each-none
ends-each later P (o ∷ os) h = at (end_of later o) refl (ends-each later P os (Each-tail h)) where
  at : (end : Option (ℕ × Status)) → end_of later o ≡ end → Each (λ (e : ℕ × Status). P e.0) (filter_map (end_of later) os)
      → Each (λ (e : ℕ × Status). P e.0) (cons_option end (filter_map (end_of later) os))
  at None is rest = rest
  at (Some end) is rest =
      let told = end-number later o end is in
      Each-cons (λ (e : ℕ × Status). P e.0) (subst P (sym told.0) (Each-head h told.1)) rest

ends-distinct : (later : State) (os : List (Operation Task)) → Distinct (λ (o : Operation Task). o.number) os → Distinct number_of (filter_map (end_of later) os)
ends-distinct later [] d = tt
ends-distinct later (o ∷ os) d = at (end_of later o) refl (ends-distinct later os d.1) where
  at : (end : Option (ℕ × Status)) → end_of later o ≡ end → Distinct number_of (filter_map (end_of later) os)
      → Distinct number_of (cons_option end (filter_map (end_of later) os))
  at None is rest = rest
  at (Some end) is rest = (
    subst (λ n. Each (λ (e : ℕ × Status). e.0 ≢ n) (filter_map (end_of later) os)) (sym (end-number later o end is).0)
        (ends-each later (λ m. m ≢ o.number) os (Each-map (λ x other gone. other) d.0)),
    rest,
  )

-- a number that is over ends no more
pub over-ends-not : (s : State) (events : Events) (r : Ran) (n : ℕ) → IsOver n s.operations → run s events ≡ Some r → Each (λ (end : ℕ × Status). end.0 ≢ n) r.ends
over-ends-not s [] r n h is = subst (λ (x : Ran). Each (λ (end : ℕ × Status). end.0 ≢ n) x.ends) (some-is is) Each-none where
  some-is : {x y : Ran} → Some x ≡ Some y → x ≡ y
  some-is same = cc
over-ends-not s (e ∷ events) r n h is = by (run-begins s e events r is) (λ first rest. over-ends-not first.state events rest n) where
  by : Begins s e events r → ((first : After) (rest : Ran) → IsOver n first.state.operations → run first.state events ≡ Some rest → Each (λ (end : ℕ × Status). end.0 ≢ n) rest.ends) → Each (λ (end : ℕ × Status). end.0 ≢ n) r.ends
  by (begins first rest stepped ran whole) later = subst (λ (x : Ran). Each (λ (end : ℕ × Status). end.0 ≢ n) x.ends) (sym whole)
      (Each-append
      (ends-each first.state (λ m. m ≢ n) s.operations.live (Each-map (λ o other gone. other) h.gone))
      (later first rest (moves-over n (step-moves s e.0 e.1 first stepped) h) ran))

pub ends-once-from : (s : State) (events : Events) (r : Ran) → AreLive s.operations → run s events ≡ Some r → Distinct number_of r.ends
ends-once-from s [] r h is = subst (λ (x : Ran). Distinct number_of x.ends) (some-is is) tt where
  some-is : {x y : Ran} → Some x ≡ Some y → x ≡ y
  some-is same = cc
ends-once-from s (e ∷ events) r h is = by (run-begins s e events r is) (λ first rest. ends-once-from first.state events rest) where
  by : Begins s e events r → ((first : After) (rest : Ran) → AreLive first.state.operations → run first.state events ≡ Some rest → Distinct number_of rest.ends) → Distinct number_of r.ends
  by (begins first rest stepped ran whole) later = subst (λ (x : Ran). Distinct number_of x.ends) (sym whole)
      (Distinct-append number_of (ends_between s first.state) rest.ends
      (ends-distinct first.state s.operations.live h.distinct)
      (later first rest (moves-live moved h) ran)
      apart) where
        moved : Moves s.operations first.state.operations
        moved = step-moves s e.0 e.1 first stepped

        apart : Each (λ (end : ℕ × Status). Each (λ (other : ℕ × Status). other.0 ≢ end.0) rest.ends) (ends_between s first.state)
        apart = ends-each first.state (λ n. Each (λ (other : ℕ × Status). other.0 ≢ n) rest.ends) s.operations.live
            (Each-map (λ o below gone. over-ends-not first.state events rest o.number
            (record { below = omega (arith, below, moves-next moved); gone = Each-map (λ x not_it same. false≢true (sym not_it ∙ eq-eqb x.number o.number same)) (find-none (has_number o.number) first.state.operations.live gone) })
            ran) h.below)

pub ends-once : EndsOnce
ends-once s events r kept is = ends-once-from s events r (kept-live kept) is
