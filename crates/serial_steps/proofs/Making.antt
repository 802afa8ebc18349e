-- Steps that are made one after the other.
use Rattle.std.proofs.Common.{◌≡◌, ◌≢◌, ◌≤◌, ◌+◌, ◌++◌, ℕ, zero, suc, List, [], ◌∷◌, length, Bool, true, false, IsTrue, None, refl, ap, sym, ◌∙◌, subst, arith}
use Rattle.std.specs.List.{find}
use Rattle.std.specs.Option.{is_some}
use Rattle.std.proofs.lemmas.List.{length-append}
use Rattle.operations.specs.OperationTable.{has_number, live_at}
use Rattle.row_machine.specs.machine.State.{State}
use Rattle.row_machine.specs.facts.Whole.{IsWhole}
use Rattle.machine_laws.specs.Waits.{IsAlone}
use Rattle.serial_steps.specs.Steps.{SerialWorld, Step, Steps, StepsWhile, Finishes, WaitsFor, most_steps, number_in}
use Rattle.machine_laws.proofs.WaitsEnding.{steps_of, none-left}
use Rattle.serial_steps.proofs.Lessening.{few-left}
use Rattle.serial_steps.proofs.Stepping.{step-lessens}

-- so far so many steps were made, each where the state before it was such
pub record SoFar (such : State → Type 0) (w w' : SerialWorld) (count : ℕ) : Type 0 where
  pub steps : List Step
  pub leads : StepsWhile such w steps w'
  pub counted : length steps ≡ count

pub none_so_far : (such : State → Type 0) (w : SerialWorld) → SoFar such w w 0
none_so_far such w = record { steps = []; leads = refl; counted = refl }

-- steps, and then one more
one_more_step : (such : State → Type 0) (a b c : SerialWorld) (steps : List Step) (s : Step) → StepsWhile such a steps b → such b.serial.state → Steps b s c → StepsWhile such a (steps ++ s ∷ []) c
one_more_step such a b c [] s same is next = (subst (λ (v : SerialWorld). such v.serial.state) (sym same) is, c, subst (λ v. Steps v s c) (sym same) next, refl)
one_more_step such a b c (first ∷ steps) s all is next = (all.0, all.1, all.2, one_more_step such all.1 b c steps s all.3 is next)

pub one_more : (such : State → Type 0) (a b c : SerialWorld) (count : ℕ) → SoFar such a b count → such b.serial.state → (s : Step) × Steps b s c → SoFar such a c (count + 1)
one_more such a b c count far is next = record {
  steps = far.steps ++ next.0 ∷ [];
  leads = one_more_step such a b c far.steps next.0 far.leads is next.1;
  counted = length-append far.steps (next.0 ∷ []) ∙ ap (λ n. n + 1) far.counted;
}

-- ---- steps until nothing is left

-- the steps so far, and how many are left at most
pub record EndsSoon (such : State → Type 0) (w w' : SerialWorld) (count : ℕ) : Type 0 where
  pub far : SoFar such w w' count
  pub left : steps_of w'.serial.state + count ≤ most_steps

pub soon : (such : State → Type 0) (w : SerialWorld) → IsWhole w.serial.state → EndsSoon such w w 0
soon such w h = record { far = none_so_far such w; left = omega (arith, few-left w.serial.state h) }

none-live : (s : State) → steps_of s ≤ 0 → s.operations.live ≡ []
none-live s few = none-left s.operations.live few

-- where one is live, at least one step is left
some-left : (s : State) → s.operations.live ≢ [] → 1 ≤ steps_of s
some-left s some = by (steps_of s) refl where
  by : (n : ℕ) → steps_of s ≡ n → 1 ≤ n
  by zero is = absurd (some (none-live s (omega (arith, is))))
  by (suc n) is = omega arith

pub sooner : (such : State → Type 0) (a b c : SerialWorld) (count : ℕ) → EndsSoon such a b count → IsWhole b.serial.state → IsAlone b.serial.state (number_in b.serial.hand)
    → such b.serial.state → b.serial.state.operations.live ≢ [] → (s : Step) × Steps b s c → EndsSoon such a c (count + 1)
sooner such a b c count e h alone is some next = record {
  far = one_more such a b c count e.far is next;
  left =
      let less = (step-lessens b next.0 c h alone next.1).less in
      omega (arith, less, e.left, some-left b.serial.state some);
}

-- after the most steps nothing is live
pub over : (such : State → Type 0) (a b : SerialWorld) (count : ℕ) → EndsSoon such a b count → most_steps ≤ count → b.serial.state.operations.live ≡ []
over such a b count e most = none-live b.serial.state (omega (arith, e.left, most))

-- ---- until nothing is live, and until an operation has ended

abbrev pub IsBusy : State → Type 0
IsBusy s = s.operations.live ≢ []

abbrev pub IsLive : ℕ → State → Type 0
IsLive number s = live_at s.operations number ≢ None

-- where an operation is live, something is
live-busy : (number : ℕ) (s : State) → IsLive number s → IsBusy s
live-busy number s live none = live (ap (find (has_number number)) none)

pub finishes : (a b : SerialWorld) (count : ℕ) → EndsSoon IsBusy a b count → count ≤ most_steps → b.serial.state.operations.live ≡ []
    → (steps : List Step) × Finishes a steps b × (length steps ≤ most_steps)
finishes a b count e few none = (e.far.steps, record { made = e.far.leads; done = none }, subst (λ n. n ≤ most_steps) (sym e.far.counted) few)

pub finishes-over : (a b : SerialWorld) (count : ℕ) → EndsSoon IsBusy a b count → most_steps ≤ count → count ≤ most_steps
    → (steps : List Step) × Finishes a steps b × (length steps ≤ most_steps)
finishes-over a b count e most few = finishes a b count e few (over IsBusy a b count e most)

pub busy-sooner : (a b c : SerialWorld) (count : ℕ) → EndsSoon IsBusy a b count → IsWhole b.serial.state → IsAlone b.serial.state (number_in b.serial.hand) → IsBusy b.serial.state
    → (s : Step) × Steps b s c → EndsSoon IsBusy a c (count + 1)
busy-sooner a b c count e h alone busy next = sooner IsBusy a b c count e h alone busy busy next

pub waits : (number : ℕ) (a b : SerialWorld) (count : ℕ) → EndsSoon (IsLive number) a b count → count ≤ most_steps → live_at b.serial.state.operations number ≡ None
    → (steps : List Step) × WaitsFor number a steps b × (length steps ≤ most_steps)
waits number a b count e few ended = (e.far.steps, record { made = e.far.leads; done = ended }, subst (λ n. n ≤ most_steps) (sym e.far.counted) few)

pub waits-over : (number : ℕ) (a b : SerialWorld) (count : ℕ) → EndsSoon (IsLive number) a b count → most_steps ≤ count → count ≤ most_steps
    → (steps : List Step) × WaitsFor number a steps b × (length steps ≤ most_steps)
waits-over number a b count e most few = waits number a b count e few (ap (find (has_number number)) (over (IsLive number) a b count e most))

pub live-sooner : (number : ℕ) (a b c : SerialWorld) (count : ℕ) → EndsSoon (IsLive number) a b count → IsWhole b.serial.state → IsAlone b.serial.state (number_in b.serial.hand)
    → IsLive number b.serial.state → (s : Step) × Steps b s c → EndsSoon (IsLive number) a c (count + 1)
live-sooner number a b c count e h alone live next = sooner (IsLive number) a b c count e h alone live (live-busy number b.serial.state live) next

-- ---- what the tests of the loops say

pub not-idle : (idle : Bool) (s : State) → (s.operations.live ≡ [] → IsTrue idle) → idle ≡ false → IsBusy s
not-idle idle s is isnt none = never (sym isnt ∙ is none) where
  never : false ≡ true → ⊥
  never e = cc

pub is-live : (number : ℕ) (s : State) (live : Bool) → live ≡ is_some (live_at s.operations number) → live ≡ true → IsLive number s
is-live number s live is it_is none = never (sym it_is ∙ is ∙ ap is_some none) where
  never : true ≡ false → ⊥
  never e = cc
