-- Steps that are made between two requests.
use Rattle.std.proofs.Common.{◌≡◌, ◌≤◌, ◌⊎◌, ℕ, List, length, [], ◌∙◌, subst, sym, inl, inr, arith}
use Rattle.serial_steps.proofs.Making.{IsBusy, SoFar}
use Rattle.serial_steps.specs.Steps.{SerialWorld, Step}
use Rattle.serial_run.specs.Exchanges.{MakesUpTo}

-- all of them were made
pub makes-all : (a b : SerialWorld) (count made : ℕ) → SoFar IsBusy a b made → made ≡ count
    → (steps : List Step) × MakesUpTo count a steps b
makes-all a b count made far all = (
  far.steps,
  record {
    made = far.leads;
    few = subst (λ n. length far.steps ≤ n) (far.counted ∙ all) (omega arith);
    all = inl (far.counted ∙ all);
  },
)

-- nothing is left to do
pub makes-fewer : (a b : SerialWorld) (count made : ℕ) → SoFar IsBusy a b made → made ≤ count
    → b.serial.state.operations.live ≡ [] → (steps : List Step) × MakesUpTo count a steps b
makes-fewer a b count made far few idle = (
  far.steps,
  record {
    made = far.leads;
    few = subst (λ n. n ≤ count) (sym far.counted) few;
    all = inr idle;
  },
)
