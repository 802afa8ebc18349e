-- A command that breaks a rule on names or on what stands in the way.
use Rattle.std.proofs.Common.{◌≡◌, ℕ, List, [], ◌∷◌, true, Option, Some, None, refl}
use Rattle.plain_lists.specs.Firsts.{first}
use Rattle.plain_lists.proofs.FirstLemmas.{none_both}
use Rattle.size_values.specs.Causes.{Refuses}
use Rattle.size_values.specs.declared.memory.Or.{Or}
use Rattle.size_values.specs.declared.memory.Or.TheVariants as or
use Rattle.records.specs.declared.commands.Command.{Command}
use Rattle.records.specs.declared.commands.What.{What}
use Rattle.records.specs.declared.commands.What.TheVariants as what
use Rattle.records.specs.declared.refusals.Refusal.{Refusal}
use Rattle.row_machine.specs.machine.State.{State}
use Rattle.row_machine.specs.machine.Plans.{plan_of}
use Rattle.row_machine.specs.machine.Expectations.{not_as_expected}
use Rattle.row_machine.specs.machine.Rules.{names_broken}
use Rattle.row_machine.specs.machine.Rules.{standing_broken}
use Rattle.row_machine.specs.machine.Rules.{broken, plan_broken}
use Rattle.row_machine.specs.machine.NameRules.{project_missing, what_is_missing}
use Rattle.row_machine.specs.machine.StandingRules.{instance_busy, wrong_state, object_protected, object_used}
use Rattle.row_machine.specs.machine.StandingRules.{project_occupied, profile_held}
use Rattle.machine_laws.proofs.Commands.{command_of}
use Rattle.core_objects.specs.Answers.{speaks_of_no_row}

-- the first of two is the first of three
first-stays : {R : Type 0} (a b c : Option R) (r : R) → first (a ∷ b ∷ []) ≡ Some r → first (a ∷ b ∷ c ∷ []) ≡ Some r
first-stays (Some x) b c r e = e
first-stays None (Some x) c r e = e
first-stays None None c r e = cc

pub refuses-first : (s : State) (c : Command) (moment : ℕ) (why : Or Refusal)
    → Refuses why (first (names_broken s c ∷ standing_broken s c ∷ [])) → Refuses why (broken s c moment)
unfolding broken
refuses-first s c moment or.NoMemory e = tt
refuses-first s c moment (or.Why r) e = first-stays (names_broken s c) (standing_broken s c) (plan_broken s c (plan_of s c moment) moment) r e

-- a command that speaks of no row breaks none of both
module _ (s : State) (project : List ℕ) where
  unbroken_by : (expects : Option (List ℕ)) (w : What) → speaks_of_no_row w ≡ true
      → first (names_broken s (command_of project expects w) ∷ standing_broken s (command_of project expects w) ∷ []) ≡ None
  unfolding names_broken standing_broken project_missing what_is_missing not_as_expected instance_busy wrong_state object_protected
      object_used project_occupied profile_held
  unbroken_by None what.Root e = refl
  unbroken_by None what.Server e = refl
  unbroken_by (Some tag) what.Root e = refl
  unbroken_by (Some tag) what.Server e = refl
  unbroken_by expects other e = cc

pub unbroken : (s : State) (c : Command) → speaks_of_no_row c.what ≡ true → first (names_broken s c ∷ standing_broken s c ∷ []) ≡ None
unbroken s c e = unbroken_by s c.project c.expects c.what e

-- none of both is broken
pub both-free : (s : State) (c : Command) → first (names_broken s c ∷ standing_broken s c ∷ []) ≡ None → (names_broken s c ≡ None) × (standing_broken s c ≡ None)
both-free s c e =
    let names = none_both (names_broken s c) _ e in
    (names.0, (none_both (standing_broken s c) None names.1).0)
