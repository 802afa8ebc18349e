-- A new profile is judged by what it has alone.
use Rattle.std.specs.Prelude.{◌≡◌, Bool, false, List, [], ◌∷◌, Option, Some, None, is_none}
use Rattle.std.specs.Option.{option_map_or}
use Rattle.records.specs.declared.rows.Profile.{Profile}
use Rattle.records.specs.declared.rows.Row.TheVariants as row
use Rattle.row_machine.specs.declared.changes.RowChange.{RowChange}
use Rattle.row_machine.specs.declared.changes.RowChange.TheVariants as change
use Rattle.row_machine.specs.facts.Whole.{IsWhole}
use Rattle.row_machine.specs.machine.Changes.{applied}
use Rattle.row_machine.specs.machine.LimitRules.{counts_broken, limits_broken}
use Rattle.row_machine.specs.machine.PolicyRules.{policy_broken}
use Rattle.row_machine.specs.machine.Rows.{profile_named}
use Rattle.row_machine.specs.machine.State.{State}
use Rattle.rules_policy.specs.Alone.{profile_forbidden}

-- the profile that a change puts
abbrev pub profile_in : RowChange → Option Profile
profile_in (change.Put (row.Profile profile)) = Some profile
profile_in other = None

-- the profile that changes put which do nothing else
abbrev pub profile_put : List RowChange → Option Profile
profile_put (one ∷ []) = profile_in one
profile_put changes = None

-- whether a profile has the project and the name of no profile that there is
abbrev pub is_new_profile : State → Profile → Bool
is_new_profile state profile = is_none (profile_named state.profiles profile.project profile.name)

-- whether changes put one new profile, and do nothing else
abbrev pub puts_new_profile : State → List RowChange → Bool
puts_new_profile state changes = option_map_or (is_new_profile state) (profile_put changes) false

-- the state with one more profile
abbrev pub with_new : State → Profile → State
with_new state profile = applied state (change.Put (row.Profile profile) ∷ [])

-- Where all facts hold, each profile that is named is there, so that a new one changes nothing of what instances have:
-- a rule on policy (F1 to F7) that the state with it breaks is one that it breaks alone in its project, and no rule on
-- what is counted (L0) or on limits (L1 to L9) is broken.
pub record IsProfileJudgedAlone (state : State) (profile : Profile) : Type 0 where
  pub policy : policy_broken (with_new state profile) ≡ profile_forbidden (with_new state profile) profile
  pub counts : counts_broken (with_new state profile) ≡ None
  pub limits : limits_broken state (with_new state profile) ≡ None

abbrev pub NewProfilesAreJudgedAlone : Type 0
NewProfilesAreJudgedAlone = (state : State) (profile : Profile) → IsWhole state
    → profile_named state.profiles profile.project profile.name ≡ None → IsProfileJudgedAlone state profile
