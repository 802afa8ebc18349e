-- One new profile is judged alone, which says as much as all projects.
use Rattle.std.proofs.Common.{◌≡◌, true, Option, Some, None, List, [], ◌∷◌, refl, sym, subst}
use Rattle.std.specs.Prelude.{is_none, option_and_then}
use Rattle.std.proofs.lemmas.Bool.{false≢true}
use Rattle.records.specs.declared.rows.Profile.{Profile}
use Rattle.records.specs.declared.rows.Row.TheVariants as row
use Rattle.row_machine.specs.declared.changes.RowChange.{RowChange}
use Rattle.row_machine.specs.declared.changes.RowChange.TheVariants as change
use Rattle.row_machine.specs.facts.Whole.{IsWhole}
use Rattle.row_machine.specs.machine.Changes.{applied}
use Rattle.row_machine.specs.machine.Rows.{profile_named}
use Rattle.row_machine.specs.machine.State.{State}
use Rattle.core_totals.specs.NewProfile.{is_new_profile, profile_put, puts_new_profile, with_new}
use Rattle.core_totals.proofs.NewProfiles.{profiles-alone}
use Rattle.core_totals.proofs.Own.{first-alone}
use Rattle.rules_policy.specs.Alone.{profile_forbidden}
use Rattle.core_judging.specs.Judged.{projects_judged}

none-from : {X : Type 0} (o : Option X) → is_none o ≡ true → o ≡ None
none-from None is = refl
none-from (Some x) is = absurd (false≢true is)

module _ (s : State) (whole : IsWhole s) where
  alone : (r : Profile) → is_new_profile s r ≡ true → profile_forbidden (with_new s r) r ≡ projects_judged s (with_new s r)
  alone r new =
      let judged = profiles-alone s r whole (none-from (profile_named s.profiles r.project r.name) new) in
      sym (first-alone judged.policy judged.counts judged.limits)

  at-once : (cs : List RowChange) → puts_new_profile s cs ≡ true
      → option_and_then (profile_forbidden (applied s cs)) (profile_put cs) ≡ projects_judged s (applied s cs)
  at-once [] new = absurd (false≢true new)
  at-once (change.Put (row.Project r) ∷ []) new = absurd (false≢true new)
  at-once (change.Put (row.Profile r) ∷ []) new = alone r new
  at-once (change.Put (row.Network r) ∷ []) new = absurd (false≢true new)
  at-once (change.Put (row.Pool r) ∷ []) new = absurd (false≢true new)
  at-once (change.Put (row.Volume r) ∷ []) new = absurd (false≢true new)
  at-once (change.Put (row.Instance r) ∷ []) new = absurd (false≢true new)
  at-once (change.Put (row.Snapshot r) ∷ []) new = absurd (false≢true new)
  at-once (change.Remove of key ∷ []) new = absurd (false≢true new)
  at-once (one ∷ other ∷ more) new = absurd (false≢true new)

pub judged-new : (s later : State) (cs : List RowChange) → IsWhole s → later ≡ applied s cs → puts_new_profile s cs ≡ true
    → option_and_then (profile_forbidden later) (profile_put cs) ≡ projects_judged s later
judged-new s later cs whole made new =
    subst (λ t. option_and_then (profile_forbidden t) (profile_put cs) ≡ projects_judged s t) (sym made) (at-once s whole cs new)
