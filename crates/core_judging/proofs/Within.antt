-- Changes within a project are judged in it, which says as much as all projects.
use Rattle.std.proofs.Common.{◌≡◌, ℕ, false, Option, Some, None, List, [], refl, sym, ap, subst, ◌∙◌, inl, inr}
use Rattle.std.specs.Option.{option_and_then, option_map_or, option_or}
use Rattle.records.specs.declared.rows.Project.{Project}
use Rattle.row_machine.specs.declared.changes.RowChange.{RowChange}
use Rattle.row_machine.specs.facts.Whole.{IsWhole}
use Rattle.row_machine.specs.machine.Changes.{applied}
use Rattle.row_machine.specs.machine.State.{State}
use Rattle.row_machine.specs.machine.Rows.{project_named}
use Rattle.row_readings.specs.PoolLimits.{own_limits}
use Rattle.row_readings.specs.declared.pool_limits.PoolLimit.{PoolLimit}
use Rattle.core_totals.specs.OneProject.{in_use, project_within, use_over, IsProjectJudgedAlone}
use Rattle.core_totals.proofs.Renamed.{projects-alone}
use Rattle.rules_limits.specs.OneProject.{of_project, uses_over}
use Rattle.rules_limits.specs.declared.one_project.InUse.{InUse}
use Rattle.rules_limits.specs.AllProjects.{is_limited}
use Rattle.rules_limits.specs.Limited.{pools_named}
use Rattle.rules_limits.proofs.Unlimited.{unlimited-uses}
use Rattle.core_judging.specs.Before.{Knows}
use Rattle.core_judging.specs.Judged.{project_exceeds, project_forbidden, project_judged, project_lacks_amount, projects_judged}

-- of three rules each says as much as another one
three-same : {R : Type 0} {a b c x y z : Option R} → a ≡ x → b ≡ y → c ≡ z
    → option_or a (option_or b (option_or c None)) ≡ option_or x (option_or y (option_or z None))
three-same {R} {a} {b} {c} {x} {y} {z} first second third =
    ap (λ o. option_or o (option_or b (option_or c None))) first
    ∙ ap (λ o. option_or x (option_or o (option_or c None))) second
    ∙ ap (λ o. option_or x (option_or y (option_or o None))) third

-- of the project of a name: where no limit is set, what was used says nothing
same-uses : (s t : State) (name : List ℕ) (pools : List PoolLimit) (used : InUse) → pools ≡ pools_named t.projects name → Knows name pools used s t
    → of_project (uses_over pools used (in_use t name pools)) t.projects name ≡ of_project (use_over s t name) t.projects name
same-uses s t name pools used are (inl is) = at (project_named t.projects name) are where
  at : (o : Option Project) → pools ≡ option_map_or own_limits o []
      → option_and_then (uses_over pools used (in_use t name pools)) o ≡ option_and_then (use_over s t name) o
  at None own = refl
  at (Some p) own = ap (λ u. uses_over pools u (in_use t name pools) p) is ∙ ap (λ ls. uses_over ls (in_use s name ls) (in_use t name ls) p) own
same-uses s t name pools used are (inr free) = at (project_named t.projects name) are free where
  at : (o : Option Project) → pools ≡ option_map_or own_limits o [] → option_map_or is_limited o false ≡ false
      → option_and_then (uses_over pools used (in_use t name pools)) o ≡ option_and_then (use_over s t name) o
  at None own none = refl
  at (Some p) own none =
      ap (λ ls. uses_over ls used (in_use t name pools) p) own
      ∙ unlimited-uses p none used (in_use t name pools)
      ∙ sym (unlimited-uses p none (in_use s name (own_limits p)) (in_use t name (own_limits p)))

pub judged-within : (s later : State) (cs : List RowChange) (name : List ℕ) (pools : List PoolLimit) (used : InUse) → IsWhole s → later ≡ applied s cs
    → pools ≡ pools_named later.projects name → project_within s cs ≡ Some name → Knows name pools used s later
    → project_judged name pools used later ≡ projects_judged s later
unfolding project_forbidden project_lacks_amount project_exceeds
judged-within s later cs name pools used whole made are within knows = subst
    (λ t. pools ≡ pools_named t.projects name → Knows name pools used s t → project_judged name pools used t ≡ projects_judged s t) (sym made)
    (alike (projects-alone s cs name whole within)) are knows where
      t : State
      t = applied s cs

      alike : IsProjectJudgedAlone s t name → pools ≡ pools_named t.projects name → Knows name pools used s t → project_judged name pools used t ≡ projects_judged s t
      alike judged own known = three-same (sym judged.policy) (sym judged.counts) (same-uses s t name pools used own known ∙ sym judged.limits)
