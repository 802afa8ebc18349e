-- Where all else is countable, only what a new operation claims can break the rule on counts.
use Rattle.std.proofs.Common.{◌≡◌, ℕ, false, cond, Option, Some, None, [], ◌∷◌, refl, sym, ap, ◌∙◌}
use Rattle.std.specs.Option.{option_map_or, option_or}
use Rattle.std.specs.Str.{bytes_eq}
use Rattle.plain_lists.specs.Firsts.{first_of}
use Rattle.plain_lists.specs.Members.{Mem}
use Rattle.plain_lists.proofs.Elements.{Each-left, Each-map}
use Rattle.plain_lists.proofs.FirstLemmas.{none-first_of, first_of-only, first_of-same}
use Rattle.plain_lists.proofs.PutsLemmas.{Puts-push}
use Rattle.operations.specs.declared.operation.Operation.{Operation}
use Rattle.records.specs.declared.rows.Project.{Project}
use Rattle.records.specs.declared.rows.Instance.{Instance}
use Rattle.records.specs.declared.rows.Volume.{Volume}
use Rattle.records.specs.declared.rows.Row.{Row}
use Rattle.records.specs.declared.rows.Row.TheVariants as row
use Rattle.row_machine.specs.machine.Claims.{of_live, claimed_instance, claimed_volume, judged_instances, judged_volumes, project_of_row}
use Rattle.row_machine.specs.machine.LimitRules.{instance_without_amount, volume_lacks_amount, claim_without_amount, project_without_amount, counts_broken}
use Rattle.row_machine.specs.machine.State.{State}
use Rattle.row_machine.specs.machine.Task.{Task}
use Rattle.row_machine.specs.machine.Operations.{claiming, project_of_task}
use Rattle.row_machine.specs.facts.Whole.{IsWhole, IsWithin}
use Rattle.machine_laws.proofs.DefaultsProjects.{distinct_projects}
use Rattle.rules_limits.specs.OneProject.{claim_lacks_amount}
use Rattle.rules_limits.specs.Within.{own_instance, own_volume}
use Rattle.rules_limits.proofs.Countables.{without_amount-split}
use Rattle.row_readings.proofs.Ranges.{apart, first_of-filter}
use Rattle.core_totals.proofs.Named.{named-first}
use Rattle.core_totals.proofs.Own.{own-none, listed-none, last-of, claimed}

-- what is there is countable, and so is what live operations claim
module _ (s : State) (p : Project) (h : IsWithin s p) where
  instances-free : first_of (own_instance s p) s.instances ≡ None
  unfolding judged_instances
  instances-free = none-first_of (own_instance s p) s.instances
      (Each-map (own-none (instance_without_amount s p) (λ (i : Instance). i.project) p.name) (Each-left (of_live claimed_instance s) h.instances))

  pub volumes-free : first_of (own_volume p) s.volumes ≡ None
  unfolding judged_volumes
  volumes-free = none-first_of (own_volume p) s.volumes
      (Each-map (own-none (volume_lacks_amount p) (λ (v : Volume). v.project) p.name) (Each-left (of_live claimed_volume s) h.volumes))

  claim-free : (o : Operation Task) → Mem o s.operations.live → claim_without_amount s p o.work ≡ None
  unfolding judged_instances judged_volumes
  claim-free o m = last-of
      (listed-none (instance_without_amount s p) (λ (i : Instance). i.project) p.name (claimed_instance o.work)
      (λ i is own. h.instances.at i (claimed claimed_instance s s.instances o i m is) own))
      (listed-none (volume_lacks_amount p) (λ (v : Volume). v.project) p.name (claimed_volume o.work)
      (λ v is own. h.volumes.at v (claimed claimed_volume s s.volumes o v m is) own))
      refl

  project-counts : (task : Task) (moment : ℕ) → project_without_amount (claiming s task moment) p ≡ claim_without_amount s p task
  unfolding instance_without_amount
  project-counts task moment =
      sym (without_amount-split (claiming s task moment) p)
      ∙ last-of instances-free volumes-free
      (first_of-only (λ (o : Operation Task). claim_without_amount s p o.work) (Puts-push s.operations.live) (record { at = claim-free }))

-- a project counts no claim of another one
without_amount-other : (s : State) (task : Task) (p : Project) (claim : Option Row) → bytes_eq p.name (option_map_or project_of_row claim task.project) ≡ false
    → claim_without_amount s p (record task { claim = claim }) ≡ None
without_amount-other s task p None other = refl
without_amount-other s task p (Some (row.Instance i)) other =
    ap (λ b. option_or (first_of (instance_without_amount s p) (cond b (i ∷ []) [])) None) (apart p.name i.project other)
without_amount-other s task p (Some (row.Volume v)) other =
    ap (λ b. option_or (first_of (volume_lacks_amount p) (cond b (v ∷ []) [])) None) (apart p.name v.project other)
without_amount-other s task p (Some (row.Project r)) other = refl
without_amount-other s task p (Some (row.Profile r)) other = refl
without_amount-other s task p (Some (row.Network r)) other = refl
without_amount-other s task p (Some (row.Pool r)) other = refl
without_amount-other s task p (Some (row.Snapshot r)) other = refl

pub counts-alone : (s : State) (task : Task) (moment : ℕ) → IsWhole s → counts_broken (claiming s task moment) ≡ claim_lacks_amount s (project_of_task task) task
unfolding counts_broken
counts-alone s task moment h =
    first_of-same (project_without_amount (claiming s task moment)) (λ p. claim_without_amount s p task) s.projects
    (record { at = λ p m. project-counts s p (h.limits.limits.at p m) task moment })
    ∙ sym (first_of-filter (λ p. claim_without_amount s p task) (λ p. bytes_eq p.name (project_of_task task)) s.projects
    (λ p other. without_amount-other s task p task.claim other))
    ∙ named-first (λ p. claim_without_amount s p task) (project_of_task task) s.projects (distinct_projects h)
