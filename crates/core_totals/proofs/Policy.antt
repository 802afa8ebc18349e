-- Where nothing else is forbidden, only what a new operation claims can break a rule on policy.
use Rattle.std.proofs.Common.{◌≡◌, ℕ, None, sym, ◌∙◌}
use Rattle.plain_lists.specs.Firsts.{first_of}
use Rattle.plain_lists.specs.Members.{Mem}
use Rattle.plain_lists.proofs.Elements.{Each-left, Each-map}
use Rattle.plain_lists.proofs.FirstLemmas.{none-first_of, first_of-only, first_of-same}
use Rattle.plain_lists.proofs.PutsLemmas.{Puts-push}
use Rattle.operations.specs.declared.operation.Operation.{Operation}
use Rattle.records.specs.declared.rows.Project.{Project}
use Rattle.records.specs.declared.rows.Profile.{Profile}
use Rattle.records.specs.declared.rows.Instance.{Instance}
use Rattle.row_machine.specs.machine.Claims.{of_live, claimed_instance, judged_instances}
use Rattle.row_machine.specs.machine.PolicyRules.{forbids_profile, forbids_instance, project_forbids, policy_broken}
use Rattle.row_machine.specs.machine.State.{State}
use Rattle.row_machine.specs.machine.Task.{Task}
use Rattle.row_machine.specs.machine.Operations.{claiming}
use Rattle.row_machine.specs.facts.Whole.{IsClean, AreWithin}
use Rattle.machine_laws.proofs.LimitsForbidden.{rule_numbers}
use Rattle.rules_policy.specs.Alone.{claim_forbidden}
use Rattle.rules_policy.specs.Within.{own_profile, own_instance, own_claim}
use Rattle.rules_policy.proofs.Judged.{forbids-split}
use Rattle.core_totals.proofs.Own.{own-none, claim-none, last-of, claimed}

-- nothing that is there is forbidden, nor what live operations claim
module _ (s : State) (p : Project) (h : IsClean s p) (number : ℕ) where
  profiles-free : first_of (own_profile p number) s.profiles ≡ None
  profiles-free = none-first_of (own_profile p number) s.profiles
      (Each-map (λ r free. own-none (forbids_profile p number) (λ (x : Profile). x.project) p.name r (λ own. free own number)) h.profiles)

  instances-free : first_of (own_instance s p number) s.instances ≡ None
  unfolding judged_instances
  instances-free = none-first_of (own_instance s p number) s.instances
      (Each-map (λ i free. own-none (forbids_instance s p number) (λ (x : Instance). x.project) p.name i (λ own. free own number))
      (Each-left (of_live claimed_instance s) h.instances))

  claim-free : (o : Operation Task) → Mem o s.operations.live → own_claim s p number o.work ≡ None
  unfolding judged_instances
  claim-free o m = claim-none (forbids_instance s p number) (λ (x : Instance). x.project) p.name (claimed_instance o.work)
      (λ i is own. h.instances.at i (claimed claimed_instance s s.instances o i m is) own number)

  project-forbids : (task : Task) (moment : ℕ) → project_forbids (claiming s task moment) number p ≡ own_claim s p number task
  unfolding forbids_instance
  project-forbids task moment =
      sym (forbids-split (claiming s task moment) number p)
      ∙ last-of profiles-free instances-free
      (first_of-only (λ (o : Operation Task). own_claim s p number o.work) (Puts-push s.operations.live) (record { at = claim-free }))

pub policy-alone : (s : State) (task : Task) (moment : ℕ) → AreWithin s → policy_broken (claiming s task moment) ≡ claim_forbidden s task
unfolding policy_broken claim_forbidden
policy-alone s task moment h =
    first_of-same (λ number. first_of (project_forbids (claiming s task moment) number) s.projects)
    (λ number. first_of (λ p. own_claim s p number task) s.projects) rule_numbers
    (record {
      at = λ number n. first_of-same (project_forbids (claiming s task moment) number) (λ p. own_claim s p number task) s.projects
          (record { at = λ p m. project-forbids s p (h.policy.at p m) number task moment });
    })
