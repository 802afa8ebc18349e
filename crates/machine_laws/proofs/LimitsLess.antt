-- What counts for less, and judges no more, stays within limits and policy.
use Rattle.std.proofs.Common.{◌≡◌, ℕ, ◌≤◌, Option, Some, None, List, length, sym, ◌∙◌, ap, subst, arith}
use Rattle.std.specs.Prelude.{IfSome, filter}
use Rattle.std.specs.Str.{bytes_eq}
use Rattle.plain_lists.specs.Members.{Mem, Each}
use Rattle.plain_lists.proofs.Elements.{Each-map}
use Rattle.project_limits.specs.Admission.{limit_on}
use Rattle.project_limits.specs.Limits.{limits_of}
use Rattle.project_limits.specs.Pools.{pool_limit}
use Rattle.records.specs.declared.rows.Project.{Project}
use Rattle.records.specs.declared.rows.Profile.{Profile}
use Rattle.records.specs.declared.rows.Network.{Network}
use Rattle.records.specs.declared.rows.Volume.{Volume}
use Rattle.records.specs.declared.rows.Instance.{Instance}
use Rattle.row_machine.specs.machine.State.{State}
use Rattle.row_machine.specs.machine.Claims.{judged_instances, judged_volumes}
use Rattle.row_machine.specs.machine.Usage.{used, used_on, networks_of}
use Rattle.row_machine.specs.machine.PolicyRules.{forbids_profile}
use Rattle.row_machine.specs.facts.Whole.{IsWithin, IsClean, AreWithin}
use Rattle.machine_laws.proofs.Measures.{Measure, IsMeasure, used_by, by_part, by_pool, part-measure, pool-measure}
use Rattle.machine_laws.proofs.Expansions.{without_amount-alike, forbids-alike}
use Rattle.machine_laws.proofs.ExpansionsRows.{alike-rows}

-- the later state has the same projects, profiles and networks, judges nothing that was not judged, and uses no more
pub record IsLess (s t : State) : Type 0 where
  pub projects : t.projects ≡ s.projects
  pub profiles : t.profiles ≡ s.profiles
  pub networks : t.networks ≡ s.networks
  pub instances : (i : Instance) → Mem i (judged_instances t) → Mem i (judged_instances s)
  pub volumes : (v : Volume) → Mem v (judged_volumes t) → Mem v (judged_volumes s)
  pub usage : (project : List ℕ) (k : Measure) → IsMeasure k → used_by t project k ≤ used_by s project k

within-some : (limit : Option ℕ) (a b : ℕ) → b ≤ a → IfSome limit (λ l. a ≤ l) → IfSome limit (λ l. b ≤ l)
within-some None a b less h = tt
within-some (Some l) a b less h = omega (arith, less, h)

networks-same : (s t : State) (name : List ℕ) → t.networks ≡ s.networks → networks_of t name ≡ networks_of s name
unfolding networks_of
networks-same s t name same = ap (λ ns. length (filter (λ (n : Network). bytes_eq n.project name) ns)) same

pub within-less : (s t : State) → IsLess s t → AreWithin s → AreWithin t
within-less s t less h = record {
  limits = subst (Each (IsWithin t)) (sym less.projects) (Each-map within h.limits);
  policy = subst (Each (IsClean t)) (sym less.projects) (Each-map clean h.policy);
} where
  within : (p : Project) → IsWithin s p → IsWithin t p
  within p w = record {
    parts = λ k. within-some (limit_on k (limits_of p.config)) (used s p.name k) (used t p.name k) (less.usage p.name (by_part k) (part-measure k)) (w.parts k);
    pools = λ pool. within-some (pool_limit p.config pool) (used_on s p.name pool) (used_on t p.name pool) (less.usage p.name (by_pool pool) (pool-measure pool)) (w.pools pool);
    networks = subst (λ n. IfSome (limits_of p.config).networks (λ limit. n ≤ limit)) (sym (networks-same s t p.name less.networks)) w.networks;
    instances = record { at = λ i m own. without_amount-alike p (alike-rows s t i less.projects less.profiles) ∙ w.instances.at i (less.instances i m) own };
    volumes = record { at = λ v m own. w.volumes.at v (less.volumes v m) own };
  }

  clean : (p : Project) → IsClean s p → IsClean t p
  clean p c = record {
    profiles = subst (Each (λ (r : Profile). r.project ≡ p.name → (number : ℕ) → forbids_profile p number r ≡ None)) (sym less.profiles) c.profiles;
    instances = record { at = λ i m own number. forbids-alike p number (alike-rows s t i less.projects less.profiles) ∙ c.instances.at i (less.instances i m) own number };
  }
