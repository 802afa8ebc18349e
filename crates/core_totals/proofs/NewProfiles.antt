-- A new profile is judged by what it has alone: no instance names it, and so each has what it had.
use Rattle.std.proofs.Common.{◌≡◌, ℕ, Option, Some, None, List, [], ◌∷◌, ◌++◌, refl, sym, ◌∙◌, ap}
use Rattle.std.specs.Prelude.{map, is_some, option_and_then}
use Rattle.std.specs.List.{sum_by, filter_map, cons_option}
use Rattle.std.specs.Option.{option_map}
use Rattle.std.proofs.lemmas.Bool.{false≢true}
use Rattle.plain_lists.specs.Edits.{Replaces}
use Rattle.plain_lists.specs.Edits.Replaces.{new, instead}
use Rattle.plain_lists.specs.Firsts.{first, first_of}
use Rattle.plain_lists.specs.Members.{Mem, Each}
use Rattle.plain_lists.specs.Puts.{Puts}
use Rattle.plain_lists.proofs.EditLemmas.{replaced-is}
use Rattle.plain_lists.proofs.Elements.{Each-head, Each-tail, Each-map}
use Rattle.plain_lists.proofs.FirstLemmas.{none-first_of, first_of-only, first_of-same}
use Rattle.plain_lists.proofs.PutsLemmas.{Mem-Puts}
use Rattle.plain_lists.proofs.Searches.{find-none}
use Rattle.operations.specs.declared.operation.Operation.{Operation}
use Rattle.project_limits.specs.Admission.{limit_on, key_of, parts}
use Rattle.project_limits.specs.Limits.{limits_of}
use Rattle.project_limits.specs.Pools.{limited_pools, pool_limit}
use Rattle.records.specs.declared.refusals.Refusal.{Refusal}
use Rattle.records.specs.declared.rows.Project.{Project}
use Rattle.records.specs.declared.rows.Profile.{Profile}
use Rattle.records.specs.declared.rows.Volume.{Volume}
use Rattle.records.specs.declared.rows.Instance.{Instance}
use Rattle.row_machine.specs.machine.Claims.{of_live, claimed_instance, claimed_volume, judged_instances, judged_volumes, project_of_row}
use Rattle.row_machine.specs.machine.Holders.{names_profile}
use Rattle.row_machine.specs.machine.LimitRules.{instance_without_amount, volume_lacks_amount, claim_without_amount, project_without_amount, counts_broken, limit_exceeded, part_exceeds, networks_exceed, pool_limit_exceeded, pools_exceed, limits_broken}
use Rattle.row_machine.specs.machine.PolicyRules.{forbids_profile, forbids_instance, project_forbids, policy_broken}
use Rattle.row_machine.specs.machine.Rows.{is_profile, profile_named, profile_names, project_named, texts_before, with_profile}
use Rattle.row_machine.specs.machine.State.{State}
use Rattle.row_machine.specs.machine.Task.{Task}
use Rattle.row_machine.specs.machine.Usage.{Load, loads, used, used_on, networks_of, amount_for, on_pool_for, instance_load, volume_load, claim_load}
use Rattle.row_machine.specs.facts.Whole.{IsWhole, IsClean, IsWithin}
use Rattle.machine_laws.proofs.DefaultsProjects.{distinct_projects}
use Rattle.machine_laws.proofs.Expansions.{IsAlike, counts-alike, without_amount-alike, forbids-alike}
use Rattle.machine_laws.proofs.ExpansionsApart.{fails-by}
use Rattle.machine_laws.proofs.ExpansionsAtOnce.{put-alike}
use Rattle.machine_laws.proofs.ExpansionsNamed.{named-there, row-judged}
use Rattle.machine_laws.proofs.LimitsForbidden.{rule_numbers}
use Rattle.machine_laws.proofs.LimitsWithin.{within-limits}
use Rattle.machine_laws.proofs.SharesAlike.{IsShareAlike, share-alike}
use Rattle.machine_laws.proofs.SharesAtOnce.{claim-judged, replaced-row}
use Rattle.rules_limits.proofs.Countables.{without_amount-split}
use Rattle.rules_limits.specs.Within.{own_instance as own_counted}
use Rattle.rules_policy.specs.Alone.{first_forbids, profile_forbidden}
use Rattle.rules_policy.specs.Within.{own_profile, own_instance, own_claim}
use Rattle.rules_policy.proofs.Judged.{forbids-split}
use Rattle.core_totals.specs.NewProfile.{with_new, NewProfilesAreJudgedAlone}
use Rattle.core_totals.proofs.Asked.{first-rule, found-alone}
use Rattle.core_totals.proofs.Counts.{volumes-free}
use Rattle.core_totals.proofs.Own.{own-none, claim-none, listed-none, first-alone, last-of, claimed}

-- ---- lists

-- what is read alike of each element
map-alike : {X Y : Type 0} (f g : X → Y) (xs : List X) → Each (λ x. f x ≡ g x) xs → map f xs ≡ map g xs
map-alike f g [] e = refl
map-alike f g (x ∷ xs) e = ap (λ y. y ∷ map f xs) (Each-head e) ∙ ap (λ ys. g x ∷ ys) (map-alike f g xs (Each-tail e))

read-alike : {X Y : Type 0} (f g : X → Option Y) (xs : List X) → Each (λ x. f x ≡ g x) xs → filter_map f xs ≡ filter_map g xs
read-alike f g [] e = refl
read-alike f g (x ∷ xs) e = ap (λ o. cons_option o (filter_map f xs)) (Each-head e) ∙ ap (cons_option (g x)) (read-alike f g xs (Each-tail e))

module _ (s : State) (r : Profile) (h : IsWhole s) (free : profile_named s.profiles r.project r.name ≡ None) where
  -- no instance names it
  alike : (i : Instance) → Mem i (judged_instances s) → IsAlike s (with_new s r) i
  alike i m = put-alike s i r (fails-by (names_profile s r.project r.name i)
      (λ is. false≢true (sym (ap is_some free) ∙ named-there s i r.project r.name h m is)))

  -- it is put in among the others
  put : Puts r s.profiles (with_profile r s.profiles)
  put = at (replaced-is (is_profile r.project r.name) (λ y. texts_before (profile_names r) (profile_names y)) r s.profiles) where
    at : Replaces (is_profile r.project r.name) r s.profiles (with_profile r s.profiles) → Puts r s.profiles (with_profile r s.profiles)
    at (new fresh q) = q
    at (instead old base is out back) = absurd (false≢true (sym ((find-none (is_profile r.project r.name) s.profiles free).at old (Mem-Puts out)) ∙ is))

  -- ---- policy

  profiles-one : (p : Project) (clean : IsClean s p) (number : ℕ) → first_of (own_profile p number) (with_profile r s.profiles) ≡ own_profile p number r
  profiles-one p clean number = first_of-only (own_profile p number) put (record {
    at = λ q m. own-none (forbids_profile p number) (λ (x : Profile). x.project) p.name q (λ own. clean.profiles.at q m own number);
  })

  instance-free : (p : Project) (clean : IsClean s p) (number : ℕ) (i : Instance) → Mem i (judged_instances s) → i.project ≡ p.name
      → forbids_instance (with_new s r) p number i ≡ None
  instance-free p clean number i m own = forbids-alike p number (alike i m) ∙ clean.instances.at i m own number

  instances-free : (p : Project) (clean : IsClean s p) (number : ℕ) → first_of (own_instance (with_new s r) p number) s.instances ≡ None
  instances-free p clean number = none-first_of (own_instance (with_new s r) p number) s.instances (record {
    at = λ i m. own-none (forbids_instance (with_new s r) p number) (λ (x : Instance). x.project) p.name i
        (instance-free p clean number i (row-judged s i m));
  })

  claims-free : (p : Project) (clean : IsClean s p) (number : ℕ) → first_of (λ (o : Operation Task). own_claim (with_new s r) p number o.work) s.operations.live ≡ None
  claims-free p clean number = none-first_of (λ (o : Operation Task). own_claim (with_new s r) p number o.work) s.operations.live (record {
    at = λ o m. claim-none (forbids_instance (with_new s r) p number) (λ (x : Instance). x.project) p.name (claimed_instance o.work)
        (λ i is. instance-free p clean number i (claim-judged s o i m is));
  })

  project-one : (p : Project) (clean : IsClean s p) (number : ℕ) → project_forbids (with_new s r) number p ≡ own_profile p number r
  project-one p clean number =
      sym (forbids-split (with_new s r) number p)
      ∙ first-alone (profiles-one p clean number) (instances-free p clean number) (claims-free p clean number)

  policy-one : policy_broken (with_new s r) ≡ profile_forbidden (with_new s r) r
  unfolding policy_broken profile_forbidden
  policy-one =
      first_of-same (λ number. first_of (project_forbids (with_new s r) number) s.projects)
      (λ number. option_and_then (λ p. forbids_profile p number r) (project_named s.projects r.project)) rule_numbers
      (record {
        at = λ number n. first_of-same (project_forbids (with_new s r) number) (λ p. own_profile p number r) s.projects
            (record { at = λ p m. project-one p (h.limits.policy.at p m) number })
            ∙ found-alone (λ p. forbids_profile p number r) r.project s.projects (distinct_projects h);
      })
      ∙ at (project_named s.projects r.project)
    where
      at : (found : Option Project) → first_of (λ number. option_and_then (λ p. forbids_profile p number r) found) rule_numbers
          ≡ option_and_then (λ p. first_forbids p r) found
      at None = refl
      at (Some p) = first-rule p r

  -- ---- counts

  instance-counts : (p : Project) (w : IsWithin s p) (i : Instance) → Mem i (judged_instances s) → i.project ≡ p.name
      → instance_without_amount (with_new s r) p i ≡ None
  instance-counts p w i m own = without_amount-alike p (alike i m) ∙ w.instances.at i m own

  instances-count : (p : Project) (w : IsWithin s p) → first_of (own_counted (with_new s r) p) s.instances ≡ None
  instances-count p w = none-first_of (own_counted (with_new s r) p) s.instances (record {
    at = λ i m. own-none (instance_without_amount (with_new s r) p) (λ (x : Instance). x.project) p.name i (instance-counts p w i (row-judged s i m));
  })

  claim-counts : (p : Project) (w : IsWithin s p) (o : Operation Task) → Mem o s.operations.live → claim_without_amount (with_new s r) p o.work ≡ None
  unfolding judged_volumes
  claim-counts p w o m = last-of
      (listed-none (instance_without_amount (with_new s r) p) (λ (i : Instance). i.project) p.name (claimed_instance o.work)
      (λ i is. instance-counts p w i (claim-judged s o i m is)))
      (listed-none (volume_lacks_amount p) (λ (v : Volume). v.project) p.name (claimed_volume o.work)
      (λ v is own. w.volumes.at v (claimed claimed_volume s s.volumes o v m is) own))
      refl

  counts-one : counts_broken (with_new s r) ≡ None
  unfolding counts_broken
  counts-one = none-first_of (project_without_amount (with_new s r)) s.projects (Each-map (λ p w.
      sym (without_amount-split (with_new s r) p)
      ∙ last-of (instances-count p w) (volumes-free s p w)
      (none-first_of (λ (o : Operation Task). claim_without_amount (with_new s r) p o.work) s.operations.live (record { at = claim-counts p w })))
      h.limits.limits)

  -- ---- limits

  -- each live operation has the share that it had
  shares : (o : Operation Task) → Mem o s.operations.live → IsShareAlike s (with_new s r) o.work
  shares o m = record {
    claimed = λ i is. counts-alike (alike i (claim-judged s o i m is));
    replaced = refl;
    old = λ i is. counts-alike (alike i (row-judged s i (replaced-row s o.work i is)));
  }

  -- so that all that counts is as it was
  loads-alike : loads (with_new s r) ≡ loads s
  unfolding loads
  loads-alike =
      ap (λ xs. xs ++ map volume_load s.volumes ++ of_live (claim_load (with_new s r)) s)
      (map-alike (instance_load (with_new s r)) (instance_load s) s.instances (record {
        at = λ i m. let e = counts-alike (alike i (row-judged s i m)) in λ j. record { project = i.project; amounts = e.amounts j; on = e.part j };
      }))
      ∙ ap (λ xs. map (instance_load s) s.instances ++ map volume_load s.volumes ++ xs)
      (read-alike (λ (o : Operation Task). claim_load (with_new s r) o.work) (λ (o : Operation Task). claim_load s o.work) s.operations.live (record {
        at = λ o m.
            let e = share-alike o.work (shares o m) in
            λ j. option_map (λ new. record { project = project_of_row new; amounts = e.share j; on = e.part j }) o.work.claim;
      }))

  limits-one : limits_broken s (with_new s r) ≡ None
  unfolding limits_broken part_exceeds networks_exceed networks_of pools_exceed
  limits-one = ap exceeded loads-alike ∙ within-limits s h.limits where
    exceeded : List Load → Option Refusal
    exceeded later = first
        (first_of (λ k. first_of (λ (p : Project). limit_exceeded p (key_of k) (limit_on k (limits_of p.config)) (used s p.name k) (sum_by (amount_for p.name k) later)) s.projects) parts
        ∷ first_of (networks_exceed s s) s.projects
        ∷ first_of (λ (p : Project). first_of (λ pool. pool_limit_exceeded p.name pool (pool_limit p.config pool) (used_on s p.name pool) (sum_by (on_pool_for p.name pool) later)) (limited_pools p.config)) s.projects
        ∷ [])

pub profiles-alone : NewProfilesAreJudgedAlone
profiles-alone s r h free = record { policy = policy-one s r h free; counts = counts-one s r h free; limits = limits-one s r h free }
