-- A state that breaks no rule on policy, counts and limits stands within its limits and its policy.
use Rattle.std.proofs.Common.{◌≡◌, ℕ, ◌+◌, ◌≤◌, Bool, true, false, cond, Option, Some, None, List, [], ◌∷◌, ◌⊎◌, refl, sym, ◌∙◌, ap, subst, arith, inl, inr}
use Rattle.std.specs.Prelude.{IfSome, filter, nat_lt}
use Rattle.std.specs.Option.{option_to_list}
use Rattle.std.specs.Str.{bytes_eq}
use Rattle.std.proofs.lemmas.Bool.Decides.{nat_tests}
use Rattle.std.proofs.lemmas.Bool.{false≢true}
use Rattle.plain_lists.specs.Members.{Mem, Each}
use Rattle.plain_lists.specs.Firsts.{first_of}
use Rattle.plain_lists.proofs.Elements.{Mem-append}
use Rattle.plain_lists.proofs.FirstLemmas.{none_both, not_mapped, first_of-none}
use Rattle.plain_lists.proofs.Readings.{Mem-from_read}
use Rattle.config_lists.proofs.Keys.{bytes_eq-itself}
use Rattle.size_values.specs.Amounts.{amount_above}
use Rattle.size_values.specs.declared.amounts.Part.{Part}
use Rattle.size_values.specs.declared.amounts.Part.TheVariants.{Instances, Containers, Machines, Cpu, Memory, Processes, Disk}
use Rattle.project_limits.specs.declared.admission.LimitKey.{LimitKey}
use Rattle.project_limits.specs.declared.admission.LimitKey.TheVariants as limit_key
use Rattle.project_limits.specs.declared.admission.Over.{Over}
use Rattle.project_limits.specs.Admission.{exceeded, limit_on, key_of, parts}
use Rattle.project_limits.specs.Limits.{limits_of}
use Rattle.project_limits.specs.Pools.{limited_pools, pool_limit}
use Rattle.machine_laws.proofs.LimitedPools.{limited-there}
use Rattle.operations.specs.declared.operation.Operation.{Operation}
use Rattle.records.specs.declared.rows.Project.{Project}
use Rattle.records.specs.declared.rows.Profile.{Profile}
use Rattle.records.specs.declared.rows.Volume.{Volume}
use Rattle.records.specs.declared.rows.Instance.{Instance}
use Rattle.row_machine.specs.machine.Task.{Task}
use Rattle.row_machine.specs.machine.State.{State}
use Rattle.row_machine.specs.machine.Claims.{of_live, claimed_instance, claimed_volume, judged_instances, judged_volumes}
use Rattle.row_machine.specs.machine.Usage.{used, used_on, networks_of}
use Rattle.row_machine.specs.machine.LimitRules.{limit_exceeded, over_refusal, pool_refusal, pool_exceeds, part_exceeds, networks_exceed, pools_exceed, limits_broken, instance_without_amount, volume_lacks_amount, claim_without_amount, project_without_amount, counts_broken}
use Rattle.row_machine.specs.machine.PolicyRules.{forbids_profile, forbids_instance, project_forbids, policy_broken, subject_of}
use Rattle.row_machine.specs.facts.Whole.{AreWithin}
use Rattle.machine_laws.proofs.LimitsForbidden.{rule_numbers, is_rule, forbids-none, rule-or_not}

-- ---- lists

pub Mem-filter : {X : Type 0} (p : X → Bool) (x : X) (xs : List X) → Mem x xs → p x ≡ true → Mem x (filter p xs)
Mem-filter p x [] m is = absurd m
Mem-filter {X} p x (y ∷ ys) m is = at (p y) refl m (λ n. Mem-filter p x ys n is) where
  at : (b : Bool) → p y ≡ b → (x ≡ y) ⊎ Mem x ys → (Mem x ys → Mem x (filter p ys)) → Mem x (cond b (y ∷ filter p ys) (filter p ys))
  at true e (inl q) more = inl q
  at true e (inr n) more = inr (more n)
  at false e (inl q) more = absurd (false≢true (sym e ∙ sym (ap p q) ∙ is))
  at false e (inr n) more = more n

-- ---- limits

-- of one number: what is used after is within the limit
not-over : (key : LimitKey) (limit : Option ℕ) (before after : ℕ) → exceeded key limit before (amount_above after before) ≡ None → IfSome limit (λ l. after ≤ l)
not-over key None before after h = tt
not-over key (Some l) before after h =
    at (nat_lt l (before + amount_above after before)) refl h where
      within : nat_lt l (before + amount_above after before) ≡ false → after ≤ l
      within e = grind (arith, nat_tests)

      at : (b : Bool) → nat_lt l (before + amount_above after before) ≡ b
          → cond {A = Option Over} b (Some (record { key = key; used = before; asked = amount_above after before; limit = l })) None ≡ None → after ≤ l
      at true e k = cc
      at false e k = within e

exceeds-not : (p : Project) (key : LimitKey) (limit : Option ℕ) (before after : ℕ) → limit_exceeded p key limit before after ≡ None → IfSome limit (λ l. after ≤ l)
exceeds-not p key limit before after h = not-over key limit before after (not_mapped (over_refusal p) (exceeded key limit before (amount_above after before)) h)

every-part : {P : Part → Type 0} → Each P parts → (k : Part) → P k
every-part e Instances = e.at Instances (inl refl)
every-part e Containers = e.at Containers (inr (inl refl))
every-part e Machines = e.at Machines (inr (inr (inl refl)))
every-part e Cpu = e.at Cpu (inr (inr (inr (inl refl))))
every-part e Memory = e.at Memory (inr (inr (inr (inr (inl refl)))))
every-part e Processes = e.at Processes (inr (inr (inr (inr (inr (inl refl))))))
every-part e Disk = e.at Disk (inr (inr (inr (inr (inr (inr (inl refl)))))))

module _ (s later : State) where
  limits-parts : limits_broken s later ≡ None → (p : Project) → Mem p later.projects → (k : Part) → IfSome (limit_on k (limits_of p.config)) (λ limit. used later p.name k ≤ limit)
  unfolding limits_broken part_exceeds
  limits-parts h p m k =
      let both = none_both (first_of (λ part. first_of (part_exceeds s later part) later.projects) parts) _ h in
      let each = first_of-none (λ part. first_of (part_exceeds s later part) later.projects) parts both.0 in
      let at = first_of-none (part_exceeds s later k) later.projects (every-part each k) in
      exceeds-not p (key_of k) (limit_on k (limits_of p.config)) (used s p.name k) (used later p.name k) (at.at p m)

  limits-networks : limits_broken s later ≡ None → (p : Project) → Mem p later.projects → IfSome (limits_of p.config).networks (λ limit. networks_of later p.name ≤ limit)
  unfolding limits_broken networks_exceed
  limits-networks h p m =
      let both = none_both (first_of (λ part. first_of (part_exceeds s later part) later.projects) parts) _ h in
      let of = none_both (first_of (networks_exceed s later) later.projects) _ both.1 in
      let at = first_of-none (networks_exceed s later) later.projects of.0 in
      exceeds-not p limit_key.Networks (limits_of p.config).networks (networks_of s p.name) (networks_of later p.name) (at.at p m)

  limits-pools : limits_broken s later ≡ None → (p : Project) → Mem p later.projects → (pool : List ℕ) → IfSome (pool_limit p.config pool) (λ limit. used_on later p.name pool ≤ limit)
  unfolding limits_broken pools_exceed
  limits-pools h p m pool = at (pool_limit p.config pool) refl where
    listed : first_of (pool_exceeds s later p) (limited_pools p.config) ≡ None
    listed =
        let both = none_both (first_of (λ part. first_of (part_exceeds s later part) later.projects) parts) _ h in
        let more = none_both (first_of (networks_exceed s later) later.projects) _ both.1 in
        let of = none_both (first_of (pools_exceed s later) later.projects) None more.1 in
        (first_of-none (pools_exceed s later) later.projects of.0).at p m

    at : (limit : Option ℕ) → pool_limit p.config pool ≡ limit → IfSome limit (λ l. used_on later p.name pool ≤ l)
    at None is = tt
    at (Some l) is =
        let one = (first_of-none (pool_exceeds s later p) (limited_pools p.config) listed).at pool (limited-there p.config pool l is) in
        subst (λ limit. IfSome limit (λ n. used_on later p.name pool ≤ n)) is
        (not-over limit_key.DiskOnPool (pool_limit p.config pool) (used_on s p.name pool) (used_on later p.name pool)
        (not_mapped (pool_refusal p.name pool) (exceeded limit_key.DiskOnPool (pool_limit p.config pool) (used_on s p.name pool) (amount_above (used_on later p.name pool) (used_on s p.name pool))) one))

-- ---- counts

module _ (s : State) (h : counts_broken s ≡ None) (p : Project) (m : Mem p s.projects) where
  pub record IsCounted : Type 0 where
    pub instances : first_of (instance_without_amount s p) (filter (λ i. bytes_eq i.project p.name) s.instances) ≡ None
    pub volumes : first_of (volume_lacks_amount p) (filter (λ v. bytes_eq v.project p.name) s.volumes) ≡ None
    pub claims : first_of (λ (o : Operation Task). claim_without_amount s p o.work) s.operations.live ≡ None

  counted : IsCounted
  unfolding counts_broken
  counted =
      let at = (first_of-none (project_without_amount s) s.projects h).at p m in
      let a = none_both (first_of (instance_without_amount s p) (filter (λ i. bytes_eq i.project p.name) s.instances)) _ at in
      let b = none_both (first_of (volume_lacks_amount p) (filter (λ v. bytes_eq v.project p.name) s.volumes)) _ a.1 in
      let c = none_both (first_of (λ (o : Operation Task). claim_without_amount s p o.work) s.operations.live) None b.1 in
      record { instances = a.0; volumes = b.0; claims = c.0 }

  own : (project : List ℕ) → project ≡ p.name → bytes_eq project p.name ≡ true
  own project is = ap (λ n. bytes_eq n p.name) is ∙ bytes_eq-itself p.name

  pub counted-instance : (i : Instance) → Mem i (judged_instances s) → i.project ≡ p.name → instance_without_amount s p i ≡ None
  unfolding judged_instances
  counted-instance i n is = at (Mem-append i s.instances (of_live claimed_instance s) n) where
    claim : (o : Operation Task) → Mem o s.operations.live → claimed_instance o.work ≡ Some i → instance_without_amount s p i ≡ None
    claim o live claimed =
        let one = (first_of-none (λ (x : Operation Task). claim_without_amount s p x.work) s.operations.live counted.claims).at o live in
        let both = none_both (first_of (instance_without_amount s p) (filter (λ j. bytes_eq j.project p.name) (option_to_list (claimed_instance o.work)))) _ one in
        let listed : first_of (instance_without_amount s p) (filter (λ (j : Instance). bytes_eq j.project p.name) (i ∷ [])) ≡ None =
        ap (λ c. first_of (instance_without_amount s p) (filter (λ (j : Instance). bytes_eq j.project p.name) (option_to_list c))) (sym claimed) ∙ both.0 in
        (first_of-none (instance_without_amount s p) (filter (λ (j : Instance). bytes_eq j.project p.name) (i ∷ [])) listed).at i
        (Mem-filter (λ (j : Instance). bytes_eq j.project p.name) i (i ∷ []) (inl refl) (own i.project is))

    at : Mem i s.instances ⊎ Mem i (of_live claimed_instance s) → instance_without_amount s p i ≡ None
    at (inl row) = (first_of-none (instance_without_amount s p) (filter (λ j. bytes_eq j.project p.name) s.instances) counted.instances).at i
        (Mem-filter (λ (j : Instance). bytes_eq j.project p.name) i s.instances row (own i.project is))
    at (inr claimed) =
        let found = Mem-from_read (λ (o : Operation Task). claimed_instance o.work) i s.operations.live claimed in
        claim found.0 found.1.0 found.1.1

  pub counted-volume : (v : Volume) → Mem v (judged_volumes s) → v.project ≡ p.name → volume_lacks_amount p v ≡ None
  unfolding judged_volumes
  counted-volume v n is = at (Mem-append v s.volumes (of_live claimed_volume s) n) where
    claim : (o : Operation Task) → Mem o s.operations.live → claimed_volume o.work ≡ Some v → volume_lacks_amount p v ≡ None
    claim o live claimed =
        let one = (first_of-none (λ (x : Operation Task). claim_without_amount s p x.work) s.operations.live counted.claims).at o live in
        let both = none_both (first_of (instance_without_amount s p) (filter (λ j. bytes_eq j.project p.name) (option_to_list (claimed_instance o.work)))) _ one in
        let of = none_both (first_of (volume_lacks_amount p) (filter (λ w. bytes_eq w.project p.name) (option_to_list (claimed_volume o.work)))) None both.1 in
        let listed : first_of (volume_lacks_amount p) (filter (λ (w : Volume). bytes_eq w.project p.name) (v ∷ [])) ≡ None =
        ap (λ c. first_of (volume_lacks_amount p) (filter (λ (w : Volume). bytes_eq w.project p.name) (option_to_list c))) (sym claimed) ∙ of.0 in
        (first_of-none (volume_lacks_amount p) (filter (λ (w : Volume). bytes_eq w.project p.name) (v ∷ [])) listed).at v
        (Mem-filter (λ (w : Volume). bytes_eq w.project p.name) v (v ∷ []) (inl refl) (own v.project is))

    at : Mem v s.volumes ⊎ Mem v (of_live claimed_volume s) → volume_lacks_amount p v ≡ None
    at (inl row) = (first_of-none (volume_lacks_amount p) (filter (λ w. bytes_eq w.project p.name) s.volumes) counted.volumes).at v
        (Mem-filter (λ (w : Volume). bytes_eq w.project p.name) v s.volumes row (own v.project is))
    at (inr claimed) =
        let found = Mem-from_read (λ (o : Operation Task). claimed_volume o.work) v s.operations.live claimed in
        claim found.0 found.1.0 found.1.1

-- ---- policy

module _ (s : State) (h : policy_broken s ≡ None) (p : Project) (m : Mem p s.projects) where
  allowed : (number : ℕ) → Mem number rule_numbers → project_forbids s number p ≡ None
  unfolding policy_broken
  allowed number n = (first_of-none (project_forbids s number) s.projects
      ((first_of-none (λ k. first_of (project_forbids s k) s.projects) rule_numbers h).at number n)).at p m

  pub clean-profile : (r : Profile) → Mem r s.profiles → r.project ≡ p.name → (number : ℕ) → forbids_profile p number r ≡ None
  unfolding forbids_profile
  clean-profile r row is number = at (rule-or_not number) where
    at : Mem number rule_numbers ⊎ (is_rule number ≡ false) → forbids_profile p number r ≡ None
    at (inl n) =
        let both = none_both (first_of (forbids_profile p number) (filter (λ x. bytes_eq x.project p.name) s.profiles)) _ (allowed number n) in
        (first_of-none (forbids_profile p number) (filter (λ x. bytes_eq x.project p.name) s.profiles) both.0).at r
        (Mem-filter (λ (x : Profile). bytes_eq x.project p.name) r s.profiles row (ap (λ q. bytes_eq q p.name) is ∙ bytes_eq-itself p.name))
    at (inr none) = forbids-none p number _ r.name r.config r.devices none

  pub clean-instance : (i : Instance) → Mem i (judged_instances s) → i.project ≡ p.name → (number : ℕ) → forbids_instance s p number i ≡ None
  unfolding forbids_instance
  clean-instance i row is number = at (rule-or_not number) where
    at : Mem number rule_numbers ⊎ (is_rule number ≡ false) → forbids_instance s p number i ≡ None
    at (inl n) =
        let both = none_both (first_of (forbids_profile p number) (filter (λ x. bytes_eq x.project p.name) s.profiles)) _ (allowed number n) in
        let of = none_both (first_of (forbids_instance s p number) (filter (λ x. bytes_eq x.project p.name) (judged_instances s))) None both.1 in
        (first_of-none (forbids_instance s p number) (filter (λ x. bytes_eq x.project p.name) (judged_instances s)) of.0).at i
        (Mem-filter (λ (x : Instance). bytes_eq x.project p.name) i (judged_instances s) row (ap (λ q. bytes_eq q p.name) is ∙ bytes_eq-itself p.name))
    at (inr none) = forbids-none p number (subject_of i.kind) i.name _ _ none

-- ---- all of it

pub within-judged : (s later : State) → policy_broken later ≡ None → counts_broken later ≡ None → limits_broken s later ≡ None → AreWithin later
within-judged s later policy counts limits = record {
  limits = record {
    at = λ p m. record {
      parts = limits-parts s later limits p m;
      networks = limits-networks s later limits p m;
      pools = limits-pools s later limits p m;
      instances = record { at = λ i n is. counted-instance later counts p m i n is };
      volumes = record { at = λ v n is. counted-volume later counts p m v n is };
    };
  };
  policy = record {
    at = λ p m. record {
      profiles = record { at = λ r n is number. clean-profile later policy p m r n is number };
      instances = record { at = λ i n is number. clean-instance later policy p m i n is number };
    };
  };
}
