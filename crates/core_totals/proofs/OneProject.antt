-- Changes of the rows of some projects are judged in those alone: all others have and use what they did.
use Rattle.std.proofs.Common.{◌≡◌, ℕ, Bool, true, false, cond, not, Option, Some, None, List, [], ◌∷◌, ◌⊎◌, filter, length, refl, sym, ◌∙◌, ap, ap₂, subst, inl, inr, arith, true≢false, is_some, ◌&&◌}
use Rattle.std.specs.Prelude.{codes, if◌then◌else◌}
use Rattle.std.specs.List.{find, list_all, sum_by}
use Rattle.std.specs.Option.{option_and_then, option_map, option_map_or, option_or, option_to_list}
use Rattle.std.specs.Str.{bytes_eq}
use Rattle.plain_lists.specs.Firsts.{first, first_of}
use Rattle.plain_lists.specs.Members.{Distinct, Mem, Each}
use Rattle.plain_lists.proofs.Elements.{Each-head, Each-tail, Mem-append, Mem-left, Mem-right}
use Rattle.plain_lists.proofs.FirstLemmas.{none-first_of, first_of-same}
use Rattle.plain_lists.proofs.Readings.{sum_by-same}
use Rattle.plain_lists.proofs.Searches.{any-none, find-some}
use Rattle.config_lists.proofs.Keys.{same}
use Rattle.size_values.specs.Amounts.{part}
use Rattle.size_values.specs.declared.amounts.Part.{Part}
use Rattle.size_values.specs.declared.kinds.ObjectKind.TheVariants as kind
use Rattle.operations.specs.declared.operation.Operation.{Operation}
use Rattle.operations.specs.OperationTable.{OperationTable}
use Rattle.project_limits.specs.Admission.{limit_on, key_of, parts}
use Rattle.project_limits.specs.Limits.{limits_of}
use Rattle.project_limits.specs.declared.admission.LimitKey.TheVariants as limit_key
use Rattle.records.specs.declared.refusals.Refusal.{Refusal}
use Rattle.records.specs.declared.rows.Project.{Project}
use Rattle.records.specs.declared.rows.Profile.{Profile}
use Rattle.records.specs.declared.rows.Network.{Network}
use Rattle.records.specs.declared.rows.Volume.{Volume}
use Rattle.records.specs.declared.rows.Instance.{Instance}
use Rattle.records.specs.declared.rows.Row.{Row}
use Rattle.records.specs.declared.rows.Row.TheVariants as row
use Rattle.row_machine.specs.declared.changes.RowChange.{RowChange}
use Rattle.row_machine.specs.facts.Whole.{IsWhole, IsWithin, IsClean}
use Rattle.row_machine.specs.machine.Changes.{applied}
use Rattle.row_machine.specs.machine.Claims.{of_live, amounts_of_instance, claimed_instance, claimed_volume, judged_instances, judged_volumes, part_of_instance, part_of_share, project_of_row, replaced_instance, share_of}
use Rattle.row_machine.specs.machine.Homes.{home_of, is_on}
use Rattle.row_machine.specs.machine.LimitRules.{instance_without_amount, volume_lacks_amount, claim_without_amount, project_without_amount, counts_broken, limit_exceeded, part_exceeds, networks_exceed, pools_exceed, limits_broken}
use Rattle.row_machine.specs.machine.PolicyRules.{forbids_profile, forbids_instance, project_forbids, policy_broken}
use Rattle.row_machine.specs.machine.Rows.{default_name, is_project, is_profile, is_instance, project_named, project_names, profile_named, instance_named}
use Rattle.row_machine.specs.machine.State.{State}
use Rattle.row_machine.specs.machine.Task.{Task}
use Rattle.row_machine.specs.machine.Usage.{Load, used, usage_of, networks_of}
use Rattle.machine_laws.proofs.Expansions.{home_in, IsAlike, counts-alike, without_amount-alike, forbids-alike}
use Rattle.machine_laws.proofs.ExpansionsApart.{fails-by, home-either, profile-so}
use Rattle.machine_laws.proofs.ExpansionsNamed.{claim-is, judged-home, row-judged}
use Rattle.machine_laws.proofs.Found.{instance-found}
use Rattle.machine_laws.proofs.LimitsEnds.{instance-same}
use Rattle.machine_laws.proofs.LimitsForbidden.{rule_numbers}
use Rattle.machine_laws.proofs.LimitsSums.{instance_part, volume_part, claim_part, used-split}
use Rattle.machine_laws.proofs.Measures.{Measure, measured, used_by, by_part, by_pool}
use Rattle.machine_laws.proofs.NamesSuccess.{Mem-filter}
use Rattle.machine_laws.proofs.SharesAlike.{IsShareAlike, share-alike}
use Rattle.machine_laws.proofs.SharesApart.{instance-so, replaces-or_not}
use Rattle.machine_laws.proofs.SharesAtOnce.{claim-judged}
use Rattle.rules_limits.specs.OneProject.{network_use_over, of_project}
use Rattle.rules_limits.specs.Sums.{line_over}
use Rattle.rules_limits.proofs.PoolTables.{project-pools}
use Rattle.row_readings.proofs.Ranges.{filter-filter, sum_by-filter}
use Rattle.rules_policy.specs.Within.{policy_broken_in}
use Rattle.row_readings.proofs.Parts.{part-of_usage}
use Rattle.core_totals.specs.OneProject.{are_profiles_shared, is_within, project_of_all, project_touched, projects_of, use_over}
use Rattle.core_totals.specs.OneProject.{IsProjectJudgedAlone}
use Rattle.core_totals.proofs.Limits.{unexceeded}
use Rattle.core_totals.proofs.Pools.{pools-same}
use Rattle.core_totals.proofs.Others.{AreBeside, Mem-back, Mem-passes, beside-itself, changes-beside, find-filter, is_other}
use Rattle.core_totals.proofs.Named.{distinct-applied, named-first, named-list}
use Rattle.core_totals.proofs.Own.{claimed, last-of, listed-none, or-none}

-- ---- lists

-- a rule that is broken only by what passes a test, and there as another rule
first_of-passing : {X R : Type 0} (q : X → Bool) (rule other : X → Option R) (xs : List X)
    → Each (λ x. q x ≡ false → rule x ≡ None) xs → ((x : X) → q x ≡ true → rule x ≡ other x)
    → first_of rule xs ≡ first_of other (filter q xs)
first_of-passing q rule other [] free alike = refl
first_of-passing q rule other (x ∷ xs) free alike = at (q x) refl (first_of-passing q rule other xs (Each-tail free) alike) where
  at : (b : Bool) → q x ≡ b → first_of rule xs ≡ first_of other (filter q xs)
      → option_or (rule x) (first_of rule xs) ≡ first_of other (cond b (x ∷ filter q xs) (filter q xs))
  at true is more = ap₂ option_or (alike x is) more
  at false is more = ap (λ o. option_or o (first_of rule xs)) (Each-head free is) ∙ more

-- two rules that are not broken
none-of_two : {R : Type 0} {a b : Option R} → a ≡ None → b ≡ None → option_or a (option_or b None) ≡ None
none-of_two {b} first second = ap (λ o. option_or o (option_or b None)) first ∙ ap (λ o. option_or o None) second

not-other : (b : Bool) → not b ≡ false → b ≡ true
not-other true is = refl
not-other false is = absurd (true≢false is)

pub other-not : (b : Bool) → not b ≡ true → b ≡ false
other-not false is = refl
other-not true is = absurd (true≢false (sym is))

-- of three rules each is as another one
three-or : {R : Type 0} {a b c x y z : Option R} → a ≡ x → b ≡ y → c ≡ z → option_or a (option_or b (option_or c None)) ≡ option_or x (option_or y (option_or z None))
three-or first second third = ap₂ option_or first (ap₂ option_or second (ap (λ o. option_or o None) third))

-- the first limit that one of these projects exceeds
abbrev pub exceeding : State → State → List Project → Option Refusal
exceeding s t projects = first
    (first_of (λ k. first_of (part_exceeds s t k) projects) parts
    ∷ first_of (networks_exceed s t) projects
    ∷ first_of (pools_exceed s t) projects
    ∷ [])

-- where no project shares the profiles of `default`, each other one has its own
own-home : (s : State) (name : List ℕ) → are_profiles_shared s ≡ false → bytes_eq name default_name ≡ false
    → is_some (project_named s.projects name) ≡ true → home_of s.projects name kind.Profile ≡ name
unfolding home_of
own-home s name free other there = at (project_named s.projects name) refl there where
  on-by : (q : Project) → q.name ≡ name → (not (bytes_eq q.name default_name) && not (is_on q.config (codes "features.profiles"))) ≡ false
      → is_on q.config (codes "features.profiles") ≡ true
  on-by q is none = not-other (is_on q.config (codes "features.profiles"))
      (sym (ap (λ c. not c && not (is_on q.config (codes "features.profiles"))) (ap (λ n. bytes_eq n default_name) is ∙ other)) ∙ none)

  at : (o : Option Project) → project_named s.projects name ≡ o → is_some o ≡ true
      → (if option_map_or (λ (q : Project). is_on q.config (codes "features.profiles")) o false then name else default_name) ≡ name
  at None found there = cc
  at (Some q) found there =
      let is = find-some (is_project name) s.projects q found in
      ap (λ c. if c then name else default_name)
      (on-by q (same q.name name is.1)
      ((any-none (λ (r : Project). not (bytes_eq r.name default_name) && not (is_on r.config (codes "features.profiles"))) s.projects free).at q is.0))

module _ (s t : State) (shared : Bool) (such : List ℕ → Bool) (h : IsWhole s) (free : shared ≡ false → are_profiles_shared s ≡ false) (b : AreBeside shared such s t) where
  -- ---- what another project looks up

  project-alike : (name : List ℕ) → such name ≡ false → project_named t.projects name ≡ project_named s.projects name
  project-alike name other =
      sym (find-filter test (is_project name) t.projects tells)
      ∙ ap (find (is_project name)) b.projects
      ∙ find-filter test (is_project name) s.projects tells where
        test : Project → Bool
        test r = is_other such r.name

        tells : (y : Project) → is_project name y ≡ true → is_other such y.name ≡ true
        tells y is = ap (is_other such) (same y.name name is) ∙ ap not other

  profile-alike : (home name : List ℕ) → such home ≡ false → profile_named t.profiles home name ≡ profile_named s.profiles home name
  profile-alike home name other =
      sym (find-filter test (is_profile home name) t.profiles tells)
      ∙ ap (find (is_profile home name)) b.profiles
      ∙ find-filter test (is_profile home name) s.profiles tells where
        test : Profile → Bool
        test r = is_other such r.project

        tells : (y : Profile) → is_profile home name y ≡ true → is_other such y.project ≡ true
        tells y is = ap (is_other such) (profile-so home name y is).0 ∙ ap not other

  instance-alike : (project name : List ℕ) → such project ≡ false → instance_named t.instances project name ≡ instance_named s.instances project name
  instance-alike project name other =
      sym (find-filter test (is_instance project name) t.instances tells)
      ∙ ap (find (is_instance project name)) b.instances
      ∙ find-filter test (is_instance project name) s.instances tells where
        test : Instance → Bool
        test r = is_other such r.project

        tells : (y : Instance) → is_instance project name y ≡ true → is_other such y.project ≡ true
        tells y is = ap (is_other such) (instance-so project name y is).0 ∙ ap not other

  home-alike : (name : List ℕ) → such name ≡ false → home_of t.projects name kind.Profile ≡ home_of s.projects name kind.Profile
  unfolding home_of
  home-alike name other = ap
      (λ found. if option_map_or (λ (r : Project). is_on r.config (codes "features.profiles")) found false then name else default_name)
      (project-alike name other)

  -- an instance of another project that has profiles of `default` finds the same
  default-alike : (i : Instance) (name : List ℕ) → Mem i (judged_instances s) → such i.project ≡ false → home_in s i ≡ default_name
      → profile_named t.profiles default_name name ≡ profile_named s.profiles default_name name
  default-alike i name m other home = at (such default_name) shared refl refl where
    at : (c d : Bool) → such default_name ≡ c → shared ≡ d → profile_named t.profiles default_name name ≡ profile_named s.profiles default_name name
    at false d own is = profile-alike default_name name own
    at true true own is = ap (λ rows. profile_named rows default_name name) (b.common is own)
    at true false own is = absurd (true≢false (sym own ∙ ap such (sym home ∙ own-home s i.project (free is) apart (judged-home s i h m)) ∙ other)) where
      apart : bytes_eq i.project default_name ≡ false
      apart = fails-by (bytes_eq i.project default_name) (λ one. true≢false (sym own ∙ ap such (sym (same i.project default_name one)) ∙ other))

  -- an instance of another project has what it had
  alike : (i : Instance) → Mem i (judged_instances s) → such i.project ≡ false → IsAlike s t i
  alike i m other = record { home = home-alike i.project other; profiles = λ name n. found name (home-either s i.project) } where
    found : (name : List ℕ) → (home_in s i ≡ i.project) ⊎ (home_in s i ≡ default_name)
        → profile_named t.profiles (home_in s i) name ≡ profile_named s.profiles (home_in s i) name
    found name (inl is) =
        subst (λ home. profile_named t.profiles home name ≡ profile_named s.profiles home name) (sym is) (profile-alike i.project name other)
    found name (inr is) =
        subst (λ home. profile_named t.profiles home name ≡ profile_named s.profiles home name) (sym is) (default-alike i name m other is)

  -- ---- what another project has

  project-there : (q : Project) → Mem q t.projects → such q.name ≡ false → Mem q s.projects
  project-there q m other = Mem-back (λ (r : Project). is_other such r.name) q s.projects t.projects b.projects m (ap not other)

  -- the project of what is a project's own is another one too
  own-other : (name q : List ℕ) → bytes_eq name q ≡ true → such q ≡ false → such name ≡ false
  own-other name q own other = ap such (same name q own) ∙ other

  profile-there : (r : Profile) → Mem r t.profiles → such r.project ≡ false → Mem r s.profiles
  profile-there r m other = Mem-back (λ (x : Profile). is_other such x.project) r s.profiles t.profiles b.profiles m (ap not other)

  volume-there : (r : Volume) → Mem r t.volumes → such r.project ≡ false → Mem r s.volumes
  volume-there r m other = Mem-back (λ (x : Volume). is_other such x.project) r s.volumes t.volumes b.volumes m (ap not other)

  instance-there : (i : Instance) → Mem i t.instances → such i.project ≡ false → Mem i s.instances
  instance-there i m other = Mem-back (λ (x : Instance). is_other such x.project) i s.instances t.instances b.instances m (ap not other)

  judged-there : (i : Instance) → Mem i (judged_instances t) → such i.project ≡ false → Mem i (judged_instances s)
  unfolding judged_instances
  judged-there i m other = elim (Mem-append i t.instances (of_live claimed_instance t) m) [
    | inl row ↦ row-judged s i (instance-there i row other)
    | inr claim ↦ Mem-right i s.instances (of_live claimed_instance s)
        (subst (λ (ops : OperationTable Task). Mem i (of_live claimed_instance (record s { operations = ops }))) b.operations claim)
  ]

  -- ---- policy

  -- the projects in which the changes are
  abbrev those : List Project
  those = filter (λ (q : Project). such q.name) t.projects

  policy-other : (number : ℕ) (q : Project) → Mem q t.projects → such q.name ≡ false → project_forbids t number q ≡ None
  policy-other number q m other = none-of_two
      (none-first_of (forbids_profile q number) (filter own_profile t.profiles) (record { at = profiles }))
      (none-first_of (forbids_instance t q number) (filter own_instance (judged_instances t)) (record { at = instances })) where
        clean : IsClean s q
        clean = h.limits.policy.at q (project-there q m other)

        own_profile : Profile → Bool
        own_profile r = bytes_eq r.project q.name

        own_instance : Instance → Bool
        own_instance i = bytes_eq i.project q.name

        profiles : (r : Profile) → Mem r (filter own_profile t.profiles) → forbids_profile q number r ≡ None
        profiles r n =
            let own = Mem-passes own_profile r t.profiles n in
            clean.profiles.at r (profile-there r (Mem-filter own_profile r t.profiles n) (own-other r.project q.name own other))
            (same r.project q.name own) number

        instances : (i : Instance) → Mem i (filter own_instance (judged_instances t)) → forbids_instance t q number i ≡ None
        instances i n =
            let own = Mem-passes own_instance i (judged_instances t) n in
            let away = own-other i.project q.name own other in
            let there : Mem i (judged_instances s) = judged-there i (Mem-filter own_instance i (judged_instances t) n) away in
            forbids-alike q number (alike i there away) ∙ clean.instances.at i there (same i.project q.name own) number

  pub policy-within : policy_broken t ≡ policy_broken_in t those
  unfolding policy_broken
  policy-within = first_of-same
      (λ number. first_of (project_forbids t number) t.projects)
      (λ number. first_of (project_forbids t number) those) rule_numbers
      (record {
        at = λ number n. first_of-passing (λ (q : Project). such q.name) (project_forbids t number) (project_forbids t number) t.projects
            (record { at = policy-other number }) (λ q own. refl);
      })

  -- ---- counts

  counts-other : (q : Project) → Mem q t.projects → such q.name ≡ false → project_without_amount t q ≡ None
  unfolding judged_volumes
  counts-other q m other = last-of
      (none-first_of (instance_without_amount t q) (filter own_instance t.instances) (record { at = instances }))
      (none-first_of (volume_lacks_amount q) (filter own_volume t.volumes) (record { at = volumes }))
      (none-first_of (λ (o : Operation Task). claim_without_amount t q o.work) t.operations.live (record { at = claims })) where
        within : IsWithin s q
        within = h.limits.limits.at q (project-there q m other)

        own_instance : Instance → Bool
        own_instance i = bytes_eq i.project q.name

        own_volume : Volume → Bool
        own_volume v = bytes_eq v.project q.name

        counted : (i : Instance) → Mem i (judged_instances s) → i.project ≡ q.name → instance_without_amount t q i ≡ None
        counted i n own =
            without_amount-alike q (alike i n (ap such own ∙ other))
            ∙ within.instances.at i n own

        instances : (i : Instance) → Mem i (filter own_instance t.instances) → instance_without_amount t q i ≡ None
        instances i n =
            let own = Mem-passes own_instance i t.instances n in
            counted i (row-judged s i (instance-there i (Mem-filter own_instance i t.instances n) (own-other i.project q.name own other)))
            (same i.project q.name own)

        volumes : (v : Volume) → Mem v (filter own_volume t.volumes) → volume_lacks_amount q v ≡ None
        volumes v n =
            let own = Mem-passes own_volume v t.volumes n in
            let there : Mem v s.volumes = volume-there v (Mem-filter own_volume v t.volumes n) (own-other v.project q.name own other) in
            within.volumes.at v (Mem-left v s.volumes (of_live claimed_volume s) there) (same v.project q.name own)

        claims : (o : Operation Task) → Mem o t.operations.live → claim_without_amount t q o.work ≡ None
        claims o n =
            let live : Mem o s.operations.live = subst (λ (ops : OperationTable Task). Mem o ops.live) b.operations n in
            none-of_two
            (listed-none (instance_without_amount t q) (λ (i : Instance). i.project) q.name (claimed_instance o.work)
            (λ i is own. counted i (claim-judged s o i live is) own))
            (listed-none (volume_lacks_amount q) (λ (v : Volume). v.project) q.name (claimed_volume o.work)
            (λ v is own. within.volumes.at v (claimed claimed_volume s s.volumes o v live is) own))

  pub counts-within : counts_broken t ≡ first_of (project_without_amount t) those
  unfolding counts_broken
  counts-within = first_of-passing (λ (q : Project). such q.name) (project_without_amount t) (project_without_amount t) t.projects
      (record { at = counts-other }) (λ q own. refl)

  -- ---- shares

  module _ (o : Operation Task) (m : Mem o s.operations.live) (other : such o.work.project ≡ false) where
    -- the row that it replaces is of its project
    replaced-alike : replaced_instance t o.work ≡ replaced_instance s o.work
    replaced-alike = elim (replaces-or_not s o.work (h.operations.deeds.at o m) (h.references.operations.at o m)) [
      | inl r ↦ ap (found t) r.names ∙ instance-alike o.work.project o.work.target.name other ∙ sym (ap (found s) r.names)
      | inr none ↦ ap (found t) none ∙ sym (ap (found s) none)
    ] where
      found : State → Option (List ℕ × List ℕ) → Option Instance
      found u names = option_and_then (λ (n : List ℕ × List ℕ). instance_named u.instances n.0 n.1) names

    replaced-own : (i : Instance) → replaced_instance s o.work ≡ Some i → i.project ≡ o.work.project
    replaced-own i is = elim (replaces-or_not s o.work (h.operations.deeds.at o m) (h.references.operations.at o m)) [
      | inl r ↦ (instance-found s.instances o.work.project o.work.target.name i (sym (ap found r.names) ∙ is)).0
      | inr none ↦ absurd (some-none (sym is ∙ ap found none))
    ] where
      found : Option (List ℕ × List ℕ) → Option Instance
      found names = option_and_then (λ (n : List ℕ × List ℕ). instance_named s.instances n.0 n.1) names

      some-none : Some i ≡ None → ⊥
      some-none e = cc

    replaced-there : (i : Instance) → replaced_instance s o.work ≡ Some i → Mem i s.instances
    replaced-there i is = elim (replaces-or_not s o.work (h.operations.deeds.at o m) (h.references.operations.at o m)) [
      | inl r ↦ (find-some (is_instance o.work.project o.work.target.name) s.instances i (sym (ap found r.names) ∙ is)).0
      | inr none ↦ absurd (some-none (sym is ∙ ap found none))
    ] where
      found : Option (List ℕ × List ℕ) → Option Instance
      found names = option_and_then (λ (n : List ℕ × List ℕ). instance_named s.instances n.0 n.1) names

      some-none : Some i ≡ None → ⊥
      some-none e = cc

    same-share : IsShareAlike s t o.work
    same-share = record {
      claimed = λ i is. counts-alike (alike i (claim-judged s o i m is)
          (ap such ((h.references.operations.at o m).claim_project (row.Instance i) (claim-is o.work i is)) ∙ other));
      replaced = replaced-alike;
      old = λ i is. counts-alike (alike i (row-judged s i (replaced-there i is)) (ap such (replaced-own i is) ∙ other));
    }

  -- ---- usage

  -- the name of such a project is not that of another one
  differs : (name q : List ℕ) → such name ≡ true → such q ≡ false → bytes_eq name q ≡ false
  differs name q is other = fails-by (bytes_eq name q) (λ one. true≢false (sym is ∙ ap such (same name q one) ∙ other))

  module _ (q : List ℕ) (k : Measure) (other : such q ≡ false) where
    -- what is of the projects of the changes adds nothing
    adds-nothing : (name : List ℕ) (n : ℕ) → is_other such name ≡ false → cond (bytes_eq name q) n 0 ≡ 0
    adds-nothing name n is = ap (λ c. cond c n 0) (differs name q (not-other (such name) is) other)

    instances-add : sum_by (instance_part t q k) t.instances ≡ sum_by (instance_part s q k) s.instances
    instances-add =
        sym (sum_by-filter (instance_part t q k) test t.instances (λ i is. adds-nothing i.project (k (amounts_of_instance t i) (part_of_instance t i)) is))
        ∙ ap (sum_by (instance_part t q k)) b.instances
        ∙ sum_by-same (instance_part t q k) (instance_part s q k) (filter test s.instances) (record { at = counts })
        ∙ sum_by-filter (instance_part s q k) test s.instances (λ i is. adds-nothing i.project (k (amounts_of_instance s i) (part_of_instance s i)) is) where
          test : Instance → Bool
          test i = is_other such i.project

          counts : (i : Instance) → Mem i (filter test s.instances) → instance_part t q k i ≡ instance_part s q k i
          counts i m = instance-same s t q k i
              (counts-alike (alike i (row-judged s i (Mem-filter test i s.instances m)) (other-not (such i.project) (Mem-passes test i s.instances m))))

    volumes-add : sum_by (volume_part q k) t.volumes ≡ sum_by (volume_part q k) s.volumes
    volumes-add =
        sym (sum_by-filter (volume_part q k) test t.volumes (λ v is. adds-nothing v.project _ is))
        ∙ ap (sum_by (volume_part q k)) b.volumes
        ∙ sum_by-filter (volume_part q k) test s.volumes (λ v is. adds-nothing v.project _ is) where
          test : Volume → Bool
          test v = is_other such v.project

    claim-adds : (o : Operation Task) → Mem o s.operations.live → claim_part t q k o ≡ claim_part s q k o
    claim-adds o m = at o.work.claim refl where
      load : State → Row → Load
      load u new = record { project = project_of_row new; amounts = share_of u o.work; on = part_of_share u o.work }

      own : (new : Row) → o.work.claim ≡ Some new → (c : Bool) → bytes_eq (project_of_row new) q ≡ c
          → cond c (k (share_of t o.work) (part_of_share t o.work)) 0 ≡ cond c (k (share_of s o.work) (part_of_share s o.work)) 0
      own new is true of =
          let e = share-alike o.work (same-share o m
          (ap such (sym ((h.references.operations.at o m).claim_project new is) ∙ same (project_of_row new) q of) ∙ other)) in
          ap₂ k e.share e.part
      own new is false of = refl

      at : (claim : Option Row) → o.work.claim ≡ claim
          → option_map_or (measured q k) (option_map (load t) claim) 0 ≡ option_map_or (measured q k) (option_map (load s) claim) 0
      at None is = refl
      at (Some new) is = own new is (bytes_eq (project_of_row new) q) refl

    claims-add : sum_by (claim_part t q k) t.operations.live ≡ sum_by (claim_part s q k) s.operations.live
    claims-add =
        ap (λ (ops : OperationTable Task). sum_by (claim_part t q k) ops.live) b.operations
        ∙ sum_by-same (claim_part t q k) (claim_part s q k) s.operations.live (record { at = claim-adds })

    used-other : used_by t q k ≡ used_by s q k
    used-other = omega (arith, used-split t q k, used-split s q k, instances-add, volumes-add, claims-add)

  networks-other : (q : List ℕ) → such q ≡ false → networks_of t q ≡ networks_of s q
  unfolding networks_of
  networks-other q other =
      sym (ap length (filter-filter own test t.networks none))
      ∙ ap (λ rows. length (filter own rows)) b.networks
      ∙ ap length (filter-filter own test s.networks none) where
        own : Network → Bool
        own n = bytes_eq n.project q

        test : Network → Bool
        test n = is_other such n.project

        none : (n : Network) → test n ≡ false → own n ≡ false
        none n is = differs n.project q (not-other (such n.project) is) other

  -- ---- limits

  part-other : (k : Part) (q : Project) → Mem q t.projects → such q.name ≡ false → part_exceeds s t k q ≡ None
  unfolding part_exceeds
  part-other k q m other =
      ap (limit_exceeded q (key_of k) (limit_on k (limits_of q.config)) (used s q.name k)) (used-other q.name (by_part k) other)
      ∙ unexceeded q (key_of k) (limit_on k (limits_of q.config)) (used s q.name k) ((h.limits.limits.at q (project-there q m other)).parts k)

  count-other : (q : Project) → Mem q t.projects → such q.name ≡ false → networks_exceed s t q ≡ None
  unfolding networks_exceed
  count-other q m other =
      ap (limit_exceeded q limit_key.Networks (limits_of q.config).networks (networks_of s q.name)) (networks-other q.name other)
      ∙ unexceeded q limit_key.Networks (limits_of q.config).networks (networks_of s q.name) (h.limits.limits.at q (project-there q m other)).networks

  pools-other : (q : Project) → Mem q t.projects → such q.name ≡ false → pools_exceed s t q ≡ None
  pools-other q m other = pools-same s t q (h.limits.limits.at q (project-there q m other)).pools (λ pool. used-other q.name (by_pool pool) other)

  pub limits-within : limits_broken s t ≡ exceeding s t those
  unfolding limits_broken
  limits-within = three-or
      (first_of-same (λ k. first_of (part_exceeds s t k) t.projects) (λ k. first_of (part_exceeds s t k) those) parts
      (record {
        at = λ k n. first_of-passing (λ (q : Project). such q.name) (part_exceeds s t k) (part_exceeds s t k) t.projects
            (record { at = part-other k }) (λ q own. refl);
      }))
      (first_of-passing (λ (q : Project). such q.name) (networks_exceed s t) (networks_exceed s t) t.projects
      (record { at = count-other }) (λ q own. refl))
      (first_of-passing (λ (q : Project). such q.name) (pools_exceed s t) (pools_exceed s t) t.projects
      (record { at = pools-other }) (λ q own. refl))

-- ---- what one project exceeds

module _ (s t : State) (p : List ℕ) where
  part-own : (k : Part) (q : Project) → bytes_eq q.name p ≡ true → part_exceeds s t k q ≡ line_over k (q, (usage_of s p, usage_of t p))
  unfolding part_exceeds
  part-own k q own = ap₂ (limit_exceeded q (key_of k) (limit_on k (limits_of q.config))) (uses s) (uses t) where
    uses : (u : State) → used u q.name k ≡ part k (usage_of u p)
    uses u = ap (λ name. used u name k) (same q.name p own) ∙ sym (part-of_usage u p k)

  count-own : (q : Project) → bytes_eq q.name p ≡ true → networks_exceed s t q ≡ network_use_over (networks_of s p) (networks_of t p) q
  unfolding networks_exceed
  count-own q own = ap₂ (limit_exceeded q limit_key.Networks (limits_of q.config).networks)
      (ap (networks_of s) (same q.name p own)) (ap (networks_of t) (same q.name p own))

  pub exceeding-own : Distinct project_names t.projects → exceeding s t (projects_of t p) ≡ of_project (use_over s t p) t.projects p
  exceeding-own distinct = ap (exceeding s t) (named-list p t.projects distinct) ∙ at (project_named t.projects p) refl where
    at : (o : Option Project) → project_named t.projects p ≡ o → exceeding s t (option_to_list o) ≡ option_and_then (use_over s t p) o
    at None found = refl
    at (Some q) found =
        let own = (find-some (is_project p) t.projects q found).1 in
        three-or
        (first_of-same (λ k. first_of (part_exceeds s t k) (q ∷ [])) (λ k. line_over k (q, (usage_of s p, usage_of t p))) parts
        (record { at = λ k m. or-none (part_exceeds s t k q) ∙ part-own k q own }))
        (or-none (networks_exceed s t q) ∙ count-own q own)
        (or-none (pools_exceed s t q) ∙ sym (project-pools s t q))

-- ---- changes of one project

all-within : (shared : Bool) (cs : List RowChange) (p : List ℕ) → project_of_all shared cs ≡ Some p → list_all (is_within shared p) cs ≡ true
all-within shared [] p is = cc
all-within shared (c ∷ cs) p is = at (list_all (is_within shared (project_touched c)) (c ∷ cs)) refl is where
  at : (b : Bool) → list_all (is_within shared (project_touched c)) (c ∷ cs) ≡ b → cond b (Some (project_touched c)) None ≡ Some p
      → list_all (is_within shared p) (c ∷ cs) ≡ true
  at true all found = let own : project_touched c ≡ p = cc in subst (λ name. list_all (is_within shared name) (c ∷ cs) ≡ true) own all
  at false all found = cc

pub one-alone : (s : State) (cs : List RowChange) (p : List ℕ) → IsWhole s → project_of_all (are_profiles_shared s) cs ≡ Some p → IsProjectJudgedAlone s (applied s cs) p
one-alone s cs p h is = record {
  policy = policy-within s t (are_profiles_shared s) own h (λ none. none) b;
  counts = counts-within s t (are_profiles_shared s) own h (λ none. none) b ∙ named-first (project_without_amount t) p t.projects distinct;
  limits = limits-within s t (are_profiles_shared s) own h (λ none. none) b ∙ exceeding-own s t p distinct;
} where
  t : State
  t = applied s cs

  own : List ℕ → Bool
  own name = bytes_eq name p

  distinct : Distinct project_names t.projects
  distinct = distinct-applied s cs h

  b : AreBeside (are_profiles_shared s) own s t
  b = changes-beside (are_profiles_shared s) own s h cs s (all-within (are_profiles_shared s) cs p is) (beside-itself (are_profiles_shared s) own s)
