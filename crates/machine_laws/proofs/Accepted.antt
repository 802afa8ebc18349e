-- The rows of a state in which all facts hold meet each rule of opening.
use Rattle.std.proofs.Common.{◌≡◌, ℕ, ◌≤◌, ◌+◌, Bool, true, false, not, ◌&&◌, ◌||◌, Option, Some, None, List, [], ◌∷◌, ◌++◌, map, codes, refl, sym, ap, ◌∙◌, inl, inr, arith}
use Rattle.std.specs.List.{sum_by}
use Rattle.std.specs.Str.{bytes_eq}
use Rattle.std.specs.Option.{option_map, option_and_then, is_some, is_none}
use Rattle.std.proofs.lemmas.List.Sums.{sum_by-append}
use Rattle.plain_lists.specs.Firsts.{first_of}
use Rattle.plain_lists.specs.Members.{Mem, Each}
use Rattle.plain_lists.proofs.Elements.{Mem-left, Mem-append, Each-none, Each-cons, Each-left, Each-map}
use Rattle.plain_lists.proofs.FirstLemmas.{none-first_of}
use Rattle.plain_lists.proofs.Searches.{find-some, find-mem}
use Rattle.config_lists.proofs.Keys.{same}
use Rattle.records.specs.declared.refusals.Rule.{Rule}
use Rattle.records.specs.declared.refusals.Rule.TheVariants as rule
use Rattle.records.specs.declared.refusals.Refusal.{Refusal}
use Rattle.records.specs.declared.rows.Project.{Project}
use Rattle.records.specs.declared.rows.Volume.{Volume}
use Rattle.records.specs.declared.rows.Instance.{Instance}
use Rattle.records.specs.declared.rows.Row.{Row}
use Rattle.row_machine.specs.machine.State.{State}
use Rattle.row_machine.specs.machine.Rows.{default_name, project_named, profile_named, is_project, project_names}
use Rattle.row_machine.specs.machine.Homes.{is_on}
use Rattle.row_machine.specs.machine.Expansions.{expanded_of}
use Rattle.row_machine.specs.machine.Claims.{judged_instances, judged_volumes, amounts_of_instance, part_of_instance, of_live, claimed_instance, claimed_volume, claimed_snapshot}
use Rattle.row_machine.specs.machine.Usage.{loads, instance_load, volume_load, claim_load}
use Rattle.row_machine.specs.machine.SettingRules.{root_missing, profile_missing, devices_miss}
use Rattle.row_machine.specs.machine.PolicyRules.{forbids_profile, forbids_instance}
use Rattle.row_machine.specs.machine.LimitRules.{instance_without_amount, volume_lacks_amount}
use Rattle.row_machine.specs.opening.Opening.{if_so, rule_of, home_missing, parent_row_missing, profiles_malformed, defaults_missing, settings_invalid, devices_invalid, root_disk_missing, named_row_missing, has_all_features, forbidden, row_lacks_amount}
use Rattle.row_machine.specs.facts.Whole.{IsWhole, HasReferences, AreWithin, claims_of}
use Rattle.machine_laws.proofs.NamesRise.{Rise-Distinct}
use Rattle.machine_laws.proofs.NamesRows.{EachRow, rows-each, each-row}
use Rattle.machine_laws.proofs.LimitsLess.{IsLess, within-less}
use Rattle.machine_laws.proofs.Measures.{Measure, IsMeasure, measured, used_by}
use Rattle.machine_laws.proofs.LimitsWithin.{within-limits}
use Rattle.machine_laws.proofs.OpeningRules.{AreAccepted}
use Rattle.machine_laws.specs.Reopening.{reopened}
use Rattle.machine_laws.proofs.Sections.{sorted_rows, from-rows, few-rows}

-- ---- tests

some_none : {X : Type 0} (o : Option X) → is_some o ≡ true → is_none o ≡ false
some_none None h = cc
some_none (Some x) h = refl

-- a rule whose test is false is not broken
unless : (b : Bool) (why : Rule) → b ≡ false → if_so b why ≡ None
unless b why h = ap (λ t. if_so t why) h

-- what is not refused breaks no rule
untold : {o : Option Refusal} → o ≡ None → rule_of o ≡ None
untold h = ap rule_of h

-- ---- the reopened state

module _ (s : State) (whole : IsWhole s) where
  abbrev t : State
  t = reopened s

  used-less : (project : List ℕ) (k : Measure) → IsMeasure k → used_by t project k ≤ used_by s project k
  unfolding loads amounts_of_instance part_of_instance
  used-less project k measure =
      let f = measured project k in
      let a = map (instance_load s) s.instances in
      let b = map volume_load s.volumes in
      let c = of_live (claim_load s) s in
      let before : used_by s project k ≡ sum_by f (a ++ b) + sum_by f c = sum_by-append f (a ++ b) c in
      let after : used_by t project k ≡ sum_by f (a ++ b) + 0 = sum_by-append f (a ++ b) [] in
      omega (arith, before, after)

  less : IsLess s t
  unfolding judged_instances judged_volumes
  less = record {
    projects = refl;
    profiles = refl;
    networks = refl;
    instances = λ i m. elim (Mem-append i s.instances [] m) [ inl n ↦ Mem-left i s.instances (of_live claimed_instance s) n | inr n ↦ absurd n ];
    volumes = λ v m. elim (Mem-append v s.volumes [] m) [ inl n ↦ Mem-left v s.volumes (of_live claimed_volume s) n | inr n ↦ absurd n ];
    usage = used-less;
  }

  within : AreWithin t
  within = within-less s t less whole.limits

  -- the rows are the same, so what the rules look up is
  same-root : (i : Instance) → root_missing t i ≡ root_missing s i
  unfolding root_missing
  same-root i = refl

  same-profiles : (i : Instance) → profile_missing t i ≡ profile_missing s i
  unfolding profile_missing
  same-profiles i = refl

  same-devices : (project : List ℕ) (devices : _) → devices_miss t project devices ≡ devices_miss s project devices
  unfolding devices_miss
  same-devices project devices = refl

  -- ---- rules on one row

  rows : {P : Row → Type 0} → EachRow P s → Each P (sorted_rows s)
  rows e = record { at = λ r m. (rows-each s e).at r (from-rows s r m) }

  own-instances : {P : Instance → Type 0} → Each P (judged_instances s) → Each P s.instances
  unfolding judged_instances
  own-instances e = Each-left (of_live claimed_instance s) e

  homes : EachRow (λ r. home_missing t r ≡ None) s
  homes =
      let e = each-row s whole.references.homes in
      record { projects = e.projects; profiles = e.profiles; networks = e.networks; pools = e.pools; volumes = e.volumes; instances = e.instances; snapshots = e.snapshots }

  parents : EachRow (λ r. parent_row_missing t r ≡ None) s
  parents = record {
    projects = record { at = λ r m. refl };
    profiles = record { at = λ r m. refl };
    networks = record { at = λ r m. refl };
    pools = record { at = λ r m. refl };
    volumes = Each-map (λ v there. unless _ rule.N2 (some_none _ there)) whole.references.volumes;
    instances = record { at = λ r m. refl };
    snapshots = Each-map (λ r there. unless _ rule.N2 (some_none _ there)) whole.references.snapshots;
  }

  profiles : EachRow (λ r. profiles_malformed t r ≡ None) s
  profiles = record {
    projects = record { at = λ r m. refl };
    profiles = record { at = λ r m. refl };
    networks = record { at = λ r m. refl };
    pools = record { at = λ r m. refl };
    volumes = record { at = λ r m. refl };
    instances = Each-map (λ i (refers : HasReferences s i). unless _ rule.N3 (ap not refers.few)) (own-instances whole.references.instances);
    snapshots = Each-map (λ r few. unless _ rule.N3 (ap not few)) (Each-left (of_live claimed_snapshot s) whole.references.snapshot_profiles);
  }

  defaults : EachRow (λ r. defaults_missing t r ≡ None) s
  defaults = record {
    projects = record { at = λ p m. unless _ rule.B3 (λ i. features p m (bytes_eq p.name default_name) refl i || own p m (is_on p.config (codes "features.profiles")) refl i) };
    profiles = record { at = λ r m. refl };
    networks = record { at = λ r m. refl };
    pools = record { at = λ r m. refl };
    volumes = record { at = λ r m. refl };
    instances = record { at = λ r m. refl };
    snapshots = record { at = λ r m. refl };
  } where
    features : (p : Project) → Mem p s.projects → (b : Bool) → bytes_eq p.name default_name ≡ b → (b && not (has_all_features p)) ≡ false
    features p m false is = refl
    features p m true is =
        let found : project_named s.projects default_name ≡ Some p = find-mem project_names (is_project default_name) p s.projects
        (Rise-Distinct project_names s.projects whole.names.projects)
        (λ y hit. ap (λ n. n ∷ []) (same y.name default_name hit ∙ sym (same p.name default_name is))) m is in
        let all : Some (has_all_features p) ≡ Some true = sym (ap (option_map has_all_features) found) ∙ whole.defaults.project in
        let has : has_all_features p ≡ true = cc in
        ap not has

    own : (p : Project) → Mem p s.projects → (b : Bool) → is_on p.config (codes "features.profiles") ≡ b
        → (b && is_none (profile_named s.profiles p.name default_name)) ≡ false
    own p m false is = refl
    own p m true is = some_none (profile_named s.profiles p.name default_name) (whole.defaults.profiles.at p m is)

  settings : EachRow (λ r. settings_invalid t r ≡ None) s
  settings =
      let e = each-row s (Each-left (claims_of s) whole.settings.settings) in
      record { projects = e.projects; profiles = e.profiles; networks = e.networks; pools = e.pools; volumes = e.volumes; instances = e.instances; snapshots = e.snapshots }

  devices : EachRow (λ r. devices_invalid t r ≡ None) s
  devices =
      let e = each-row s (Each-left (claims_of s) whole.settings.devices) in
      record { projects = e.projects; profiles = e.profiles; networks = e.networks; pools = e.pools; volumes = e.volumes; instances = e.instances; snapshots = e.snapshots }

  roots : EachRow (λ r. root_disk_missing t r ≡ None) s
  roots = record {
    projects = record { at = λ r m. refl };
    profiles = record { at = λ r m. refl };
    networks = record { at = λ r m. refl };
    pools = record { at = λ r m. refl };
    volumes = record { at = λ r m. refl };
    instances = Each-map (λ i none. untold (same-root i ∙ none)) (own-instances whole.settings.roots);
    snapshots = record { at = λ r m. refl };
  }

  references : EachRow (λ r. named_row_missing t r ≡ None) s
  references = record {
    projects = record { at = λ r m. refl };
    profiles = Each-map (λ r none. untold (same-devices r.project r.devices ∙ none)) whole.references.profiles;
    networks = record { at = λ r m. refl };
    pools = record { at = λ r m. refl };
    volumes = record { at = λ r m. refl };
    instances = Each-map (λ i refers. untold (refers_none i refers)) (own-instances whole.references.instances);
    snapshots = record { at = λ r m. refl };
  } where
    refers_none : (i : Instance) → HasReferences s i → first_of (λ (o : Option Refusal). o)
        (profile_missing t i ∷ devices_miss t i.project (expanded_of t.projects t.profiles i).devices ∷ []) ≡ None
    refers_none i refers = none-first_of (λ (o : Option Refusal). o) _
        (Each-cons _ (same-profiles i ∙ refers.profiles)
        (Each-cons _ (same-devices i.project (expanded_of s.projects s.profiles i).devices ∙ refers.devices) Each-none))

  -- a rule on the objects of a project, where the project of this name meets it
  ruled : (f : Project → Option Refusal) (name : List ℕ) → ((p : Project) → Mem p s.projects → name ≡ p.name → f p ≡ None)
      → rule_of (option_and_then f (project_named s.projects name)) ≡ None
  ruled f name meets = by (project_named s.projects name) refl where
    by : (o : Option Project) → project_named s.projects name ≡ o → rule_of (option_and_then f o) ≡ None
    by None is = refl
    by (Some p) is =
        let there = find-some (is_project name) s.projects p is in
        untold (meets p there.0 (sym (same p.name name there.1)))

  judged : {P : Instance → Type 0} → Each P (judged_instances t) → Each P s.instances
  unfolding judged_instances
  judged e = Each-left [] e

  judged-volumes : {P : Volume → Type 0} → Each P (judged_volumes t) → Each P s.volumes
  unfolding judged_volumes
  judged-volumes e = Each-left [] e

  policy : (number : ℕ) → EachRow (λ r. forbidden number t r ≡ None) s
  policy number = record {
    projects = record { at = λ r m. refl };
    profiles = record { at = λ r m. ruled (λ p. forbids_profile p number r) r.project (λ p n own. (within.policy.at p n).profiles.at r m own number) };
    networks = record { at = λ r m. refl };
    pools = record { at = λ r m. refl };
    volumes = record { at = λ r m. refl };
    instances = record { at = λ i m. ruled (λ p. forbids_instance t p number i) i.project (λ p n own. (judged (within.policy.at p n).instances).at i m own number) };
    snapshots = record { at = λ r m. refl };
  }

  counts : EachRow (λ r. row_lacks_amount t r ≡ None) s
  counts = record {
    projects = record { at = λ r m. refl };
    profiles = record { at = λ r m. refl };
    networks = record { at = λ r m. refl };
    pools = record { at = λ r m. refl };
    volumes = record { at = λ v m. ruled (λ p. volume_lacks_amount p v) v.project (λ p n own. (judged-volumes (within.limits.at p n).volumes).at v m own) };
    instances = record { at = λ i m. ruled (λ p. instance_without_amount t p i) i.project (λ p n own. (judged (within.limits.at p n).instances).at i m own) };
    snapshots = record { at = λ r m. refl };
  }

  default : is_none (project_named s.projects default_name) ≡ false
  default = by (project_named s.projects default_name) whole.defaults.project where
    by : (o : Option Project) → option_map has_all_features o ≡ Some true → is_none o ≡ false
    by None h = cc
    by (Some p) h = refl

  pub rows-meet : AreAccepted t (sorted_rows s)
  rows-meet = record {
    default = default;
    homes = rows homes;
    parents = rows parents;
    profiles = rows profiles;
    defaults = rows defaults;
    settings = rows settings;
    devices = rows devices;
    roots = rows roots;
    references = rows references;
    policy = λ number m. rows (policy number);
    counts = rows counts;
    limits = within-limits t within;
    tables = λ k m. omega (arith, few-rows s k, whole.sizes.tables.at k m);
    small = rows (each-row s (Each-left (claims_of s) whole.sizes.rows));
  }
