-- What the facts of a whole state say in the words of the promise.
use Rattle.std.proofs.Common.{◌≡◌, ℕ, ◌≤◌, ◌==◌, Bool, true, false, cond, Option, Some, None, List, [], ◌∷◌, All, refl, sym, ap, subst, ◌∙◌}
use Rattle.std.specs.Prelude.{IfSome}
use Rattle.std.specs.Option.{option_and_then}
use Rattle.std.proofs.lemmas.Bool.{eq-eqb}
use Rattle.plain_lists.proofs.Elements.{Each-map}
use Rattle.size_values.specs.Amounts.{part}
use Rattle.size_values.specs.declared.amounts.Part.{Part}
use Rattle.size_values.specs.declared.amounts.Part.TheVariants as part_of
use Rattle.config_lists.specs.Entries.{value_of}
use Rattle.config_lists.specs.Settings.{Settings}
use Rattle.config_lists.specs.Devices.{NamedDevices}
use Rattle.config_lists.proofs.Lookups.{value_of-below}
use Rattle.expansion.specs.Layers.{IsLayer, expanded_setting, expanded_device}
use Rattle.expansion.proofs.Searches.{read-expanded, setting-laid, device-laid}
use Rattle.restrictions.specs.declared.rows.Subject.{Subject}
use Rattle.restrictions.specs.declared.rows.Subject.TheVariants as subject
use Rattle.restrictions.specs.declared.forbidden.Forbidden.{Forbidden}
use Rattle.restrictions.specs.Policies.{policy_of}
use Rattle.restrictions.specs.Forbids.{first_forbidden}
use Rattle.project_limits.specs.Admission.{limit_on}
use Rattle.project_limits.specs.declared.sums.SumKey.{SumKey}
use Rattle.project_limits.specs.Limits.{limits_of}
use Rattle.plain_lists.specs.Firsts.{first}
use Rattle.plain_lists.proofs.FirstLemmas.{none_both, not_mapped}
use Rattle.project_limits.specs.Pools.{pool_key}
use Rattle.records.specs.declared.refusals.Rule.TheVariants as rule
use Rattle.row_machine.specs.machine.LimitRules.{object_without_amount, object_without_size, sum_text, instance_without_amount, volume_lacks_amount}
use Rattle.records.specs.declared.rows.Project.{Project}
use Rattle.records.specs.declared.rows.Instance.{Instance}
use Rattle.row_machine.specs.machine.State.{State}
use Rattle.row_machine.specs.machine.Expansions.{expanded_of}
use Rattle.row_machine.specs.machine.Usage.{used, usage_of}
use Rattle.row_machine.specs.machine.Refusals.{on_key_of}
use Rattle.row_machine.specs.machine.PolicyRules.{forbids, forbids_profile, forbids_instance, subject_of, policy_rule, forbidden_key}
use Rattle.row_machine.specs.facts.Whole.{IsWhole, IsWithin, IsClean}
use Rattle.machine_laws.specs.Sorted.{AreSortedRows}
use Rattle.machine_laws.proofs.SortedOpening.{layers-sorted}
use Rattle.machine_laws.specs.Headline.{KeepsLimits, KeepsPolicy, HasItsLayers, StandsAsPromised, layers_of}

-- ---- limits

-- the parts of the usage are what is used of each
used-part : (s : State) (project : List ℕ) (k : Part) → part k (usage_of s project) ≡ used s project k
unfolding usage_of
used-part s project part_of.Instances = refl
used-part s project part_of.Containers = refl
used-part s project part_of.Machines = refl
used-part s project part_of.Cpu = refl
used-part s project part_of.Memory = refl
used-part s project part_of.Processes = refl
used-part s project part_of.Disk = refl

-- what no rule tells of is countable
has_amounts : (p : Project) (name : List ℕ) (key : Option SumKey) → object_without_amount p name key ≡ None → key ≡ None
has_amounts p name key e = not_mapped (λ k. on_key_of rule.L0 (sum_text k) name p.name) key e

has_size : (p : Project) (name : List ℕ) (pool : Option (List ℕ)) → object_without_size p name pool ≡ None → pool ≡ None
has_size p name pool e = not_mapped (λ limited. on_key_of rule.L0 (pool_key limited) name p.name) pool e

both : (p : Project) (name : List ℕ) {key : Option SumKey} {pool : Option (List ℕ)}
    → first (object_without_amount p name key ∷ object_without_size p name pool ∷ []) ≡ None → (key ≡ None) × (pool ≡ None)
both p name {key} {pool} e =
    let first_none = none_both (object_without_amount p name key) _ e in
    let then_none = none_both (object_without_size p name pool) None first_none.1 in
    (has_amounts p name key first_none.0, has_size p name pool then_none.0)

keeps-limits : (s : State) (p : Project) → IsWithin s p → KeepsLimits s p
unfolding instance_without_amount volume_lacks_amount
keeps-limits s p h = record {
  usage = λ k. subst (λ n. IfSome (limit_on k (limits_of p.config)) (λ limit. n ≤ limit)) (sym (used-part s p.name k)) (h.parts k);
  networks = h.networks;
  pools = h.pools;
  instances = Each-map (λ i none of. both p i.name (none of)) h.instances;
  volumes = Each-map (λ v none of. both p v.name (none of)) h.volumes;
}

-- ---- policy

-- what no rule of any number forbids is not forbidden
not-forbidden : (p : Project) (judged : Subject) (name : List ℕ) (config : Settings) (devices : NamedDevices)
    → ((number : ℕ) → forbids p number judged name config devices ≡ None) → first_forbidden (policy_of p.config) judged config devices ≡ None
not-forbidden p judged name config devices none = by (first_forbidden (policy_of p.config) judged config devices) refl where
  by : (f : Option Forbidden) → first_forbidden (policy_of p.config) judged config devices ≡ f → f ≡ None
  by None is = refl
  by (Some f) is = never (f.rule == f.rule) (eq-eqb f.rule f.rule refl)
      (ap (option_and_then (λ (g : Forbidden). cond (g.rule == f.rule) (Some (on_key_of (policy_rule f.rule) (forbidden_key config devices g) name p.name)) None)) (sym is) ∙ none f.rule) where
        never : (b : Bool) → b ≡ true → cond b (Some (on_key_of (policy_rule f.rule) (forbidden_key config devices f) name p.name)) None ≡ None → Some f ≡ None
        never true e told = cc
        never false e told = cc

keeps-policy : (s : State) (p : Project) → IsClean s p → KeepsPolicy s p
unfolding forbids_profile forbids_instance
keeps-policy s p h = record {
  profiles = Each-map (λ r clean of. not-forbidden p subject.Profile r.name r.config r.devices (clean of)) h.profiles;
  instances = Each-map
      (λ i clean of. not-forbidden p (subject_of i.kind) i.name (expanded_of s.projects s.profiles i).config (expanded_of s.projects s.profiles i).devices (clean of))
      h.instances;
}

-- ---- layers

has-layers : (s : State) (i : Instance) → All IsLayer (layers_of s i) → HasItsLayers s i
unfolding expanded_of expanded_setting expanded_device
has-layers s i all = record {
  settings = λ key. read-expanded (λ l. value_of l.config key) (setting-laid key) (layers_of s i) all (value_of-below [] key tt);
  devices = λ name. read-expanded (λ l. value_of l.devices name) (device-laid name) (layers_of s i) all (value_of-below [] name tt);
}

pub stands : (s : State) → IsWhole s → AreSortedRows s → StandsAsPromised s
stands s h sorted = record {
  limits = Each-map (keeps-limits s) h.limits.limits;
  policy = Each-map (keeps-policy s) h.limits.policy;
  instances = record { at = λ i m. has-layers s i (layers-sorted s i sorted m) };
  books = record { parts = h.books.parts; pools = h.books.pools };
}
