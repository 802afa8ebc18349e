-- What devices name is there as long as what they name stays.
use Rattle.std.proofs.Common.{◌≡◌, ℕ, Bool, true, false, cond, Option, Some, None, List, [], ◌∷◌, refl, sym, ◌∙◌, ap, subst}
use Rattle.std.specs.Prelude.{codes}
use Rattle.std.specs.List.{find}
use Rattle.std.specs.Map.{values_of}
use Rattle.std.specs.Option.{option_map, option_map_or, option_and_then, is_some, is_none}
use Rattle.expansion.specs.declared.expanded.Expanded.{Expanded}
use Rattle.std.specs.Str.{bytes_eq}
use Rattle.std.proofs.lemmas.Bool.{and_from}
use Rattle.plain_lists.specs.Members.{Mem, Each}
use Rattle.plain_lists.specs.Firsts.{first}
use Rattle.plain_lists.proofs.FirstLemmas.{told_if, none_both, not_mapped, first_of-none, none-first_of}
use Rattle.plain_lists.proofs.Searches.{any-mem, find-none, none-find}
use Rattle.config_lists.proofs.Keys.{bytes_eq-itself}
use Rattle.config_lists.specs.Devices.{NamedDevices}
use Rattle.config_lists.specs.Settings.{Settings, setting, has_setting}
use Rattle.estate_rules.specs.Uses.{is_nic_on, is_disk_in, is_volume_of, names_network, names_pool, names_volume}
use Rattle.size_values.specs.declared.kinds.ObjectKind.TheVariants as kind
use Rattle.records.specs.declared.rows.Instance.{Instance}
use Rattle.records.specs.declared.refusals.Refusal.{Refusal}
use Rattle.records.specs.declared.refusals.Rule.TheVariants as rule
use Rattle.row_machine.specs.machine.Refusals.{on_object}
use Rattle.row_machine.specs.machine.State.{State}
use Rattle.row_machine.specs.machine.Rows.{network_named, pool_named, volume_named, profile_named}
use Rattle.row_machine.specs.machine.Homes.{home_of}
use Rattle.row_machine.specs.machine.Expansions.{expanded_of}
use Rattle.row_machine.specs.machine.SettingRules.{network_missing, pool_missing, volume_missing, disk_misses, device_misses, devices_miss, profile_missing}
use Rattle.row_machine.specs.facts.Whole.{HasReferences}
use Rattle.machine_laws.proofs.Found.{not-none}
use Rattle.machine_laws.proofs.Expansions.{IsAlike, home_in, expanded-alike}
use Rattle.machine_laws.proofs.ReferencesHomes.{StaysHome}

-- ---- what is asked for, there

-- the network of a project, in its home
abbrev pub network_there : State → List ℕ → List ℕ → Type 0
network_there s project name =
    is_some (network_named s.networks (home_of s.projects project kind.Network) name) ≡ true

-- the pool
abbrev pub pool_there : State → List ℕ → Type 0
pool_there s name = is_some (pool_named s.pools name) ≡ true

-- the volume of a project, in its home
abbrev pub volume_there : State → List ℕ → List ℕ → List ℕ → Type 0
volume_there s project pool name =
    is_some (volume_named s.volumes (home_of s.projects project kind.Volume) pool name) ≡ true

-- what a device in a project names is there in t where it was in s
pub record ServesOne (s t : State) (project : List ℕ) (d : Settings) : Type 0 where
  pub networks : (name : List ℕ) → is_nic_on name d ≡ true → network_there s project name
      → network_there t project name
  pub pools : (name : List ℕ) → is_disk_in name d ≡ true → pool_there s name → pool_there t name
  pub volumes : (pool name : List ℕ) → is_volume_of pool name d ≡ true → volume_there s project pool name
      → volume_there t project pool name

-- and what any of these devices names
pub record Serves (s t : State) (project : List ℕ) (devices : NamedDevices) : Type 0 where
  pub networks : (name : List ℕ) → names_network devices name ≡ true → network_there s project name
      → network_there t project name
  pub pools : (name : List ℕ) → names_pool devices name ≡ true → pool_there s name → pool_there t name
  pub volumes : (pool name : List ℕ) → names_volume devices pool name ≡ true → volume_there s project pool name
      → volume_there t project pool name

serves-each : {s t : State} {project : List ℕ} {devices : NamedDevices} → Serves s t project devices → (d : Settings)
    → Mem d (values_of devices) → ServesOne s t project d
unfolding names_network names_pool names_volume
serves-each {devices} h d m = record {
  networks = λ name is. h.networks name (any-mem (is_nic_on name) d (values_of devices) m is);
  pools = λ name is. h.pools name (any-mem (is_disk_in name) d (values_of devices) m is);
  volumes = λ pool name is. h.volumes pool name (any-mem (is_volume_of pool name) d (values_of devices) m is);
}

-- where all stays
pub serves-all : (s t : State) (project : List ℕ) (devices : NamedDevices) → StaysHome s.projects t.projects project
    → ((home name : List ℕ) → is_some (network_named s.networks home name) ≡ true → is_some (network_named t.networks home name) ≡ true)
    → ((name : List ℕ) → pool_there s name → pool_there t name)
    → ((home pool name : List ℕ) → is_some (volume_named s.volumes home pool name) ≡ true → is_some (volume_named t.volumes home pool name) ≡ true)
    → Serves s t project devices
serves-all s t project devices stays networks pools volumes = record {
  networks = λ name is there. networks (home_of t.projects project kind.Network) name
      (ap (λ home. is_some (network_named s.networks home name)) (stays.home kind.Network) ∙ there);
  pools = λ name is there. pools name there;
  volumes = λ pool name is there. volumes (home_of t.projects project kind.Volume) pool name
      (ap (λ home. is_some (volume_named s.volumes home pool name)) (stays.home kind.Volume) ∙ there);
}

-- ---- one device

-- a missing one is told unless it is there
there_of : {X : Type 0} (o : Option X) (r : Refusal) → cond (is_none o) (Some r) None ≡ None → is_some o ≡ true
there_of o r h = not-none o (told_if (is_none o) r h)

of_there : {X : Type 0} (o : Option X) (r : Refusal) → is_some o ≡ true → cond (is_none o) (Some r) None ≡ None
of_there None r h = cc
of_there (Some x) r h = refl

has_found : (d : Settings) (key value : List ℕ) → setting d key ≡ Some value → has_setting d key value ≡ true
has_found d key value is = ap (λ o. option_map_or (λ found. bytes_eq found value) o false) is ∙ bytes_eq-itself value

device-stays : (s t : State) (project : List ℕ) (d : Settings) → ServesOne s t project d
    → device_misses s project d ≡ None → device_misses t project d ≡ None
device-stays s t project d h = nic (has_setting d (codes "type") (codes "nic")) refl where
  net : (o : Option (List ℕ)) → has_setting d (codes "type") (codes "nic") ≡ true → setting d (codes "network") ≡ o
      → option_and_then (network_missing s project) o ≡ None → option_and_then (network_missing t project) o ≡ None
  net None is_nic found e = refl
  net (Some name) is_nic found e =
      of_there (network_named t.networks (home_of t.projects project kind.Network) name) _
      (h.networks name (and_from _ _ is_nic (has_found d (codes "network") name found))
      (there_of (network_named s.networks (home_of s.projects project kind.Network) name) _ e))

  volume : (pool : List ℕ) (o : Option (List ℕ)) → is_disk_in pool d ≡ true → setting d (codes "source") ≡ o
      → option_and_then (volume_missing s project pool) o ≡ None
      → option_and_then (volume_missing t project pool) o ≡ None
  volume pool None in_pool found e = refl
  volume pool (Some name) in_pool found e =
      of_there (volume_named t.volumes (home_of t.projects project kind.Volume) pool name) _
      (h.volumes pool name (and_from _ _ in_pool (has_found d (codes "source") name found))
      (there_of (volume_named s.volumes (home_of s.projects project kind.Volume) pool name) _ e))

  both : {a b : Option Refusal} → a ≡ None → b ≡ None → first (a ∷ b ∷ []) ≡ None
  both e f = cc

  pool : (o : Option (List ℕ)) → has_setting d (codes "type") (codes "disk") ≡ true → setting d (codes "pool") ≡ o
      → option_and_then (disk_misses s project d) o ≡ None → option_and_then (disk_misses t project d) o ≡ None
  pool None is_disk found e = refl
  pool (Some name) is_disk found e =
      let in_pool : is_disk_in name d ≡ true = and_from _ _ is_disk (has_found d (codes "pool") name found) in
      let parts = none_both (pool_missing s name) _ e in
      let rest = none_both (option_and_then (volume_missing s project name) (setting d (codes "source"))) None parts.1 in
      both
      (of_there (pool_named t.pools name) _ (h.pools name in_pool (there_of (pool_named s.pools name) _ parts.0)))
      (volume name (setting d (codes "source")) in_pool refl rest.0)

  disk : (b : Bool) → has_setting d (codes "type") (codes "disk") ≡ b
      → cond b (option_and_then (disk_misses s project d) (setting d (codes "pool"))) None ≡ None
      → cond b (option_and_then (disk_misses t project d) (setting d (codes "pool"))) None ≡ None
  disk true is e = pool (setting d (codes "pool")) is refl e
  disk false is e = refl

  nic : (b : Bool) → has_setting d (codes "type") (codes "nic") ≡ b
      → cond b (option_and_then (network_missing s project) (setting d (codes "network")))
      (cond (has_setting d (codes "type") (codes "disk")) (option_and_then (disk_misses s project d) (setting d (codes "pool"))) None)
      ≡ None
      → cond b (option_and_then (network_missing t project) (setting d (codes "network")))
      (cond (has_setting d (codes "type") (codes "disk")) (option_and_then (disk_misses t project d) (setting d (codes "pool"))) None)
      ≡ None
  nic true is e = net (setting d (codes "network")) is refl e
  nic false is e = disk (has_setting d (codes "type") (codes "disk")) refl e

-- ---- devices, and instances

pub devices-stay : (s t : State) (project : List ℕ) (devices : NamedDevices) → Serves s t project devices
    → devices_miss s project devices ≡ None → devices_miss t project devices ≡ None
unfolding devices_miss
devices-stay s t project devices h e =
    let each = first_of-none (device_misses s project) (values_of devices) e in
    none-first_of (device_misses t project) (values_of devices)
    (record { at = λ d m. device-stays s t project d (serves-each h d m) (each.at d m) })

-- each profile that an instance names is there
pub profiles-there : (s : State) (i : Instance) → profile_missing s i ≡ None
    → Each (λ name. is_none (profile_named s.profiles (home_in s i) name) ≡ false) i.profiles
unfolding profile_missing
profiles-there s i e = find-none (λ name. is_none (profile_named s.profiles (home_in s i) name)) i.profiles
    (not_mapped _ (find (λ name. is_none (profile_named s.profiles (home_in s i) name)) i.profiles) e)

pub there-profiles : (s : State) (i : Instance)
    → Each (λ name. is_none (profile_named s.profiles (home_in s i) name) ≡ false) i.profiles
    → profile_missing s i ≡ None
unfolding profile_missing
there-profiles s i e =
    ap (λ o. option_map (λ name. on_object rule.V5 kind.Profile name) o)
    (none-find (λ name. is_none (profile_named s.profiles (home_in s i) name)) i.profiles e)

profiles-stay : {s t : State} {i : Instance} → IsAlike s t i → profile_missing s i ≡ None → profile_missing t i ≡ None
profiles-stay {s} {t} {i} h e = there-profiles t i (record {
  at = λ name m.
      ap (λ home. is_none (profile_named t.profiles home name)) h.home ∙ ap is_none (h.profiles name m) ∙
      (profiles-there s i e).at name m;
})

-- An instance has all that it names where its profiles stay, and what its devices name is still there.
pub refers-stays : {s t : State} {i : Instance} → IsAlike s t i
    → Serves s t i.project (expanded_of s.projects s.profiles i).devices → HasReferences s i → HasReferences t i
refers-stays {s} {t} {i} alike serves h = record {
  few = h.few;
  profiles = profiles-stay alike h.profiles;
  devices = subst (λ (e : Expanded). devices_miss t i.project e.devices ≡ None) (sym (expanded-alike alike))
      (devices-stay s t i.project (expanded_of s.projects s.profiles i).devices serves h.devices);
}
