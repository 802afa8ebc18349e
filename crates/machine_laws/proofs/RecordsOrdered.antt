-- The records of a state as seven sections, one for each kind: they stand in order, and a row put or removed changes the
-- section of its kind alone.
use Rattle.std.proofs.Common.{◌≡◌, ℕ, ◌<◌, List, [], ◌∷◌, ◌++◌, map, refl, sym, ap, subst, arith}
use Rattle.std.specs.Cmp.{nat_cmp_is}
use Rattle.std.specs.Cmp.Lexicographic.{slice_cmp}
use Rattle.std.specs.List.{AllByRecursion}
use Rattle.std.specs.Ordering.{nat_cmp, ordering_then}
use Rattle.std.specs.declared.cmp.Ordering.TheVariants.{Less}
use Rattle.plain_lists.specs.Members.{Each}
use Rattle.plain_lists.proofs.Elements.{Each-head, Each-tail, Each-map, Each-append}
use Rattle.size_values.specs.declared.entry.Entry.{Entry}
use Rattle.record_keeper.specs.Entries.{entry_order, IsOrderedEntries}
use Rattle.record_keeper.proofs.Listed.{sorted-append}
use Rattle.records.specs.declared.rows.Project.{Project}
use Rattle.records.specs.declared.rows.Profile.{Profile}
use Rattle.records.specs.declared.rows.Network.{Network}
use Rattle.records.specs.declared.rows.Pool.{Pool}
use Rattle.records.specs.declared.rows.Volume.{Volume}
use Rattle.records.specs.declared.rows.Instance.{Instance}
use Rattle.records.specs.declared.rows.Snapshot.{Snapshot}
use Rattle.records.specs.declared.rows.Row.TheVariants as row
use Rattle.row_codec.specs.Spelling.{entry_of}
use Rattle.row_machine.specs.machine.State.{State}
use Rattle.row_machine.specs.opening.Records.{by_key, records_of}
use Rattle.machine_laws.specs.Records.{RecordsOrdered}
use Rattle.machine_laws.proofs.NamesKeys.{HasDistinctKeys, distinct-keys}
use Rattle.machine_laws.proofs.RecordsSections.{section_kinds, section_ordered}

-- ---- entries by kind

abbrev pub project_entry : Project → Entry
project_entry r = entry_of (row.Project r)

abbrev pub profile_entry : Profile → Entry
profile_entry r = entry_of (row.Profile r)

abbrev pub network_entry : Network → Entry
network_entry r = entry_of (row.Network r)

abbrev pub pool_entry : Pool → Entry
pool_entry r = entry_of (row.Pool r)

abbrev pub volume_entry : Volume → Entry
volume_entry r = entry_of (row.Volume r)

abbrev pub instance_entry : Instance → Entry
instance_entry r = entry_of (row.Instance r)

abbrev pub snapshot_entry : Snapshot → Entry
snapshot_entry r = entry_of (row.Snapshot r)

-- the section of each kind
pub record Sections : Type 0 where
  pub projects : List Entry
  pub profiles : List Entry
  pub networks : List Entry
  pub pools : List Entry
  pub volumes : List Entry
  pub instances : List Entry
  pub snapshots : List Entry

abbrev pub sections_of : State → Sections
sections_of s = record {
  projects = by_key (map project_entry s.projects);
  profiles = by_key (map profile_entry s.profiles);
  networks = by_key (map network_entry s.networks);
  pools = by_key (map pool_entry s.pools);
  volumes = by_key (map volume_entry s.volumes);
  instances = by_key (map instance_entry s.instances);
  snapshots = by_key (map snapshot_entry s.snapshots);
}

-- the sections up to that of profiles
abbrev pub up_to_profiles : Sections → List Entry
up_to_profiles t = t.projects ++ t.profiles

-- the sections up to that of networks
abbrev pub up_to_networks : Sections → List Entry
up_to_networks t = up_to_profiles t ++ t.networks

-- the sections up to that of pools
abbrev pub up_to_pools : Sections → List Entry
up_to_pools t = up_to_networks t ++ t.pools

-- the sections up to that of volumes
abbrev pub up_to_volumes : Sections → List Entry
up_to_volumes t = up_to_pools t ++ t.volumes

-- the sections up to that of instances
abbrev pub up_to_instances : Sections → List Entry
up_to_instances t = up_to_volumes t ++ t.instances

-- all of them, one after the other
abbrev pub all_of : Sections → List Entry
all_of t = up_to_instances t ++ t.snapshots

joined_maps : {X Y Z : Type 0} (g : Y → Z) (f : X → Y) (xs : List X) → map g (map f xs) ≡ map (λ x. g (f x)) xs
joined_maps g f [] = refl
joined_maps g f (x ∷ xs) = ap (λ zs. g (f x) ∷ zs) (joined_maps g f xs)

pub records-are : (s : State) → records_of s ≡ all_of (sections_of s)
unfolding records_of
records-are s =
    λ i. by_key (joined_maps entry_of row.Project s.projects i) ++ by_key (joined_maps entry_of row.Profile s.profiles i) ++ by_key (joined_maps entry_of row.Network s.networks i) ++ by_key (joined_maps entry_of row.Pool s.pools i) ++ by_key (joined_maps entry_of row.Volume s.volumes i) ++ by_key (joined_maps entry_of row.Instance s.instances i) ++ by_key (joined_maps entry_of row.Snapshot s.snapshots i)

-- ---- the kinds of their entries

-- each section has entries of its kind
pub record AreOfKinds (t : Sections) : Type 0 where
  pub projects : Each (λ e. e.kind ≡ 1) t.projects
  pub profiles : Each (λ e. e.kind ≡ 2) t.profiles
  pub networks : Each (λ e. e.kind ≡ 3) t.networks
  pub pools : Each (λ e. e.kind ≡ 4) t.pools
  pub volumes : Each (λ e. e.kind ≡ 5) t.volumes
  pub instances : Each (λ e. e.kind ≡ 6) t.instances
  pub snapshots : Each (λ e. e.kind ≡ 7) t.snapshots

pub of-kinds : (s : State) → AreOfKinds (sections_of s)
of-kinds s = record {
  projects = section_kinds project_entry 1 (λ r. refl) s.projects;
  profiles = section_kinds profile_entry 2 (λ r. refl) s.profiles;
  networks = section_kinds network_entry 3 (λ r. refl) s.networks;
  pools = section_kinds pool_entry 4 (λ r. refl) s.pools;
  volumes = section_kinds volume_entry 5 (λ r. refl) s.volumes;
  instances = section_kinds instance_entry 6 (λ r. refl) s.instances;
  snapshots = section_kinds snapshot_entry 7 (λ r. refl) s.snapshots;
}

pub below : (n k : ℕ) {es : List Entry} → n < k → Each (λ e. e.kind ≡ n) es → Each (λ e. e.kind < k) es
below n k lt each = Each-map (λ e is. omega arith) each

pub above : (n k : ℕ) {es : List Entry} → k < n → Each (λ e. e.kind ≡ n) es → Each (λ e. k < e.kind) es
above n k lt each = Each-map (λ e is. omega arith) each

-- the kinds of the sections up to each
pub below_profiles : (t : Sections) (k : ℕ) → 2 < k → AreOfKinds t → Each (λ e. e.kind < k) (up_to_profiles t)
below_profiles t k lt kinds = Each-append (below 1 k (omega arith) kinds.projects) (below 2 k (omega arith) kinds.profiles)

pub below_networks : (t : Sections) (k : ℕ) → 3 < k → AreOfKinds t → Each (λ e. e.kind < k) (up_to_networks t)
below_networks t k lt kinds = Each-append (below_profiles t k (omega arith) kinds) (below 3 k (omega arith) kinds.networks)

pub below_pools : (t : Sections) (k : ℕ) → 4 < k → AreOfKinds t → Each (λ e. e.kind < k) (up_to_pools t)
below_pools t k lt kinds = Each-append (below_networks t k (omega arith) kinds) (below 4 k (omega arith) kinds.pools)

pub below_volumes : (t : Sections) (k : ℕ) → 5 < k → AreOfKinds t → Each (λ e. e.kind < k) (up_to_volumes t)
below_volumes t k lt kinds = Each-append (below_pools t k (omega arith) kinds) (below 5 k (omega arith) kinds.volumes)

pub below_instances : (t : Sections) (k : ℕ) → 6 < k → AreOfKinds t → Each (λ e. e.kind < k) (up_to_instances t)
below_instances t k lt kinds = Each-append (below_volumes t k (omega arith) kinds) (below 6 k (omega arith) kinds.instances)

-- ---- their order

all_from_each : {X : Type 0} (P : X → Type 0) (xs : List X) → Each P xs → AllByRecursion P xs
all_from_each P [] each = tt
all_from_each P (x ∷ xs) each = (Each-head each, all_from_each P xs (Each-tail each))

-- entries of lower kinds, and then those of one kind
ordered-after : (k : ℕ) (front es : List Entry) → IsOrderedEntries front → Each (λ e. e.kind < k) front
    → IsOrderedEntries es → Each (λ e. e.kind ≡ k) es → IsOrderedEntries (front ++ es)
ordered-after k front es low lower ordered kinds =
    sorted-append entry_order front es low ordered
    (all_from_each _ front (record { at = λ a m. all_from_each _ es (record { at = λ b n. less a b (lower.at a m) (kinds.at b n) }) }))
  where
    less : (a b : Entry) → a.kind < k → b.kind ≡ k → entry_order a b ≡ Less
    less a b lt is = ap (λ o. ordering_then o (slice_cmp nat_cmp a.key b.key)) (sym (nat_cmp_is a.kind b.kind Less (omega arith)))

pub records-ordered : RecordsOrdered
records-ordered s h = subst IsOrderedEntries (sym (records-are s)) seven where
  t : Sections
  t = sections_of s

  kinds : AreOfKinds t
  kinds = of-kinds s

  keys : HasDistinctKeys s
  keys = distinct-keys s h

  one : IsOrderedEntries t.projects
  one = section_ordered project_entry 1 (λ r. refl) s.projects keys.projects

  two : IsOrderedEntries (up_to_profiles t)
  two =
      ordered-after 2 t.projects t.profiles one (below 1 2 (omega arith) kinds.projects)
      (section_ordered profile_entry 2 (λ r. refl) s.profiles keys.profiles) kinds.profiles

  three : IsOrderedEntries (up_to_networks t)
  three =
      ordered-after 3 (up_to_profiles t) t.networks two (below_profiles t 3 (omega arith) kinds)
      (section_ordered network_entry 3 (λ r. refl) s.networks keys.networks) kinds.networks

  four : IsOrderedEntries (up_to_pools t)
  four =
      ordered-after 4 (up_to_networks t) t.pools three (below_networks t 4 (omega arith) kinds)
      (section_ordered pool_entry 4 (λ r. refl) s.pools keys.pools) kinds.pools

  five : IsOrderedEntries (up_to_volumes t)
  five =
      ordered-after 5 (up_to_pools t) t.volumes four (below_pools t 5 (omega arith) kinds)
      (section_ordered volume_entry 5 (λ r. refl) s.volumes keys.volumes) kinds.volumes

  six : IsOrderedEntries (up_to_instances t)
  six =
      ordered-after 6 (up_to_volumes t) t.instances five (below_volumes t 6 (omega arith) kinds)
      (section_ordered instance_entry 6 (λ r. refl) s.instances keys.instances) kinds.instances

  seven : IsOrderedEntries (all_of t)
  seven =
      ordered-after 7 (up_to_instances t) t.snapshots six (below_instances t 7 (omega arith) kinds)
      (section_ordered snapshot_entry 7 (λ r. refl) s.snapshots keys.snapshots) kinds.snapshots
