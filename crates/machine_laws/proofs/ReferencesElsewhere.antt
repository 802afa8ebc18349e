-- References where projects change in which nothing is but a profile `default`.
use Rattle.std.proofs.Common.{◌≡◌, ◌≢◌, ℕ, Bool, true, false, not, ◌&&◌, ◌||◌, ◌⊎◌, Some, None, List, refl, sym, ap, subst, ◌∙◌, inl, inr, true≢false}
use Rattle.std.specs.List.{list_any}
use Rattle.std.specs.Option.{is_some}
use Rattle.std.specs.Str.{bytes_eq}
use Rattle.plain_lists.specs.Members.{Mem, Each}
use Rattle.plain_lists.proofs.Elements.{Each-map, Each-append, Mem-left}
use Rattle.plain_lists.proofs.Readings.{Mem-from_read}
use Rattle.plain_lists.proofs.Searches.{any-none, find-some}
use Rattle.config_lists.proofs.Keys.{same, bytes_eq-itself}
use Rattle.size_values.specs.declared.kinds.ObjectKind.TheVariants as kind
use Rattle.operations.specs.declared.operation.Operation.{Operation}
use Rattle.records.specs.declared.rows.Project.{Project}
use Rattle.records.specs.declared.rows.Profile.{Profile}
use Rattle.records.specs.declared.rows.Network.{Network}
use Rattle.records.specs.declared.rows.Volume.{Volume}
use Rattle.records.specs.declared.rows.Instance.{Instance}
use Rattle.records.specs.declared.rows.Snapshot.{Snapshot}
use Rattle.records.specs.declared.rows.Row.TheVariants as row
use Rattle.row_machine.specs.machine.Task.{Task}
use Rattle.row_machine.specs.machine.State.{State}
use Rattle.row_machine.specs.machine.Rows.{default_name, is_instance, volume_named, instance_named}
use Rattle.row_machine.specs.machine.Expansions.{expanded_of}
use Rattle.row_machine.specs.machine.Claims.{claimed_instance, judged_instances}
use Rattle.row_machine.specs.machine.SettingRules.{devices_miss}
use Rattle.row_machine.specs.machine.StandingRules.{is_occupied}
use Rattle.row_machine.specs.opening.Opening.{home_missing}
use Rattle.row_machine.specs.facts.Whole.{IsWhole, HasReferences, ReferencesExist}
use Rattle.machine_laws.proofs.Found.{there-is, instance-found}
use Rattle.machine_laws.proofs.Expansions.{IsAlike}
use Rattle.machine_laws.proofs.ExpansionsApart.{AreApart, apart-elsewhere}
use Rattle.machine_laws.proofs.NamesRows.{EachRow, each-row, rows-each}
use Rattle.machine_laws.proofs.ReferencesClaims.{claim-instance}
use Rattle.machine_laws.proofs.ReferencesHomes.{StaysHome, stays-found, homeless-stays}
use Rattle.machine_laws.proofs.ReferencesDevices.{serves-all, devices-stay, refers-stays}
use Rattle.machine_laws.proofs.ReferencesUnused.{or-none}
use Rattle.machine_laws.proofs.ReferencesPlaces.{Leaves, placed-stays}

-- with these projects and profiles
abbrev pub with_estate : State → List Project → List Profile → State
with_estate s ps rs = record s { projects = ps; profiles = rs }

-- ---- other projects and profiles

-- what the change of projects and profiles leaves
pub record EstateServes (s : State) (ps : List Project) (rs : List Profile) : Type 0 where
  pub networks : Each (λ r. StaysHome s.projects ps r.project) s.networks
  pub volumes : Each (λ r. StaysHome s.projects ps r.project) s.volumes
  pub instances : Each (λ i. StaysHome s.projects ps i.project × IsAlike s (with_estate s ps rs) i) (judged_instances s)
  pub snapshots : Each (λ r. StaysHome s.projects ps r.project) s.snapshots
  pub operations : Each (λ o. StaysHome s.projects ps o.work.project) s.operations.live
  pub profiles : Each (λ r. (home_missing (with_estate s ps rs) (row.Profile r) ≡ None) × (devices_miss (with_estate s ps rs) r.project r.devices ≡ None)) rs

pub estate-references : (s : State) (ps : List Project) (rs : List Profile) → IsWhole s → EstateServes s ps rs
    → ReferencesExist (with_estate s ps rs)
unfolding judged_instances
estate-references s ps rs h serve = record {
  homes = rows-each t (record {
    projects = record { at = λ r m. refl };
    profiles = Each-map (λ r both. both.0) serve.profiles;
    networks = record { at = λ r m. homeless-stays s t (row.Network r) (serve.networks.at r m) (rows.networks.at r m) };
    pools = record { at = λ r m. refl };
    volumes = record { at = λ r m. homeless-stays s t (row.Volume r) (serve.volumes.at r m) (rows.volumes.at r m) };
    instances = record { at = λ r m. homeless-stays s t (row.Instance r) (own_instances.at r m) (rows.instances.at r m) };
    snapshots = record { at = λ r m. homeless-stays s t (row.Snapshot r) (serve.snapshots.at r m) (rows.snapshots.at r m) };
  });
  volumes = h.references.volumes;
  snapshots = h.references.snapshots;
  snapshot_profiles = h.references.snapshot_profiles;
  profiles = Each-map (λ r both. both.1) serve.profiles;
  instances = record { at = λ i m. refers i (serve.instances.at i m) (h.references.instances.at i m) };
  operations = record { at = λ o m. placed-stays (h.operations.deeds.at o m) (leaves o (serve.operations.at o m)) (h.references.operations.at o m) };
} where
  t : State
  t = with_estate s ps rs

  rows : EachRow (λ r. home_missing s r ≡ None) s
  rows = each-row s h.references.homes

  own_instances : Each (λ i. StaysHome s.projects ps i.project) s.instances
  own_instances = record { at = λ i m. (serve.instances.at i (Mem-left i s.instances _ m)).0 }

  refers : (i : Instance) → StaysHome s.projects ps i.project × IsAlike s t i → HasReferences s i → HasReferences t i
  refers i stays was = refers-stays stays.1
      (serves-all s t i.project (expanded_of s.projects s.profiles i).devices stays.0 (λ home name there. there) (λ name there. there) (λ home pool name there. there))
      was

  leaves : (o : Operation Task) → StaysHome s.projects ps o.work.project → Leaves s t o.work
  leaves o stays = record {
    project = stays;
    instances = λ name busy there. refl;
    snapshots = λ instance name busy there. there;
    volumes =
        λ of is volume there. ap (λ home. is_some (volume_named s.volumes home of.pool of.name))
        (stays.home kind.Volume) ∙ there;
    pools = λ v is there. there;
  }

-- a profile whose project stays keeps its home and what its devices name
pub profile-stays : (s : State) (ps : List Project) (rs : List Profile) (r : Profile) → IsWhole s → Mem r s.profiles
    → StaysHome s.projects ps r.project
    → (home_missing (with_estate s ps rs) (row.Profile r) ≡ None) × (devices_miss (with_estate s ps rs) r.project r.devices ≡ None)
profile-stays s ps rs r h m stays = (
  homeless-stays s (with_estate s ps rs) (row.Profile r) stays ((each-row s h.references.homes).profiles.at r m),
  devices-stay s (with_estate s ps rs) r.project r.devices
      (serves-all s (with_estate s ps rs) r.project r.devices stays (λ home name there. there) (λ name there. there) (λ home pool name there. there))
      (h.references.profiles.at r m),
)

-- ---- some projects are touched, and nothing is in them

-- each row and each operation belongs to another project
pub record AreElsewhere (Q : List ℕ → Type 0) (s : State) : Type 0 where
  pub networks : Each (λ r. Q r.project → ⊥) s.networks
  pub volumes : Each (λ r. Q r.project → ⊥) s.volumes
  pub instances : Each (λ r. Q r.project → ⊥) s.instances
  pub operations : Each (λ o. Q o.work.project → ⊥) s.operations.live
  pub default : Q default_name → ⊥

pub elsewhere-references : (Q : List ℕ → Type 0) (s : State) (ps : List Project) (rs : List Profile) → IsWhole s → AreElsewhere Q s
    → AreApart Q (λ project name. Q project) s (with_estate s ps rs)
    → ((r : Profile) → Mem r rs → (Mem r s.profiles × (Q r.project → ⊥))
    ⊎
    ((home_missing (with_estate s ps rs) (row.Profile r) ≡ None) × (devices_miss (with_estate s ps rs) r.project r.devices ≡ None)))
    → ReferencesExist (with_estate s ps rs)
unfolding judged_instances
elsewhere-references Q s ps rs h away apart profiles = estate-references s ps rs h (record {
  networks = Each-map (λ r never. stays r.project never) away.networks;
  volumes = Each-map (λ r never. stays r.project never) away.volumes;
  instances = Each-map (λ i never. (stays i.project never, apart-elsewhere i apart away.default never))
      (Each-append away.instances (record { at = λ i m. claimed i (Mem-from_read (λ (o : Operation Task). claimed_instance o.work) i s.operations.live m) }));
  snapshots = record { at = λ r m. stays r.project (in_snapshot r m) };
  operations = Each-map (λ o never. stays o.work.project never) away.operations;
  profiles = record { at = λ r m. profile r (profiles r m) };
}) where
  stays : (name : List ℕ) → (Q name → ⊥) → StaysHome s.projects ps name
  stays name never = stays-found s.projects ps name (apart.projects name never)

  claimed : (i : Instance) → (o : Operation Task) × (Mem o s.operations.live × (claimed_instance o.work ≡ Some i))
      → Q i.project → ⊥
  claimed i found touched =
      away.operations.at found.0 found.1.0
      (subst Q ((h.references.operations.at found.0 found.1.0).claim_project (row.Instance i) (claim-instance found.0.work i found.1.1)) touched)

  in_snapshot : (r : Snapshot) → Mem r s.snapshots → Q r.project → ⊥
  in_snapshot r m touched =
      let found = there-is (instance_named s.instances r.project r.instance) (h.references.snapshots.at r m) in
      away.instances.at found.0 (find-some (is_instance r.project r.instance) s.instances found.0 found.1).0
      (subst Q (sym (instance-found s.instances r.project r.instance found.0 found.1).0) touched)

  profile : (r : Profile)
      → (Mem r s.profiles × (Q r.project → ⊥)) ⊎ ((home_missing (with_estate s ps rs) (row.Profile r) ≡ None) × (devices_miss (with_estate s ps rs) r.project r.devices ≡ None))
      → (home_missing (with_estate s ps rs) (row.Profile r) ≡ None) × (devices_miss (with_estate s ps rs) r.project r.devices ≡ None)
  profile r (inl old) = profile-stays s ps rs r h old.0 (stays r.project old.1)
  profile r (inr own) = own

-- ---- an empty project

-- what is in a project that is not occupied: nothing but a profile `default`
pub record IsEmpty (s : State) (name : List ℕ) : Type 0 where
  pub instances : Each (λ r. r.project ≢ name) s.instances
  pub networks : Each (λ r. r.project ≢ name) s.networks
  pub volumes : Each (λ r. r.project ≢ name) s.volumes
  pub profiles : Each (λ r. r.project ≡ name → r.name ≡ default_name) s.profiles
  pub operations : Each (λ o. o.work.project ≢ name) s.operations.live

unlike : (a b : List ℕ) → bytes_eq a b ≡ false → a ≢ b
unlike a b fails e = true≢false (sym (ap (λ x. bytes_eq x b) e ∙ bytes_eq-itself b) ∙ fails)

pub empty-project : (s : State) (name : List ℕ) → is_occupied s name ≡ false → IsEmpty s name
empty-project s name e = record {
  instances =
      Each-map (λ (r : Instance). unlike r.project name)
      (any-none (λ (r : Instance). bytes_eq r.project name) s.instances first.0);
  networks =
      Each-map (λ (r : Network). unlike r.project name)
      (any-none (λ (r : Network). bytes_eq r.project name) s.networks first.1);
  volumes =
      Each-map (λ (r : Volume). unlike r.project name)
      (any-none (λ (r : Volume). bytes_eq r.project name) s.volumes second.1);
  profiles = Each-map (λ (r : Profile). own r (bytes_eq r.name default_name) refl)
      (any-none (λ (r : Profile). bytes_eq r.project name && not (bytes_eq r.name default_name)) s.profiles third.1);
  operations =
      Each-map (λ (o : Operation Task). unlike o.work.project name)
      (any-none (λ (o : Operation Task). bytes_eq o.work.project name) s.operations.live fourth.1);
} where
  guests : Bool
  guests = list_any (λ (r : Instance). bytes_eq r.project name) s.instances

  nets : Bool
  nets = list_any (λ (r : Network). bytes_eq r.project name) s.networks

  vols : Bool
  vols = list_any (λ (r : Volume). bytes_eq r.project name) s.volumes

  owns : Bool
  owns = list_any (λ (r : Profile). bytes_eq r.project name && not (bytes_eq r.name default_name)) s.profiles

  ops : Bool
  ops = list_any (λ (o : Operation Task). bytes_eq o.work.project name) s.operations.live

  fourth : ((guests || nets || vols || owns) ≡ false) × (ops ≡ false)
  fourth = or-none (guests || nets || vols || owns) ops e

  third : ((guests || nets || vols) ≡ false) × (owns ≡ false)
  third = or-none (guests || nets || vols) owns fourth.0

  second : ((guests || nets) ≡ false) × (vols ≡ false)
  second = or-none (guests || nets) vols third.0

  first : (guests ≡ false) × (nets ≡ false)
  first = or-none guests nets second.0

  own : (r : Profile) (b : Bool) → bytes_eq r.name default_name ≡ b → (bytes_eq r.project name && not b) ≡ false
      → r.project ≡ name → r.name ≡ default_name
  own r true is none at = same r.name default_name is
  own r false is none at =
      let here : bytes_eq r.project name ≡ true = ap (λ x. bytes_eq x name) at ∙ bytes_eq-itself name in
      absurd (true≢false (sym (ap (λ b. b && true) here) ∙ none))
