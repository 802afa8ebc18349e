-- Changes of profiles keep the references.
use Rattle.std.proofs.Common.{◌≡◌, ℕ, Bool, true, false, ◌⊎◌, Some, None, List, [], ◌∷◌, refl, sym, subst, inl, inr}
use Rattle.std.specs.List.{list_any}
use Rattle.std.specs.Option.{option_or, option_to_list}
use Rattle.plain_lists.specs.Members.{Mem, Each}
use Rattle.plain_lists.specs.Edits.{dropped}
use Rattle.plain_lists.specs.Firsts.{first_of}
use Rattle.plain_lists.proofs.Elements.{Each-map, Each-append, Mem-left}
use Rattle.plain_lists.proofs.FirstLemmas.{none_both, told_if, first_of-none}
use Rattle.plain_lists.proofs.Readings.{Mem-from_read}
use Rattle.plain_lists.proofs.Searches.{any-none, find-some, find-none}
use Rattle.plain_lists.proofs.EditLemmas.{Each-dropped}
use Rattle.size_values.specs.declared.kinds.ObjectKind.TheVariants as kind
use Rattle.option_tables.specs.Checks.{instance_fault}
use Rattle.option_tables.specs.declared.tables.Scope.TheVariants as scope
use Rattle.operations.specs.declared.operation.Operation.{Operation}
use Rattle.records.specs.declared.rows.Profile.{Profile}
use Rattle.records.specs.declared.rows.Instance.{Instance}
use Rattle.records.specs.declared.rows.Row.TheVariants as row
use Rattle.row_codec.specs.Spelling.{key_of}
use Rattle.row_machine.specs.machine.Task.{Task}
use Rattle.row_machine.specs.machine.State.{State}
use Rattle.row_machine.specs.machine.Rows.{is_profile, profile_named, with_profile}
use Rattle.row_machine.specs.machine.Expansions.{expanded_of}
use Rattle.row_machine.specs.machine.Claims.{claimed_instance, judged_instances, project_of_row, replaced_instance}
use Rattle.row_machine.specs.machine.Changes.{applied, has_key, removal, without_row}
use Rattle.row_machine.specs.shown.Urls.{target_of, url_of}
use Rattle.row_machine.specs.machine.Holders.{names_profile, claim_rows, holder_of, first_user_of, user_url}
use Rattle.row_machine.specs.machine.SettingRules.{tables_break, scope_of, root_missing, profile_missing, devices_miss, instance_settings, profile_settings, row_settings, naming}
use Rattle.row_machine.specs.machine.Plans.{moved_row}
use Rattle.row_machine.specs.opening.Opening.{home_missing}
use Rattle.row_machine.specs.facts.Whole.{IsWhole, HasReferences, ReferencesExist}
use Rattle.machine_laws.proofs.Cases.{IsHome}
use Rattle.machine_laws.proofs.Expansions.{home_in, IsAlike}
use Rattle.machine_laws.proofs.ExpansionsApart.{AreApart, apart-both, apart-profile, apart-no_profile, apart-alike, not-named}
use Rattle.machine_laws.proofs.NamesRows.{EachRow, each-row, rows-each}
use Rattle.machine_laws.proofs.ReferencesHomes.{at-home, stays-found}
use Rattle.machine_laws.proofs.ReferencesDevices.{serves-all, refers-stays}
use Rattle.machine_laws.proofs.ReferencesPlaces.{Leaves, placed-stays}
use Rattle.machine_laws.proofs.ReferencesKeys.{drops-profile}
use Rattle.machine_laws.proofs.ReferencesRows.{profile-each}
use Rattle.machine_laws.proofs.ReferencesStores.{is-home}
use Rattle.machine_laws.proofs.ReferencesUnused.{Mem-filter}

-- ---- what the rules on settings say

pub instance-accepted : (t : State) (i : Instance) → instance_settings t i ≡ None
    → (profile_missing t i ≡ None) × (devices_miss t i.project (expanded_of t.projects t.profiles i).devices ≡ None)
unfolding instance_settings
instance-accepted t i e =
    let after_tables = none_both (tables_break i.config (instance_fault i.config (scope_of i.kind)) i.devices)
    (option_or (root_missing t i) (option_or (profile_missing t i) (option_or (devices_miss t i.project (expanded_of t.projects t.profiles i).devices) None)))
    e in
    let after_root = none_both (root_missing t i) (option_or (profile_missing t i) (option_or (devices_miss t i.project (expanded_of t.projects t.profiles i).devices) None)) after_tables.1 in
    let after_profiles = none_both (profile_missing t i) (option_or (devices_miss t i.project (expanded_of t.projects t.profiles i).devices) None) after_root.1 in
    (after_profiles.0, (none_both (devices_miss t i.project (expanded_of t.projects t.profiles i).devices) None after_profiles.1).0)

profile_accepted : (t : State) (r : Profile) → profile_settings t r ≡ None → devices_miss t r.project r.devices ≡ None
unfolding profile_settings
profile_accepted t r e =
    (none_both (devices_miss t r.project r.devices) None
    (none_both (tables_break r.config (instance_fault r.config scope.Any) r.devices) (option_or (devices_miss t r.project r.devices) None) e).1).0

-- a profile and each instance that names it
pub profile-row_accepted : (t : State) (r : Profile) → row_settings t (row.Profile r) ≡ None
    → (devices_miss t r.project r.devices ≡ None) × Each (λ i. instance_settings t i ≡ None) (naming t r)
unfolding row_settings
profile-row_accepted t r e =
    let parts = none_both (profile_settings t r) (option_or (first_of (instance_settings t) (naming t r)) None) e in
    (profile_accepted t r parts.0, first_of-none (instance_settings t) (naming t r) (none_both (first_of (instance_settings t) (naming t r)) None parts.1).0)

-- ---- other profiles

-- the profiles are others, at home and with all that they name; each instance has the profiles that it had, or is judged anew
record AreEnough (s : State) (rs : List Profile) : Type 0 where
  homes : Each (λ r. home_missing s (row.Profile r) ≡ None) rs
  devices : Each (λ r. devices_miss s r.project r.devices ≡ None) rs
  instances : Each (λ i. IsAlike s (record s { profiles = rs }) i ⊎ (instance_settings (record s { profiles = rs }) i ≡ None)) (judged_instances s)

profiles_references : (s : State) (rs : List Profile) → IsWhole s → AreEnough s rs → ReferencesExist (record s { profiles = rs })
unfolding judged_instances devices_miss
profiles_references s rs h enough = record {
  homes = rows-each t (record {
    projects = rows.projects;
    profiles = enough.homes;
    networks = rows.networks;
    pools = rows.pools;
    volumes = rows.volumes;
    instances = rows.instances;
    snapshots = rows.snapshots;
  });
  volumes = h.references.volumes;
  snapshots = h.references.snapshots;
  snapshot_profiles = h.references.snapshot_profiles;
  profiles = enough.devices;
  instances = record { at = λ i m. refers i (h.references.instances.at i m) (enough.instances.at i m) };
  operations = record { at = λ o m. placed-stays (h.operations.deeds.at o m) (leaves o) (h.references.operations.at o m) };
} where
  t : State
  t = record s { profiles = rs }

  rows : EachRow (λ r. home_missing s r ≡ None) s
  rows = each-row s h.references.homes

  leaves : (o : Operation Task) → Leaves s t o.work
  leaves o = record {
    project = stays-found s.projects s.projects o.work.project refl;
    instances = λ name busy there. refl;
    snapshots = λ instance name busy there. there;
    volumes = λ of is same there. there;
    pools = λ v is there. there;
  }

  refers : (i : Instance) → HasReferences s i → IsAlike s t i ⊎ (instance_settings t i ≡ None) → HasReferences t i
  refers i was (inl alike) = refers-stays alike
      (serves-all s t i.project (expanded_of s.projects s.profiles i).devices (stays-found s.projects s.projects i.project refl)
      (λ home name there. there) (λ name there. there) (λ home pool name there. there))
      was
  refers i was (inr settled) = let parts = instance-accepted t i settled in record { few = was.few; profiles = parts.0; devices = parts.1 }

-- ---- which instances name a profile

-- the two names
abbrev IsNamed : Profile → List ℕ → List ℕ → Type 0
IsNamed r project name = (project ≡ r.project) × (name ≡ r.name)

either_named : (s : State) (i : Instance) (r : Profile) (P : Type 0)
    → (names_profile s r.project r.name i ≡ true → P)
    → (((name : List ℕ) → Mem name i.profiles → IsNamed r (home_in s i) name → ⊥) → P) → P
either_named s i r P named not_named = at (names_profile s r.project r.name i) refl where
  at : (b : Bool) → names_profile s r.project r.name i ≡ b → P
  at true is = named is
  at false is = not_named (not-named s r.project r.name i is)

-- what no instance names and no claim holds, no instance that there is or would be names
unnamed : (s : State) (old : Profile) → first_user_of s old.project (target_of (row.Profile old)) ≡ None
    → holder_of s old.project old.name ≡ None
    → Each (λ i. names_profile s old.project old.name i ≡ false) (judged_instances s)
unfolding first_user_of holder_of judged_instances
unnamed s old used held = Each-append
    (Each-map (λ i none. told_if (names_profile s old.project old.name i) (url_of (project_of_row (row.Instance i)) (target_of (row.Instance i))) none)
    (first_of-none (λ (i : Instance). user_url (names_profile s old.project old.name i) (row.Instance i)) s.instances used))
    (record { at = λ i m. claimed i (Mem-from_read (λ (o : Operation Task). claimed_instance o.work) i s.operations.live m) })
  where
    claimed : (i : Instance) → (o : Operation Task) × (Mem o s.operations.live × (claimed_instance o.work ≡ Some i))
        → names_profile s old.project old.name i ≡ false
    claimed i found =
        let task = found.0.work in
        let none = (find-none (λ (o : Operation Task). list_any (names_profile s old.project old.name) (claim_rows s o.work)) s.operations.live held).at found.0 found.1.0 in
        (any-none (names_profile s old.project old.name) (claim_rows s task) none).at i
        (Mem-left i (option_to_list (claimed_instance task)) (option_to_list (replaced_instance s task))
        (subst (λ c. Mem i (option_to_list c)) (sym found.1.1) (inl refl)))

-- ---- the changes

pub profile-home : (s : State) (r : Profile) (home : List ℕ) → IsHome s home kind.Profile → r.project ≡ home
    → home_missing s (row.Profile r) ≡ None
profile-home s r home is same =
    at-home s.projects r.project kind.Profile
    (is-home s r.project kind.Profile (subst (λ p. IsHome s p kind.Profile) (sym same) is))

-- devices are judged by what profiles do not tell
devices_same : (s : State) (rs : List Profile) (r : Profile)
    → devices_miss (record s { profiles = rs }) r.project r.devices ≡ None → devices_miss s r.project r.devices ≡ None
unfolding devices_miss
devices_same s rs r e = e

-- an instance that names a profile is judged with it
judged_anew : (s : State) (rs : List Profile) (r : Profile) (i : Instance)
    → Each (λ x. instance_settings (record s { profiles = rs }) x ≡ None) (naming (record s { profiles = rs }) r)
    → Mem i (judged_instances s) → names_profile s r.project r.name i ≡ true
    → instance_settings (record s { profiles = rs }) i ≡ None
unfolding judged_instances
judged_anew s rs r i settled m named =
    settled.at i (Mem-filter (names_profile s r.project r.name) i (judged_instances s) m named)

-- A profile is put, and each instance that names it is judged.
pub profile-put_references : (s : State) (r : Profile) → IsWhole s → home_missing s (row.Profile r) ≡ None
    → row_settings (record s { profiles = with_profile r s.profiles }) (row.Profile r) ≡ None
    → ReferencesExist (record s { profiles = with_profile r s.profiles })
profile-put_references s r h home settled = profiles_references s (with_profile r s.profiles) h (record {
  homes = profile-each _ r s.profiles home (each-row s h.references.homes).profiles;
  devices = profile-each _ r s.profiles (devices_same s (with_profile r s.profiles) r accepted.0) h.references.profiles;
  instances = record {
    at = λ i m. either_named s i r (IsAlike s t i ⊎ (instance_settings t i ≡ None))
        (λ named. inr (judged_anew s (with_profile r s.profiles) r i accepted.1 m named))
        (λ none. inl (apart-alike i apart (λ never. never) none));
  };
}) where
  t : State
  t = record s { profiles = with_profile r s.profiles }

  apart : AreApart (λ name. ⊥) (IsNamed r) s t
  apart = apart-profile s r (refl, refl)

  accepted : (devices_miss t r.project r.devices ≡ None) × Each (λ i. instance_settings t i ≡ None) (naming t r)
  accepted = profile-row_accepted t r settled

-- the key of a profile drops that profile alone
dropped_apart : (s : State) (old : Profile) → IsWhole s → profile_named s.profiles old.project old.name ≡ Some old
    → AreApart (λ name. ⊥) (IsNamed old) s (without_row kind.Profile (key_of (row.Profile old)) s)
dropped_apart s old h found = apart-no_profile s (key_of (row.Profile old)) (record {
  at = λ y m hit.
      let names = (drops-profile old h.names (find-some (is_profile old.project old.name) s.profiles old found).0).at y m hit in (cc, cc);
})

-- A profile that nothing names goes.
pub profile-removed_references : (s : State) (old : Profile) → IsWhole s
    → profile_named s.profiles old.project old.name ≡ Some old
    → first_user_of s old.project (target_of (row.Profile old)) ≡ None → holder_of s old.project old.name ≡ None
    → ReferencesExist (applied s (removal (row.Profile old) ∷ []))
profile-removed_references s old h found used held = profiles_references s _ h (record {
  homes = Each-dropped _ (each-row s h.references.homes).profiles;
  devices = Each-dropped _ h.references.profiles;
  instances =
      Each-map
      (λ i none. inl (apart-alike i (dropped_apart s old h found) (λ never. never) (not-named s old.project old.name i none)))
      (unnamed s old used held);
})

-- A profile that nothing names gets another name, and each instance that names that one is judged.
pub profile-moved_references : (s : State) (old : Profile) (to : List ℕ) → IsWhole s → IsHome s old.project kind.Profile
    → profile_named s.profiles old.project old.name ≡ Some old
    → first_user_of s old.project (target_of (row.Profile old)) ≡ None → holder_of s old.project old.name ≡ None
    → row_settings (applied s (moved_row (row.Profile old) (row.Profile (record old { name = to })))) (row.Profile (record old { name = to })) ≡ None
    → ReferencesExist (applied s (moved_row (row.Profile old) (row.Profile (record old { name = to }))))
profile-moved_references s old to h is found used held settled = profiles_references s (with_profile new rest) h (record {
  homes =
      profile-each _ new rest (profile-home s new old.project is refl)
      (Each-dropped _ (each-row s h.references.homes).profiles);
  devices =
      profile-each _ new rest (devices_same s (with_profile new rest) new accepted.0)
      (Each-dropped _ h.references.profiles);
  instances = record {
    at = λ i m. either_named s i new (IsAlike s t i ⊎ (instance_settings t i ≡ None))
        (λ named. inr (judged_anew s (with_profile new rest) new i accepted.1 m named))
        (λ none. inl (apart-alike i apart (λ never. never) (λ name n hit. elim hit [
          | inl was ↦ not-named s old.project old.name i ((unnamed s old used held).at i m) name n was
          | inr now ↦ none name n now
        ])));
  };
}) where
  new : Profile
  new = record old { name = to }

  rest : List Profile
  rest = dropped (λ y. has_key (key_of (row.Profile old)) (row.Profile y)) s.profiles

  t : State
  t = record s { profiles = with_profile new rest }

  accepted : (devices_miss t new.project new.devices ≡ None) × Each (λ i. instance_settings t i ≡ None) (naming t new)
  accepted = profile-row_accepted t new settled

  apart : AreApart (λ name. ⊥) (λ project name. IsNamed old project name ⊎ IsNamed new project name) s t
  apart = apart-both
      (apart-no_profile s (key_of (row.Profile old)) (record {
        at = λ y m hit.
            let names = (drops-profile old h.names (find-some (is_profile old.project old.name) s.profiles old found).0).at y m hit in inl (cc, cc);
      }))
      (apart-profile (without_row kind.Profile (key_of (row.Profile old)) s) new (inr (refl, refl)))
