-- A project that is changed keeps the references, whether its features change or not.
use Rattle.std.proofs.Common.{◌≡◌, ◌≢◌, ℕ, Bool, true, false, ◌⊎◌, Some, None, List, [], ◌∷◌, refl, sym, ap, subst, ◌∙◌, inl, inr, true≢false}
use Rattle.std.specs.Prelude.{codes}
use Rattle.std.specs.Option.{option_or, option_and_then}
use Rattle.std.specs.Str.{bytes_eq}
use Rattle.plain_lists.specs.Members.{Mem, Each}
use Rattle.plain_lists.specs.Edits.{dropped}
use Rattle.plain_lists.proofs.FirstLemmas.{none_both}
use Rattle.plain_lists.proofs.Searches.{find-some, find-mem}
use Rattle.plain_lists.proofs.EditLemmas.{Mem-dropped}
use Rattle.config_lists.proofs.Keys.{same, bytes_eq-itself}
use Rattle.size_values.specs.declared.kinds.ObjectKind.TheVariants as kind
use Rattle.option_tables.specs.Checks.{project_fault}
use Rattle.records.specs.declared.rows.Project.{Project}
use Rattle.records.specs.declared.rows.Profile.{Profile}
use Rattle.records.specs.declared.rows.Row.TheVariants as row
use Rattle.row_codec.specs.Spelling.{key_of}
use Rattle.row_machine.specs.declared.changes.RowChange.{RowChange}
use Rattle.row_machine.specs.declared.changes.RowChange.TheVariants as change
use Rattle.row_machine.specs.machine.State.{State}
use Rattle.row_machine.specs.machine.Rows.{default_name, is_project, is_profile, project_named, profile_named, project_names, profile_names, with_project, with_profile, texts_before}
use Rattle.row_machine.specs.machine.Homes.{is_on}
use Rattle.row_machine.specs.machine.Changes.{applied, has_key, rows_put, with_row}
use Rattle.row_machine.specs.machine.NewRows.{default_profile}
use Rattle.row_machine.specs.machine.SettingRules.{settings_broken, row_settings, tables_break, own_default, devices_miss}
use Rattle.row_machine.specs.machine.StandingRules.{feature_keys, changes_features, is_occupied}
use Rattle.row_machine.specs.machine.Plans.{project_change}
use Rattle.row_machine.specs.facts.Whole.{IsWhole, ReferencesExist}
use Rattle.machine_laws.proofs.ExpansionsApart.{AreApart, apart-both, apart-project, apart-profile, apart-no_profile}
use Rattle.machine_laws.proofs.NamesLists.{Mem-replaced}
use Rattle.machine_laws.proofs.NamesRows.{each-row}
use Rattle.machine_laws.proofs.DefaultsFeatures.{features-same, tables-accept}
use Rattle.machine_laws.proofs.DefaultsProjects.{has_profiles}
use Rattle.machine_laws.proofs.DefaultsSwitched.{profile_change, drops-own}
use Rattle.machine_laws.proofs.DefaultsSettled.{first-settled, project-accepted}
use Rattle.machine_laws.proofs.ReferencesFinds.{left-other, other-found}
use Rattle.machine_laws.proofs.ReferencesKeys.{tells-project, tells-profile, keyed-profile}
use Rattle.machine_laws.proofs.ReferencesRows.{project-put}
use Rattle.machine_laws.proofs.ReferencesHomes.{StaysHome, IsAtHome, HasSameHomes, stays-found, stays-changed, at-home, home-at, own-home, home-own}
use Rattle.machine_laws.proofs.ReferencesElsewhere.{with_estate, estate-references, profile-stays, AreElsewhere, elsewhere-references, IsEmpty, empty-project}
use Rattle.machine_laws.proofs.ReferencesProjects.{IsPlacedProfile, distinct_profiles, own_placed, emptied}

-- no feature changes
same_features : (s : State) (old r : Project) → IsWhole s → project_named s.projects old.name ≡ Some old
    → r.name ≡ old.name
    → Each (λ key. is_on r.config key ≡ is_on old.config key) feature_keys
    → ReferencesExist (with_estate s (with_project r s.projects) s.profiles)
same_features s old r h found names features = estate-references s ps s.profiles h (record {
  networks = record { at = λ x m. stays x.project };
  volumes = record { at = λ x m. stays x.project };
  instances = record { at = λ i m. (stays i.project, record { home = (stays i.project).home kind.Profile; profiles = λ name n. refl }) };
  snapshots = record { at = λ x m. stays x.project };
  operations = record { at = λ o m. stays o.work.project };
  profiles = record { at = λ x m. profile-stays s ps s.profiles x h m (stays x.project) };
}) where
  ps : List Project
  ps = with_project r s.projects

  homes : HasSameHomes old r
  homes = record {
    profiles = features.at (codes "features.profiles") (inl refl);
    networks = features.at (codes "features.networks") (inr (inl refl));
    volumes = features.at (codes "features.storage.volumes") (inr (inr (inl refl)));
  }

  stays : (name : List ℕ) → StaysHome s.projects ps name
  stays name = at (bytes_eq name r.name) refl where
    at : (b : Bool) → bytes_eq name r.name ≡ b → StaysHome s.projects ps name
    at true is =
        let name_is : name ≡ r.name = same name r.name is in
        stays-changed s.projects ps name old r (ap (project_named s.projects) (name_is ∙ names) ∙ found)
        (ap (project_named ps) name_is ∙ project-put r s.projects) homes
    at false is = stays-found s.projects ps name
        (other-found project_names (λ y. texts_before (project_names r) (project_names y)) r s.projects (tells-project r.name) (tells-project name)
        (λ e. let name_is : r.name ≡ name = cc in true≢false (sym (ap (λ n. bytes_eq n r.name) (sym name_is) ∙ bytes_eq-itself r.name) ∙ is)))

-- the devices of the profile `default` that a changed project has
own_accepted : (t : State) (r : Project) → row_settings t (row.Project r) ≡ None → own_default t r ≡ None
unfolding row_settings
own_accepted t r e =
    (none_both (own_default t r) None (none_both (tables_break r.config (project_fault r.config) []) (option_or (own_default t r) None) e).1).0

-- the changes of a project whose profiles were, and are now, its own
abbrev changed_by : Project → Bool → Bool → List RowChange
changed_by r was is_so = change.Put (row.Project r) ∷ profile_change r was is_so

-- features change, and nothing is in the project but its profile `default`
other_features : (s : State) (old r : Project) → IsWhole s → project_named s.projects old.name ≡ Some old
    → r.name ≡ old.name
    → is_occupied s old.name ≡ false → old.name ≢ default_name → (was is_so : Bool) → has_profiles old ≡ was
    → has_profiles r ≡ is_so
    → row_settings (applied s (changed_by r was is_so)) (row.Project r) ≡ None
    → ReferencesExist (applied s (changed_by r was is_so))
other_features s old r h found names free differs = at where
  Q : List ℕ → Type 0
  Q name = name ≡ r.name

  empty : IsEmpty s r.name
  empty = empty-project s r.name (ap (is_occupied s) names ∙ free)

  away : AreElsewhere Q s
  away = emptied s r.name empty (λ e. differs (sym names ∙ e))

  ps : List Project
  ps = with_project r s.projects

  put : AreApart Q (λ project name. Q project) s (with_row (row.Project r) s)
  put = apart-project s r refl

  own : Profile
  own = default_profile r.name

  there : Mem old s.projects
  there = (find-some (is_project old.name) s.projects old found).0

  drops : Each (λ y. has_key (key_of (row.Profile own)) (row.Profile y) ≡ true → profile_names y ≡ profile_names own) s.profiles
  drops = drops-own s old r.name h.names there names

  own_names : (y : Profile) → Mem y s.profiles → y.project ≡ r.name → profile_names y ≡ profile_names own
  own_names y m e = λ i. e i ∷ empty.profiles.at y m e i ∷ []

  -- profiles of a project that had none of its own are elsewhere
  without : has_profiles old ≡ false → (y : Profile) → Mem y s.profiles → y.project ≢ r.name
  without off y m e =
      let home = home-at s.projects y.project kind.Profile ((each-row s h.references.homes).profiles.at y m) in
      true≢false
      (sym (home-own s.projects old.name old found differs (subst (λ n. IsAtHome s.projects n kind.Profile) (e ∙ names) home)) ∙ off)

  -- the profile `default` of a project that keeps its own
  kept : has_profiles r ≡ true → own_default (with_estate s ps s.profiles) r ≡ None → (y : Profile) → Mem y s.profiles
      → y.project ≡ r.name
      → IsPlacedProfile (with_estate s ps s.profiles) y
  kept on settled y m e =
      let passes : is_profile r.name default_name y ≡ true = (tells-profile r.name default_name).passes y (own_names y m e) in
      let found_own : profile_named s.profiles r.name default_name ≡ Some y =
      find-mem profile_names (is_profile r.name default_name) y s.profiles (distinct_profiles h)
      (λ x hit. (tells-profile r.name default_name).is x hit ∙ sym (own_names y m e)) m passes in (
        at-home ps y.project kind.Profile
            (subst (λ n. IsAtHome ps n kind.Profile) (sym e) (own-home ps r.name r (project-put r s.projects) on)),
        ap (option_and_then (λ (x : Profile). devices_miss (with_estate s ps s.profiles) x.project x.devices))
            (sym found_own) ∙ settled,
      )

  at : (was is_so : Bool) → has_profiles old ≡ was → has_profiles r ≡ is_so
      → row_settings (applied s (changed_by r was is_so)) (row.Project r) ≡ None
      → ReferencesExist (applied s (changed_by r was is_so))
  at true false on off settled =
      elsewhere-references Q s ps (dropped (λ y. has_key (key_of (row.Profile own)) (row.Profile y)) s.profiles) h away
      (apart-both put (apart-no_profile (with_row (row.Project r) s) (key_of (row.Profile own))
      (record { at = λ y m hit. let same_names : profile_names y ≡ profile_names own = drops.at y m hit in cc })))
      (λ y m. let was = Mem-dropped y _ s.profiles m in
      inl
      (was, λ e. left-other profile_names s.profiles (distinct_profiles h) drops (λ x. keyed-profile own x) y m (own_names y was e)))
  at false true off on settled = elsewhere-references Q s ps (with_profile own s.profiles) h away
      (apart-both put (apart-profile (with_row (row.Project r) s) own refl))
      (λ y m. elim (Mem-replaced (is_profile r.name default_name) (λ x. texts_before (profile_names own) (profile_names x)) own y s.profiles m) [
        | inl e ↦ inr (subst (IsPlacedProfile (with_estate s ps (with_profile own s.profiles))) (sym e)
            (own_placed (with_estate s ps (with_profile own s.profiles)) r r.name (project-put r s.projects) on))
        | inr n ↦ inl (n, without off y n)
      ])
  at true true was on settled =
      elsewhere-references Q s ps s.profiles h away put (λ y m. either y m (bytes_eq y.project r.name) refl) where
        either : (y : Profile) → Mem y s.profiles → (b : Bool) → bytes_eq y.project r.name ≡ b
            → (Mem y s.profiles × (Q y.project → ⊥)) ⊎ IsPlacedProfile (with_estate s ps s.profiles) y
        either y m true is =
            inr (kept on (own_accepted (with_estate s ps s.profiles) r settled) y m (same y.project r.name is))
        either y m false is = inl (m, λ e. true≢false (sym (ap (λ n. bytes_eq n r.name) e ∙ bytes_eq-itself r.name) ∙ is))
  at false false was off settled = elsewhere-references Q s ps s.profiles h away put (λ y m. inl (m, without was y m))

pub project-changed_references : (s : State) (old r : Project) → IsWhole s → project_named s.projects old.name ≡ Some old
    → r.name ≡ old.name
    → (changes_features old r ≡ true → (is_occupied s old.name ≡ false) × (old.name ≢ default_name))
    → settings_broken (applied s (project_change old r)) (rows_put (project_change old r)) ≡ None
    → ReferencesExist (applied s (project_change old r))
project-changed_references s old r h found names free settled = at (changes_features old r) refl where
  accepted : row_settings (applied s (changed_by r (has_profiles old) (has_profiles r))) (row.Project r) ≡ None
  accepted =
      first-settled (applied s (project_change old r)) (row.Project r)
      (rows_put (profile_change r (has_profiles old) (has_profiles r))) settled

  plain : (features : Each (λ key. is_on r.config key ≡ is_on old.config key) feature_keys) (was is_so : Bool)
      → is_so ≡ was → ReferencesExist (applied s (changed_by r was is_so))
  plain features true true e = same_features s old r h found names features
  plain features false false e = same_features s old r h found names features
  plain features true false e = cc
  plain features false true e = cc

  at : (b : Bool) → changes_features old r ≡ b
      → ReferencesExist (applied s (changed_by r (has_profiles old) (has_profiles r)))
  at true changes =
      let none = free changes in
      other_features s old r h found names none.0 none.1 (has_profiles old) (has_profiles r) refl refl accepted
  at false stays =
      let features = features-same old r stays (tables-accept r (project-accepted (applied s (project_change old r)) r accepted)) in
      plain features (has_profiles old) (has_profiles r) (features.at (codes "features.profiles") (inl refl))
