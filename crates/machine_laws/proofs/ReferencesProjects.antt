-- A project that is made, renamed or removed keeps the references.
use Rattle.std.proofs.Common.{◌≡◌, ◌≢◌, ℕ, Bool, true, false, cond, ◌⊎◌, Option, Some, None, List, [], ◌∷◌, ◌++◌, map, refl, sym, ap, subst, ◌∙◌, inl, inr, true≢false}
use Rattle.std.specs.Option.{option_map, option_map_or, option_to_list, is_some}
use Rattle.plain_lists.specs.Members.{Mem, Each, Distinct}
use Rattle.plain_lists.specs.Edits.{dropped}
use Rattle.plain_lists.proofs.Elements.{Each-map}
use Rattle.plain_lists.proofs.FirstLemmas.{none_both}
use Rattle.plain_lists.proofs.Searches.{find-some, find-none}
use Rattle.plain_lists.proofs.EditLemmas.{Mem-dropped}
use Rattle.size_values.specs.declared.kinds.ObjectKind.TheVariants as kind
use Rattle.records.specs.declared.rows.Project.{Project}
use Rattle.records.specs.declared.rows.Profile.{Profile}
use Rattle.records.specs.declared.rows.Row.{Row}
use Rattle.records.specs.declared.rows.Row.TheVariants as row
use Rattle.row_codec.specs.Spelling.{key_of}
use Rattle.row_machine.specs.declared.changes.RowChange.{RowChange}
use Rattle.row_machine.specs.machine.State.{State}
use Rattle.row_machine.specs.machine.Rows.{default_name, is_profile, project_named, profile_names, with_project, with_profile, texts_before}
use Rattle.row_machine.specs.machine.Changes.{applied, has_key, removal, rows_put, with_row, without_row}
use Rattle.row_machine.specs.machine.NewRows.{default_profile}
use Rattle.row_machine.specs.machine.SettingRules.{settings_broken, row_settings, devices_miss}
use Rattle.row_machine.specs.machine.StandingRules.{is_occupied}
use Rattle.row_machine.specs.machine.Plans.{put_all, moved_row, project_creation, project_rename, project_deletion, own_profile}
use Rattle.row_machine.specs.opening.Opening.{home_missing, has_all_features}
use Rattle.row_machine.specs.facts.Whole.{IsWhole, ReferencesExist}
use Rattle.machine_laws.proofs.Found.{profile-found}
use Rattle.machine_laws.proofs.ExpansionsApart.{AreApart, apart-both, apart-project, apart-profile, apart-no_project, apart-no_profile}
use Rattle.machine_laws.proofs.NamesLists.{Mem-replaced}
use Rattle.machine_laws.proofs.NamesRise.{Rise-Distinct}
use Rattle.machine_laws.proofs.NamesRows.{EachRow, each-row}
use Rattle.machine_laws.proofs.DefaultsProjects.{has_profiles}
use Rattle.machine_laws.proofs.ReferencesFinds.{left-other}
use Rattle.machine_laws.proofs.ReferencesKeys.{tells-profile, drops-profile, keyed-profile}
use Rattle.machine_laws.proofs.ReferencesRows.{project-put}
use Rattle.machine_laws.proofs.ReferencesHomes.{IsAtHome, at-home, home-at, own-home, home-own}
use Rattle.machine_laws.proofs.ReferencesProfiles.{profile-row_accepted}
use Rattle.machine_laws.proofs.ReferencesElsewhere.{with_estate, AreElsewhere, elsewhere-references, IsEmpty, empty-project}

-- what a profile of a state that comes needs
abbrev pub IsPlacedProfile : State → Profile → Type 0
IsPlacedProfile t r = (home_missing t (row.Profile r) ≡ None) × (devices_miss t r.project r.devices ≡ None)

pub distinct_profiles : {s : State} → IsWhole s → Distinct profile_names s.profiles
distinct_profiles {s} h = Rise-Distinct profile_names s.profiles h.names.profiles

-- the project `default` is there
default_there : (o : Option Project) → option_map has_all_features o ≡ Some true → is_some o ≡ true
default_there None e = cc
default_there (Some p) e = refl

-- each row and each operation is in a project that is there
rows_there : (s : State) (Q : List ℕ → Type 0) → IsWhole s → ((name : List ℕ) → is_some (project_named s.projects name) ≡ true → Q name → ⊥) → AreElsewhere Q s
rows_there s Q h never = record {
  networks =
      Each-map (λ r home. never r.project (home-at s.projects r.project kind.Network home).there) rows.networks;
  volumes = Each-map (λ r home. never r.project (home-at s.projects r.project kind.Volume home).there) rows.volumes;
  instances =
      Each-map (λ r home. never r.project (home-at s.projects r.project kind.Instance home).there) rows.instances;
  operations = Each-map (λ o placed. never o.work.project placed.project) h.references.operations;
  default = never default_name (default_there (project_named s.projects default_name) h.defaults.project);
} where
  rows : EachRow (λ r. home_missing s r ≡ None) s
  rows = each-row s h.references.homes

profile_there : (s : State) → IsWhole s → Each (λ r. is_some (project_named s.projects r.project) ≡ true) s.profiles
profile_there s h =
    Each-map (λ r home. (home-at s.projects r.project kind.Profile home).there) (each-row s h.references.homes).profiles

not_fresh : (s : State) (fresh : List ℕ) → project_named s.projects fresh ≡ None → (name : List ℕ)
    → is_some (project_named s.projects name) ≡ true → name ≡ fresh → ⊥
not_fresh s fresh none name there e =
    true≢false (sym there ∙ ap (λ n. is_some (project_named s.projects n)) e ∙ ap is_some none)

-- a profile without devices, of a project that has profiles of its own
pub own_placed : (t : State) (r : Project) (name : List ℕ) → project_named t.projects name ≡ Some r
    → has_profiles r ≡ true → IsPlacedProfile t (default_profile name)
unfolding devices_miss
own_placed t r name found on = (at-home t.projects name kind.Profile (own-home t.projects name r found on), refl)

-- ---- a new project

pub project-made_references : (s : State) (r : Project) → IsWhole s → project_named s.projects r.name ≡ None
    → ReferencesExist (applied s (project_creation r))
project-made_references s r h fresh = at (has_profiles r) refl where
  Q : List ℕ → Type 0
  Q name = name ≡ r.name

  away : AreElsewhere Q s
  away = rows_there s Q h (not_fresh s r.name fresh)

  old : (y : Profile) → Mem y s.profiles → Q y.project → ⊥
  old y m = not_fresh s r.name fresh y.project ((profile_there s h).at y m)

  put : AreApart Q (λ project name. Q project) s (with_row (row.Project r) s)
  put = apart-project s r refl

  at : (b : Bool) → has_profiles r ≡ b
      → ReferencesExist (applied s (cond b (put_all (row.Project r ∷ row.Profile (default_profile r.name) ∷ [])) (put_all (row.Project r ∷ []))))
  at true on =
      elsewhere-references Q s (with_project r s.projects) (with_profile (default_profile r.name) s.profiles) h away
      (apart-both put (apart-profile (with_row (row.Project r) s) (default_profile r.name) refl))
      (λ y m. elim (Mem-replaced (is_profile r.name default_name) (λ x. texts_before (profile_names (default_profile r.name)) (profile_names x)) (default_profile r.name) y s.profiles m) [
        | inl e ↦ inr (subst (IsPlacedProfile (with_estate s (with_project r s.projects) (with_profile (default_profile r.name) s.profiles))) (sym e)
            (own_placed (with_estate s (with_project r s.projects) (with_profile (default_profile r.name) s.profiles)) r r.name (project-put r s.projects) on))
        | inr n ↦ inl (n, old y n)
      ])
  at false off = elsewhere-references Q s (with_project r s.projects) s.profiles h away put (λ y m. inl (m, old y m))

-- ---- a project that is removed or gets another name

-- the profiles without the project's own
abbrev without_own : State → Option Profile → List Profile
without_own s None = s.profiles
without_own s (Some p) = dropped (λ y. has_key (key_of (row.Profile p)) (row.Profile y)) s.profiles

-- are of other projects
left_elsewhere : (s : State) (old : Project) → IsWhole s → IsEmpty s old.name → (o : Option Profile) → own_profile s old ≡ o
    → (y : Profile) → Mem y (without_own s o) → y.project ≢ old.name
left_elsewhere s old h empty None is y m e =
    let passes : is_profile old.name default_name y ≡ true = (tells-profile old.name default_name).passes y (λ i. e i ∷ empty.profiles.at y m e i ∷ []) in
    true≢false (sym passes ∙ (find-none (is_profile old.name default_name) s.profiles is).at y m)
left_elsewhere s old h empty (Some p) is y m e =
    let names = profile-found s.profiles old.name default_name p is in
    let there = (find-some (is_profile old.name default_name) s.profiles p is).0 in
    let was = Mem-dropped y _ s.profiles m in
    left-other profile_names s.profiles (distinct_profiles h) (drops-profile p h.names there) (λ x. keyed-profile p x)
    y m
    (λ i. (e ∙ sym names.0) i ∷ (empty.profiles.at y was e ∙ sym names.1) i ∷ [])

pub emptied : (s : State) (name : List ℕ) → IsEmpty s name → name ≢ default_name → AreElsewhere (λ n. n ≡ name) s
emptied s name empty differs = record {
  networks = empty.networks;
  volumes = empty.volumes;
  instances = empty.instances;
  operations = empty.operations;
  default = λ e. differs (sym e);
}

own_dropped : (Q : List ℕ → Type 0) (s : State) (old : Project) (p : Profile) → IsWhole s → own_profile s old ≡ Some p
    → Q old.name
    → Each (λ y. has_key (key_of (row.Profile p)) (row.Profile y) ≡ true → Q y.project) s.profiles
own_dropped Q s old p h is touched = record {
  at = λ y m hit.
      let names = profile-found s.profiles old.name default_name p is in
      let there = (find-some (is_profile old.name default_name) s.profiles p is).0 in
      let same_names : profile_names y ≡ profile_names p = (drops-profile p h.names there).at y m hit in
      let project : y.project ≡ p.project = cc in
      subst Q (sym (project ∙ names.0)) touched;
}

pub project-removed_references : (s : State) (old : Project) → IsWhole s → project_named s.projects old.name ≡ Some old
    → old.name ≢ default_name
    → is_occupied s old.name ≡ false → ReferencesExist (applied s (project_deletion s old))
project-removed_references s old h found differs free = at (own_profile s old) refl where
  Q : List ℕ → Type 0
  Q name = name ≡ old.name

  empty : IsEmpty s old.name
  empty = empty-project s old.name free

  gone : AreApart Q (λ project name. Q project) s (without_row kind.Project old.name s)
  gone = apart-no_project s old.name refl

  at : (o : Option Profile) → own_profile s old ≡ o
      → ReferencesExist (applied s (map removal (row.Project old ∷ map row.Profile (option_to_list o))))
  at None is =
      elsewhere-references Q s (dropped (λ y. has_key old.name (row.Project y)) s.projects) s.profiles h
      (emptied s old.name empty differs) gone
      (λ y m. inl (m, left_elsewhere s old h empty None is y m))
  at (Some p) is =
      elsewhere-references Q s (dropped (λ y. has_key old.name (row.Project y)) s.projects) (without_own s (Some p)) h
      (emptied s old.name empty differs)
      (apart-both gone (apart-no_profile (without_row kind.Project old.name s) (key_of (row.Profile p)) (own_dropped Q s old p h is refl)))
      (λ y m. inl (Mem-dropped y _ s.profiles m, left_elsewhere s old h empty (Some p) is y m))

-- ---- a project gets another name

-- the second row that is put keeps the rules on settings
second_settled : (t : State) (a b : Row) (rows : List Row) → settings_broken t (a ∷ b ∷ rows) ≡ None
    → row_settings t b ≡ None
unfolding settings_broken
second_settled t a b rows e = (none_both (row_settings t b) _ (none_both (row_settings t a) _ e).1).0

-- the project's own profile under the new name
abbrev own_moved : List ℕ → Option Profile → List RowChange
own_moved to o = option_map_or (λ p. moved_row (row.Profile p) (row.Profile (record p { project = to }))) o []

pub project-moved_references : (s : State) (old : Project) (to : List ℕ) → IsWhole s
    → project_named s.projects old.name ≡ Some old → old.name ≢ default_name
    → is_occupied s old.name ≡ false → project_named s.projects to ≡ None
    → settings_broken (applied s (project_rename s to old)) (rows_put (project_rename s to old)) ≡ None
    → ReferencesExist (applied s (project_rename s to old))
project-moved_references s old to h found differs free fresh settled = at (own_profile s old) refl settled where
  Q : List ℕ → Type 0
  Q name = (name ≡ old.name) ⊎ (name ≡ to)

  empty : IsEmpty s old.name
  empty = empty-project s old.name free

  news : AreElsewhere (λ name. name ≡ to) s
  news = rows_there s (λ name. name ≡ to) h (not_fresh s to fresh)

  neither : (name : List ℕ) → name ≢ old.name → (name ≡ to → ⊥) → Q name → ⊥
  neither name not_old not_new (inl e) = not_old e
  neither name not_old not_new (inr e) = not_new e

  away : AreElsewhere Q s
  away = record {
    networks = record { at = λ r m. neither r.project (empty.networks.at r m) (news.networks.at r m) };
    volumes = record { at = λ r m. neither r.project (empty.volumes.at r m) (news.volumes.at r m) };
    instances = record { at = λ r m. neither r.project (empty.instances.at r m) (news.instances.at r m) };
    operations = record { at = λ o m. neither o.work.project (empty.operations.at o m) (news.operations.at o m) };
    default = neither default_name (λ e. differs (sym e)) news.default;
  }

  new : Project
  new = record old { name = to }

  rest : State
  rest = without_row kind.Project old.name s

  moved : AreApart Q (λ project name. Q project) s (with_row (row.Project new) rest)
  moved = apart-both (apart-no_project s old.name (inl refl)) (apart-project rest new (inr refl))

  others : (o : Option Profile) → own_profile s old ≡ o → (y : Profile) → Mem y (without_own s o) → Mem y s.profiles
      → Q y.project → ⊥
  others o is y m was =
      neither y.project (left_elsewhere s old h empty o is y m)
      (not_fresh s to fresh y.project ((profile_there s h).at y was))

  projects : List Project
  projects = with_project new (dropped (λ y. has_key old.name (row.Project y)) s.projects)

  -- a project with a profile of its own has profiles of its own
  on : (p : Profile) → own_profile s old ≡ Some p → has_profiles old ≡ true
  on p is =
      let names = profile-found s.profiles old.name default_name p is in
      let there = (find-some (is_profile old.name default_name) s.profiles p is).0 in
      let home = home-at s.projects p.project kind.Profile ((each-row s h.references.homes).profiles.at p there) in
      home-own s.projects old.name old found differs (subst (λ n. IsAtHome s.projects n kind.Profile) names.0 home)

  at : (o : Option Profile) → own_profile s old ≡ o
      → settings_broken (applied s (moved_row (row.Project old) (row.Project new) ++ own_moved to o)) (rows_put (moved_row (row.Project old) (row.Project new) ++ own_moved to o)) ≡ None
      → ReferencesExist (applied s (moved_row (row.Project old) (row.Project new) ++ own_moved to o))
  at None is settled = elsewhere-references Q s projects s.profiles h away moved (λ y m. inl (m, others None is y m m))
  at (Some p) is settled = elsewhere-references Q s projects profiles h away
      (apart-both (apart-both moved (apart-no_profile (with_row (row.Project new) rest) (key_of (row.Profile p)) (own_dropped Q s old p h is (inl refl))))
      (apart-profile (without_row kind.Profile (key_of (row.Profile p)) (with_row (row.Project new) rest)) own (inr refl)))
      (λ y m. elim (Mem-replaced (is_profile to p.name) (λ x. texts_before (profile_names own) (profile_names x)) own y (without_own s (Some p)) m) [
        | inl e ↦ inr (subst (IsPlacedProfile (with_estate s projects profiles)) (sym e) (
          at-home projects to kind.Profile
              (own-home projects to new (project-put new (dropped (λ x. has_key old.name (row.Project x)) s.projects)) (on p is)),
          (profile-row_accepted (with_estate s projects profiles) own (second_settled (with_estate s projects profiles) (row.Project new) (row.Profile own) [] settled)).0,
        ))
        | inr n ↦ let was = Mem-dropped y _ s.profiles n in inl (was, others (Some p) is y n was)
      ])
    where
      own : Profile
      own = record p { project = to }

      profiles : List Profile
      profiles = with_profile own (without_own s (Some p))
