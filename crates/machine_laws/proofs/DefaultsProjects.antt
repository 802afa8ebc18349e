-- The defaults where a profile is put or goes, and where a project is made, renamed or removed.
use Rattle.std.proofs.Common.{◌≡◌, ◌≢◌, ℕ, Bool, true, false, cond, Option, Some, None, List, [], ◌∷◌, ◌++◌, map, ◌⊎◌, refl, sym, ap, subst, ◌∙◌, inl, inr, true≢false}
use Rattle.std.specs.Prelude.{codes}
use Rattle.std.specs.Option.{option_map, option_map_or, option_to_list, is_some}
use Rattle.plain_lists.specs.Members.{Mem, Each, Distinct}
use Rattle.plain_lists.specs.Edits.{dropped}
use Rattle.plain_lists.proofs.Elements.{Each-map}
use Rattle.plain_lists.proofs.Searches.{find-some}
use Rattle.plain_lists.proofs.EditLemmas.{find-put, Mem-dropped, Distinct-dropped}
use Rattle.records.specs.declared.rows.Project.{Project}
use Rattle.records.specs.declared.rows.Profile.{Profile}
use Rattle.records.specs.declared.rows.Row.TheVariants as row
use Rattle.row_codec.specs.Spelling.{key_of}
use Rattle.row_machine.specs.machine.State.{State}
use Rattle.row_machine.specs.machine.Rows.{default_name, is_project, is_profile, project_named, profile_named, project_names, profile_names, with_project, with_profile, texts_before}
use Rattle.row_machine.specs.machine.Homes.{is_on}
use Rattle.row_machine.specs.machine.Changes.{applied, has_key, removal}
use Rattle.row_machine.specs.machine.NewRows.{default_profile}
use Rattle.row_machine.specs.machine.Plans.{put_all, moved_row, project_creation, project_rename, project_deletion, own_profile}
use Rattle.row_machine.specs.opening.Opening.{has_all_features}
use Rattle.row_machine.specs.facts.Whole.{IsWhole, AreNamed, HasDefaults}
use Rattle.machine_laws.proofs.NamesRise.{Rise-Distinct}
use Rattle.machine_laws.proofs.Found.{profile-found}
use Rattle.machine_laws.proofs.ReferencesFinds.{still-there, other-found, other-undropped, left-other, after-put}
use Rattle.machine_laws.proofs.ReferencesKeys.{tells-project, tells-profile, keyed-project, drops-project, drops-profile}

-- whether a project has profiles of its own
abbrev pub has_profiles : Project → Bool
has_profiles p = is_on p.config (codes "features.profiles")

-- a profile `default` of a project's own
abbrev pub own_there : List Profile → List ℕ → Type 0
own_there rs project = is_some (profile_named rs project default_name) ≡ true

-- ---- profiles alone

-- a profile stays there where one is put
pub profile-still : (r : Profile) (rs : List Profile) (project name : List ℕ)
    → is_some (profile_named rs project name) ≡ true
    → is_some (profile_named (with_profile r rs) project name) ≡ true
profile-still r rs project name there =
    still-there profile_names (λ y. texts_before (profile_names r) (profile_names y)) r rs
    (tells-profile r.project r.name) (tells-profile project name) there

-- the profile that was put is there
pub profile-put : (r : Profile) (rs : List Profile) → profile_named (with_profile r rs) r.project r.name ≡ Some r
profile-put r rs =
    find-put (is_profile r.project r.name) (λ y. texts_before (profile_names r) (profile_names y)) r rs
    ((tells-profile r.project r.name).passes r refl)

-- another profile stays found where one is removed
pub profile-unremoved : {s : State} (x : Profile) (project name : List ℕ) → AreNamed s → Mem x s.profiles
    → profile_names x ≢ project ∷ name ∷ []
    → profile_named (dropped (λ y. has_key (key_of (row.Profile x)) (row.Profile y)) s.profiles) project name ≡ profile_named s.profiles project name
profile-unremoved {s} x project name h there other =
    other-undropped profile_names s.profiles (drops-profile x h there) (tells-profile project name) other

other_name : (x : Profile) (project : List ℕ) → x.name ≢ default_name → profile_names x ≢ project ∷ default_name ∷ []
other_name x project differs e = differs cc

pub other_project : (x : Profile) (project name : List ℕ) → x.project ≢ project
    → profile_names x ≢ project ∷ name ∷ []
other_project x project name differs e = differs cc

pub profiles-changed : {s t : State} → t.projects ≡ s.projects
    → ((project : List ℕ) → own_there s.profiles project → own_there t.profiles project)
    → HasDefaults s → HasDefaults t
profiles-changed {s} {t} ps own h = record {
  project = ap (λ rows. option_map has_all_features (project_named rows default_name)) ps ∙ h.project;
  profiles = subst (Each (λ p. has_profiles p ≡ true → own_there t.profiles p.name)) (sym ps)
      (Each-map (λ p there on. own p.name (there on)) h.profiles);
}

-- a profile with another name than `default` goes
pub profile-gone : {s : State} (x : Profile) (project : List ℕ) → AreNamed s
    → profile_named s.profiles x.project x.name ≡ Some x → x.name ≢ default_name
    → own_there s.profiles project
    → own_there (dropped (λ y. has_key (key_of (row.Profile x)) (row.Profile y)) s.profiles) project
profile-gone {s} x project h found differs there =
    ap is_some
    (profile-unremoved x project default_name h (find-some (is_profile x.project x.name) s.profiles x found).0 (other_name x project differs))
    ∙ there

-- ---- projects

-- after a project was put into a list, in which the others have their profiles `default`
pub put-defaults : (t : State) (r : Project) (ps : List Project) → t.projects ≡ with_project r ps
    → Distinct project_names ps
    → Each (λ p. project_names p ≢ project_names r → has_profiles p ≡ true → own_there t.profiles p.name) ps
    → (has_profiles r ≡ true → own_there t.profiles r.name)
    → option_map has_all_features (project_named (with_project r ps) default_name) ≡ Some true → HasDefaults t
put-defaults t r ps is distinct others own default = record {
  project = ap (λ rows. option_map has_all_features (project_named rows default_name)) is ∙ default;
  profiles =
      subst (Each (λ p. has_profiles p ≡ true → own_there t.profiles p.name)) (sym is)
      (record { at = λ p m. at p (after-put project_names (λ y. texts_before (project_names r) (project_names y)) r ps distinct (tells-project r.name) p m) });
} where
  at : (p : Project) → (p ≡ r) ⊎ (Mem p ps × (project_names p ≢ project_names r)) → has_profiles p ≡ true
      → own_there t.profiles p.name
  at p (inl e) = subst (λ x. has_profiles x ≡ true → own_there t.profiles x.name) (sym e) own
  at p (inr m) = others.at p m.0 m.1

pub distinct_projects : {s : State} → IsWhole s → Distinct project_names s.projects
distinct_projects {s} h = Rise-Distinct project_names s.projects h.names.projects

project_name : (x : Project) (name : List ℕ) → x.name ≢ name → project_names x ≢ name ∷ []
project_name x name differs e = differs cc

-- the project `default` is there
default_found : (o : Option Project) → option_map has_all_features o ≡ Some true → o ≢ None
default_found None e none = cc
default_found (Some p) e none = cc

fresh_differs : {s : State} (name : List ℕ) → HasDefaults s → project_named s.projects name ≡ None
    → name ≢ default_name
fresh_differs {s} name h fresh e =
    default_found (project_named s.projects default_name) h.project (sym (ap (project_named s.projects) e) ∙ fresh)

-- `default` is found as before where another project is put
pub default_stays : (r : Project) (ps : List Project) → r.name ≢ default_name
    → project_named (with_project r ps) default_name ≡ project_named ps default_name
default_stays r ps differs =
    other-found project_names (λ y. texts_before (project_names r) (project_names y)) r ps (tells-project r.name)
    (tells-project default_name)
    (project_name r default_name differs)

pub made-defaults : (s : State) (r : Project) → IsWhole s → project_named s.projects r.name ≡ None
    → HasDefaults (applied s (project_creation r))
made-defaults s r h fresh = at (has_profiles r) refl where
  default : option_map has_all_features (project_named (with_project r s.projects) default_name) ≡ Some true
  default =
      ap (option_map has_all_features) (default_stays r s.projects (fresh_differs r.name h.defaults fresh)) ∙
      h.defaults.project

  at : (b : Bool) → has_profiles r ≡ b
      → HasDefaults (applied s (cond b (put_all (row.Project r ∷ row.Profile (default_profile r.name) ∷ [])) (put_all (row.Project r ∷ []))))
  at true on = put-defaults _ r s.projects refl (distinct_projects h)
      (Each-map (λ p there other is. profile-still (default_profile r.name) s.profiles p.name default_name (there is)) h.defaults.profiles)
      (λ is. ap is_some (profile-put (default_profile r.name) s.profiles))
      default
  at false off =
      put-defaults _ r s.projects refl (distinct_projects h)
      (Each-map (λ p there other is. there is) h.defaults.profiles)
      (λ is. absurd (true≢false (sym is ∙ off)))
      default

-- ---- a project is renamed, or goes

-- the others, where a project is dropped
left-defaults : (s : State) (old : Project) (rs : List Profile) → IsWhole s → Mem old s.projects
    → ((project : List ℕ) → project ≢ old.name → own_there s.profiles project → own_there rs project)
    → Each (λ p. has_profiles p ≡ true → own_there rs p.name) (dropped (λ y. has_key old.name (row.Project y)) s.projects)
left-defaults s old rs h there own = record {
  at = λ p m is.
      let differs = left-other project_names s.projects (distinct_projects h) (drops-project old h.names there) (λ y e. keyed-project old y e) p m in
      own p.name (λ e. differs (ap (λ n. n ∷ []) e)) (h.defaults.profiles.at p (Mem-dropped p _ s.projects m) is);
}

-- the own profile of a project goes
own-gone : (s : State) (old : Project) (p : Profile) → IsWhole s → own_profile s old ≡ Some p → (project : List ℕ)
    → project ≢ old.name
    → own_there s.profiles project
    → own_there (dropped (λ y. has_key (key_of (row.Profile p)) (row.Profile y)) s.profiles) project
own-gone s old p h found project differs there =
    let names = profile-found s.profiles old.name default_name p found in
    ap is_some
    (profile-unremoved p project default_name h.names (find-some (is_profile old.name default_name) s.profiles p found).0
    (other_project p project default_name (λ e. differs (sym e ∙ names.0))))
    ∙ there

default_undropped : (s : State) (old : Project) → IsWhole s → Mem old s.projects → old.name ≢ default_name
    → project_named (dropped (λ y. has_key old.name (row.Project y)) s.projects) default_name ≡ project_named s.projects default_name
default_undropped s old h there differs =
    other-undropped project_names s.projects (drops-project old h.names there) (tells-project default_name)
    (project_name old default_name differs)

pub deleted-defaults : (s : State) (old : Project) → IsWhole s → project_named s.projects old.name ≡ Some old
    → old.name ≢ default_name
    → HasDefaults (applied s (project_deletion s old))
deleted-defaults s old h found differs = at (own_profile s old) refl where
  there : Mem old s.projects
  there = (find-some (is_project old.name) s.projects old found).0

  default : option_map has_all_features (project_named (dropped (λ y. has_key old.name (row.Project y)) s.projects) default_name) ≡ Some true
  default = ap (option_map has_all_features) (default_undropped s old h there differs) ∙ h.defaults.project

  at : (o : Option Profile) → own_profile s old ≡ o
      → HasDefaults (applied s (map removal (row.Project old ∷ map row.Profile (option_to_list o))))
  at None is = record { project = default; profiles = left-defaults s old s.profiles h there (λ project other own. own) }
  at (Some p) is = record { project = default; profiles = left-defaults s old _ h there (own-gone s old p h is) }

pub renamed-defaults : (s : State) (old : Project) (to : List ℕ) → IsWhole s
    → project_named s.projects old.name ≡ Some old → old.name ≢ default_name
    → project_named s.projects to ≡ None → HasDefaults (applied s (project_rename s to old))
renamed-defaults s old to h found differs fresh = at (own_profile s old) refl where
  new : Project
  new = record old { name = to }

  rest : List Project
  rest = dropped (λ y. has_key old.name (row.Project y)) s.projects

  there : Mem old s.projects
  there = (find-some (is_project old.name) s.projects old found).0

  default : option_map has_all_features (project_named (with_project new rest) default_name) ≡ Some true
  default =
      ap (option_map has_all_features)
      (default_stays new rest (fresh_differs to h.defaults fresh) ∙ default_undropped s old h there differs) ∙
      h.defaults.project

  distinct : Distinct project_names rest
  distinct = Distinct-dropped project_names _ s.projects (distinct_projects h)

  at : (o : Option Profile) → own_profile s old ≡ o
      → HasDefaults (applied s (moved_row (row.Project old) (row.Project new) ++ option_map_or (λ p. moved_row (row.Profile p) (row.Profile (record p { project = to }))) o []))
  at None is = put-defaults _ new rest refl distinct
      (Each-map (λ p own other. own) (left-defaults s old s.profiles h there (λ project other own. own)))
      (λ on. absurd (true≢false (sym (h.defaults.profiles.at old there on) ∙ ap is_some is)))
      default
  at (Some p) is =
      let moved : Profile = record p { project = to } in
      let less : List Profile = dropped (λ y. has_key (key_of (row.Profile p)) (row.Profile y)) s.profiles in
      let names = profile-found s.profiles old.name default_name p is in
      put-defaults _ new rest refl distinct
      (Each-map (λ x own other. own)
      (left-defaults s old (with_profile moved less) h there (λ project other own. profile-still moved less project default_name (own-gone s old p h is project other own))))
      (λ on. ap is_some (subst (λ name. profile_named (with_profile moved less) to name ≡ Some moved) names.1 (profile-put moved less)))
      default
