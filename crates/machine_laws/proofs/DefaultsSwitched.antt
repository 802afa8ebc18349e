-- The defaults where a project is changed, whose features may change.
use Rattle.std.proofs.Common.{◌≡◌, ◌≢◌, ℕ, Bool, true, false, ◌&&◌, Some, None, List, [], ◌∷◌, refl, sym, ap, subst, ◌∙◌, true≢false}
use Rattle.std.specs.List.{list_all}
use Rattle.std.specs.Str.{bytes_eq}
use Rattle.std.specs.Option.{option_map, is_some}
use Rattle.plain_lists.specs.Members.{Mem, Each}
use Rattle.plain_lists.specs.Edits.{dropped}
use Rattle.plain_lists.proofs.Elements.{Each-map, Each-head, Each-tail}
use Rattle.plain_lists.proofs.Searches.{find-some}
use Rattle.plain_lists.proofs.EditLemmas.{find-put}
use Rattle.config_lists.proofs.Keys.{same, bytes_eq-itself}
use Rattle.estate_rules.specs.Names.{is_object_name, is_project_name}
use Rattle.size_values.specs.declared.kinds.ObjectKind.TheVariants as kind
use Rattle.option_tables.specs.Checks.{project_fault}
use Rattle.records.specs.declared.rows.Project.{Project}
use Rattle.records.specs.declared.rows.Profile.{Profile}
use Rattle.records.specs.declared.rows.Row.TheVariants as row
use Rattle.row_codec.specs.Rows.{HasGoodKey, IsGood}
use Rattle.row_codec.specs.Spelling.{key_of}
use Rattle.row_machine.specs.declared.changes.RowChange.{RowChange}
use Rattle.row_machine.specs.declared.changes.RowChange.TheVariants as change
use Rattle.row_machine.specs.machine.State.{State}
use Rattle.row_machine.specs.machine.Rows.{default_name, is_project, project_named, project_names, profile_names, with_project, texts_before}
use Rattle.row_machine.specs.machine.Homes.{is_on}
use Rattle.row_machine.specs.machine.Changes.{applied, has_key, removal}
use Rattle.row_machine.specs.machine.NewRows.{default_profile}
use Rattle.row_machine.specs.machine.SettingRules.{tables_break}
use Rattle.row_machine.specs.machine.StandingRules.{feature_keys, changes_features}
use Rattle.row_machine.specs.machine.Plans.{project_change}
use Rattle.row_machine.specs.opening.Opening.{has_all_features}
use Rattle.row_machine.specs.facts.Whole.{IsWhole, AreNamed, HasDefaults}
use Rattle.machine_laws.proofs.ReferencesFinds.{other-undropped}
use Rattle.machine_laws.proofs.ReferencesKeys.{tells-project, tells-profile, good-rows, key-profile}
use Rattle.machine_laws.proofs.DefaultsFeatures.{tables-accept, features-same}
use Rattle.machine_laws.proofs.DefaultsProjects.{has_profiles, own_there, profile-still, profile-put, other_project, put-defaults, distinct_projects, default_stays}

-- ---- a project is changed

-- what turns profiles on or off
abbrev pub profile_change : Project → Bool → Bool → List RowChange
profile_change r true false = removal (row.Profile (default_profile r.name)) ∷ []
profile_change r false true = change.Put (row.Profile (default_profile r.name)) ∷ []
profile_change r was is_so = []

all_features : (old r : Project) → Each (λ key. is_on r.config key ≡ is_on old.config key) feature_keys
    → has_all_features r ≡ has_all_features old
all_features old r same = at feature_keys same where
  at : (keys : List (List ℕ)) → Each (λ key. is_on r.config key ≡ is_on old.config key) keys
      → list_all (is_on r.config) keys ≡ list_all (is_on old.config) keys
  at [] same = refl
  at (key ∷ keys) same = (λ i. Each-head same i && at keys (Each-tail same) i)

-- a project that is named `default` keeps its features
default-kept : (old r : Project) (ps : List Project) → project_named ps old.name ≡ Some old → r.name ≡ old.name
    → (changes_features old r ≡ true → old.name ≢ default_name)
    → tables_break r.config (project_fault r.config) [] ≡ None
    → option_map has_all_features (project_named ps default_name) ≡ Some true
    → option_map has_all_features (project_named (with_project r ps) default_name) ≡ Some true
default-kept old r ps found names protected settled default = at (bytes_eq r.name default_name) refl where
  put : r.name ≡ default_name → project_named (with_project r ps) default_name ≡ Some r
  put is = subst (λ name. project_named (with_project r ps) name ≡ Some r) is
      (find-put (is_project r.name) (λ y. texts_before (project_names r) (project_names y)) r ps ((tells-project r.name).passes r refl))

  kept : r.name ≡ default_name → (b : Bool) → changes_features old r ≡ b
      → option_map has_all_features (project_named (with_project r ps) default_name) ≡ Some true
  kept is true e = absurd (protected e (sym names ∙ is))
  kept is false e =
      let was : project_named ps default_name ≡ Some old = ap (project_named ps) (sym (sym names ∙ is)) ∙ found in
      ap (option_map has_all_features) (put is)
      ∙ ap Some (all_features old r (features-same old r e (tables-accept r settled)))
      ∙ sym (ap (option_map has_all_features) was) ∙ default

  at : (b : Bool) → bytes_eq r.name default_name ≡ b
      → option_map has_all_features (project_named (with_project r ps) default_name) ≡ Some true
  at true is = kept (same r.name default_name is) (changes_features old r) refl
  at false is =
      ap (option_map has_all_features)
      (default_stays r ps (λ e. true≢false (sym (ap (λ n. bytes_eq n default_name) e ∙ bytes_eq-itself default_name) ∙ is)))
      ∙ default

-- the name `default` is a good one
default_good : HasGoodKey (row.Profile (default_profile default_name))
unfolding is_object_name is_project_name
default_good = (refl, refl)

-- the key of the profile `default` of a project drops that profile alone
pub drops-own : (s : State) (old : Project) (name : List ℕ) → AreNamed s → Mem old s.projects → name ≡ old.name
    → Each (λ y. has_key (key_of (row.Profile (default_profile name))) (row.Profile y) ≡ true → profile_names y ≡ profile_names (default_profile name)) s.profiles
drops-own s old name h there same = record {
  at = λ y m. key-profile (default_profile name) y
      (subst (IsGood kind.Project) (sym same) ((good-rows h).projects.at old there), default_good.1)
      ((good-rows h).profiles.at y m);
}

pub changed-project : (s : State) (old r : Project) → IsWhole s → project_named s.projects old.name ≡ Some old
    → r.name ≡ old.name
    → (changes_features old r ≡ true → old.name ≢ default_name)
    → tables_break r.config (project_fault r.config) [] ≡ None
    → HasDefaults (applied s (project_change old r))
changed-project s old r h found names protected settled = at (has_profiles old) (has_profiles r) refl refl where
  default : option_map has_all_features (project_named (with_project r s.projects) default_name) ≡ Some true
  default = default-kept old r s.projects found names protected settled h.defaults.project

  there : Mem old s.projects
  there = (find-some (is_project old.name) s.projects old found).0

  own : Profile
  own = default_profile r.name

  drops : Each (λ y. has_key (key_of (row.Profile own)) (row.Profile y) ≡ true → profile_names y ≡ profile_names own) s.profiles
  drops = drops-own s old r.name h.names there names

  others : (rs : List Profile)
      → ((project : List ℕ) → project ≢ r.name → own_there s.profiles project → own_there rs project)
      → Each (λ p. project_names p ≢ project_names r → has_profiles p ≡ true → own_there rs p.name) s.projects
  others rs keeps =
      Each-map (λ p is other on. keeps p.name (λ e. other (ap (λ n. n ∷ []) e)) (is on)) h.defaults.profiles

  gone : (project : List ℕ) → project ≢ r.name → own_there s.profiles project
      → own_there (dropped (λ y. has_key (key_of (row.Profile own)) (row.Profile y)) s.profiles) project
  gone project differs is =
      ap is_some
      (other-undropped profile_names s.profiles drops (tells-profile project default_name) (other_project own project default_name (λ e. differs (sym e))))
      ∙ is

  put : (rs : List Profile) → (has_profiles r ≡ true → own_there rs r.name)
      → ((project : List ℕ) → project ≢ r.name → own_there s.profiles project → own_there rs project)
      → HasDefaults (record s { projects = with_project r s.projects; profiles = rs })
  put rs mine keeps =
      put-defaults (record s { projects = with_project r s.projects; profiles = rs }) r s.projects refl
      (distinct_projects h) (others rs keeps) mine default

  at : (was is_so : Bool) → has_profiles old ≡ was → has_profiles r ≡ is_so
      → HasDefaults (applied s (change.Put (row.Project r) ∷ profile_change r was is_so))
  at true false on off = put _ (λ is. absurd (true≢false (sym is ∙ off))) gone
  at false true on off =
      put _ (λ is. ap is_some (profile-put own s.profiles))
      (λ project differs is. profile-still own s.profiles project default_name is)
  at true true on off =
      put s.profiles (λ is. subst (own_there s.profiles) (sym names) (h.defaults.profiles.at old there on))
      (λ project differs is. is)
  at false false on off = put s.profiles (λ is. absurd (true≢false (sym is ∙ off))) (λ project differs is. is)
