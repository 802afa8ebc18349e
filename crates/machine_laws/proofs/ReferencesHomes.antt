-- Rows stay at home where their project is there as before and keeps its features.
use Rattle.std.proofs.Common.{◌≡◌, ◌≢◌, ℕ, Bool, true, false, cond, not, ◌||◌, Option, Some, None, List, refl, sym, ◌∙◌, ap}
use Rattle.std.specs.Prelude.{codes}
use Rattle.std.specs.Option.{option_map_or, is_some, is_none}
use Rattle.std.specs.Str.{bytes_eq}
use Rattle.plain_lists.proofs.FirstLemmas.{told_if}
use Rattle.config_lists.proofs.Keys.{same, bytes_eq-itself}
use Rattle.size_values.specs.declared.kinds.ObjectKind.{ObjectKind}
use Rattle.size_values.specs.declared.kinds.ObjectKind.TheVariants as kind
use Rattle.records.specs.declared.rows.Project.{Project}
use Rattle.records.specs.declared.rows.Row.{Row}
use Rattle.records.specs.declared.rows.Row.TheVariants as row
use Rattle.records.specs.declared.refusals.Rule.TheVariants as rule
use Rattle.row_machine.specs.machine.State.{State}
use Rattle.row_machine.specs.machine.Rows.{default_name, project_named}
use Rattle.row_machine.specs.machine.Homes.{home_of, is_on}
use Rattle.row_machine.specs.machine.Claims.{project_of_row}
use Rattle.row_machine.specs.opening.Opening.{home_missing}

-- ---- a project that is there as before

-- the project of this name is there where it was, and is the same home
pub record StaysHome (ps qs : List Project) (name : List ℕ) : Type 0 where
  pub there : is_some (project_named ps name) ≡ true → is_some (project_named qs name) ≡ true
  pub home : (k : ObjectKind) → home_of qs name k ≡ home_of ps name k

-- the home by what a look-up found
abbrev found_home : List ℕ → Option Project → ObjectKind → List ℕ
found_home name found kind.Project = name
found_home name found kind.Profile =
    cond (option_map_or (λ (r : Project). is_on r.config (codes "features.profiles")) found false) name default_name
found_home name found kind.Network =
    cond (option_map_or (λ (r : Project). is_on r.config (codes "features.networks")) found false) name default_name
found_home name found kind.Pool = name
found_home name found kind.Volume =
    cond (option_map_or (λ (r : Project). is_on r.config (codes "features.storage.volumes")) found false) name
    default_name
found_home name found kind.Instance = name
found_home name found kind.Snapshot = name
found_home name found kind.Operation = name

home-found : (ps : List Project) (name : List ℕ) (k : ObjectKind)
    → home_of ps name k ≡ found_home name (project_named ps name) k
unfolding home_of
home-found ps name kind.Project = refl
home-found ps name kind.Profile = refl
home-found ps name kind.Network = refl
home-found ps name kind.Pool = refl
home-found ps name kind.Volume = refl
home-found ps name kind.Instance = refl
home-found ps name kind.Snapshot = refl
home-found ps name kind.Operation = refl

-- a project that is found as before
pub stays-found : (ps qs : List Project) (name : List ℕ) → project_named qs name ≡ project_named ps name
    → StaysHome ps qs name
stays-found ps qs name found = record {
  there = λ is. ap is_some found ∙ is;
  home = λ k. home-found qs name k ∙ ap (λ o. found_home name o k) found ∙ sym (home-found ps name k);
}

-- a project that changed, and kept the features by which homes are told
pub record HasSameHomes (old new : Project) : Type 0 where
  pub profiles : is_on new.config (codes "features.profiles") ≡ is_on old.config (codes "features.profiles")
  pub networks : is_on new.config (codes "features.networks") ≡ is_on old.config (codes "features.networks")
  pub volumes : is_on new.config (codes "features.storage.volumes") ≡ is_on old.config (codes "features.storage.volumes")

pub stays-changed : (ps qs : List Project) (name : List ℕ) (old new : Project) → project_named ps name ≡ Some old
    → project_named qs name ≡ Some new
    → HasSameHomes old new → StaysHome ps qs name
stays-changed ps qs name old new was is h = record {
  there = λ _. ap is_some is;
  home =
      λ k. home-found qs name k ∙ ap (λ o. found_home name o k) is ∙ changed k ∙ ap (λ o. found_home name o k)
      (sym was) ∙ sym (home-found ps name k);
} where
  changed : (k : ObjectKind) → found_home name (Some new) k ≡ found_home name (Some old) k
  changed kind.Project = refl
  changed kind.Profile = ap (λ b. cond b name default_name) h.profiles
  changed kind.Network = ap (λ b. cond b name default_name) h.networks
  changed kind.Pool = refl
  changed kind.Volume = ap (λ b. cond b name default_name) h.volumes
  changed kind.Instance = refl
  changed kind.Snapshot = refl
  changed kind.Operation = refl

-- ---- rows at home

-- a row of a kind that belongs to projects is not at home
abbrev pub not_at_home : List Project → List ℕ → ObjectKind → Bool
not_at_home ps project k = is_none (project_named ps project) || not (bytes_eq (home_of ps project k) project)

-- what at home says
pub record IsAtHome (ps : List Project) (project : List ℕ) (k : ObjectKind) : Type 0 where
  pub there : is_some (project_named ps project) ≡ true
  pub own : home_of ps project k ≡ project

pub at-home : (ps : List Project) (project : List ℕ) (k : ObjectKind) → IsAtHome ps project k
    → cond (not_at_home ps project k) (Some rule.N1) None ≡ None
at-home ps project k h = at (project_named ps project) h.there where
  own : bytes_eq (home_of ps project k) project ≡ true
  own = ap (λ n. bytes_eq n project) h.own ∙ bytes_eq-itself project

  at : (o : Option Project) → is_some o ≡ true
      → cond (is_none o || not (bytes_eq (home_of ps project k) project)) (Some rule.N1) None ≡ None
  at None e = cc
  at (Some p) e = ap (λ b. cond (not b) (Some rule.N1) None) own

pub home-at : (ps : List Project) (project : List ℕ) (k : ObjectKind)
    → cond (not_at_home ps project k) (Some rule.N1) None ≡ None → IsAtHome ps project k
home-at ps project k h = at (project_named ps project) refl (told_if _ rule.N1 h) where
  equal : (b : Bool) → bytes_eq (home_of ps project k) project ≡ b → not b ≡ false → home_of ps project k ≡ project
  equal true is e = same (home_of ps project k) project is
  equal false is e = cc

  at : (o : Option Project) → project_named ps project ≡ o
      → (is_none o || not (bytes_eq (home_of ps project k) project)) ≡ false → IsAtHome ps project k
  at None is e = cc
  at (Some p) is e = record { there = ap is_some is; own = equal (bytes_eq (home_of ps project k) project) refl e }

pub at-home-stays : {ps qs : List Project} {project : List ℕ} {k : ObjectKind} → StaysHome ps qs project
    → IsAtHome ps project k → IsAtHome qs project k
at-home-stays {k} stays h = record { there = stays.there h.there; own = stays.home k ∙ h.own }

-- a project with profiles of its own is their home
pub own-home : (ps : List Project) (name : List ℕ) (r : Project) → project_named ps name ≡ Some r
    → is_on r.config (codes "features.profiles") ≡ true
    → IsAtHome ps name kind.Profile
own-home ps name r found on = record {
  there = ap is_some found;
  own =
      home-found ps name kind.Profile ∙ ap (λ o. found_home name o kind.Profile) found ∙ ap
      (λ b. cond b name default_name) on;
}

-- and only such a one is, but `default`
pub home-own : (ps : List Project) (name : List ℕ) (r : Project) → project_named ps name ≡ Some r
    → name ≢ default_name → IsAtHome ps name kind.Profile
    → is_on r.config (codes "features.profiles") ≡ true
home-own ps name r found differs h =
    at (is_on r.config (codes "features.profiles"))
    (sym (home-found ps name kind.Profile ∙ ap (λ o. found_home name o kind.Profile) found) ∙ h.own) where
      at : (b : Bool) → cond b name default_name ≡ name → b ≡ true
      at true e = refl
      at false e = absurd (differs (sym e))

stays-so : (ps qs : List Project) (project : List ℕ) (k : ObjectKind) → StaysHome ps qs project
    → cond (not_at_home ps project k) (Some rule.N1) None ≡ None
    → cond (not_at_home qs project k) (Some rule.N1) None ≡ None
stays-so ps qs project k stays h = at-home qs project k (at-home-stays stays (home-at ps project k h))

-- Rows stay at home where their project stays as it was.
pub homeless-stays : (s t : State) (r : Row) → StaysHome s.projects t.projects (project_of_row r)
    → home_missing s r ≡ None → home_missing t r ≡ None
homeless-stays s t (row.Project r) stays h = refl
homeless-stays s t (row.Profile r) stays h = stays-so s.projects t.projects r.project kind.Profile stays h
homeless-stays s t (row.Network r) stays h = stays-so s.projects t.projects r.project kind.Network stays h
homeless-stays s t (row.Pool r) stays h = refl
homeless-stays s t (row.Volume r) stays h = stays-so s.projects t.projects r.project kind.Volume stays h
homeless-stays s t (row.Instance r) stays h = stays-so s.projects t.projects r.project kind.Instance stays h
homeless-stays s t (row.Snapshot r) stays h = stays-so s.projects t.projects r.project kind.Snapshot stays h
