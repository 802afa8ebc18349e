-- Projects and profiles that changes of rows leave, and what an instance has by them.
use Rattle.std.proofs.Common.{◌≡◌, ℕ, Bool, true, false, cond, ◌&&◌, Some, List, [], ◌∷◌, ◌⊎◌, refl, sym, ◌∙◌, ap, subst, inl, inr}
use Rattle.std.specs.Prelude.{codes, if◌then◌else◌}
use Rattle.std.specs.List.{find, list_any}
use Rattle.std.specs.Option.{option_map_or}
use Rattle.std.specs.Str.{bytes_eq}
use Rattle.std.proofs.lemmas.Bool.{false≢true}
use Rattle.plain_lists.specs.Members.{Mem, Each}
use Rattle.plain_lists.specs.Edits.{dropped}
use Rattle.plain_lists.proofs.Elements.{Each-head, Each-tail}
use Rattle.plain_lists.proofs.EditLemmas.{find-replaced}
use Rattle.plain_lists.proofs.Searches.{any-mem}
use Rattle.config_lists.proofs.Keys.{same, bytes_eq-itself}
use Rattle.size_values.specs.declared.kinds.ObjectKind.TheVariants as kind
use Rattle.records.specs.declared.rows.Project.{Project}
use Rattle.records.specs.declared.rows.Profile.{Profile}
use Rattle.records.specs.declared.rows.Instance.{Instance}
use Rattle.records.specs.declared.rows.Row.TheVariants as row
use Rattle.row_codec.specs.Rows.{HasGoodKey}
use Rattle.row_codec.specs.Spelling.{key_of, two_names}
use Rattle.row_codec.proofs.Fields.{both_true}
use Rattle.row_codec.proofs.Names.{two_again}
use Rattle.row_machine.specs.machine.State.{State}
use Rattle.row_machine.specs.machine.Rows.{default_name, is_project, is_profile, project_named, profile_named, project_names, profile_names, texts_before}
use Rattle.row_machine.specs.machine.Homes.{home_of, has_feature, is_on}
use Rattle.row_machine.specs.machine.Changes.{has_key, with_row, without_row}
use Rattle.row_machine.specs.machine.Holders.{names_profile}
use Rattle.machine_laws.proofs.Expansions.{home_in, IsAlike}

-- ---- tests on names

-- a test that would have to pass fails
pub fails-by : (b : Bool) → (b ≡ true → ⊥) → b ≡ false
fails-by true never = absurd (never refl)
fails-by false never = refl

pub profile-so : (project name : List ℕ) (r : Profile) → is_profile project name r ≡ true → (r.project ≡ project) × (r.name ≡ name)
profile-so project name r h =
    let parts = both_true (bytes_eq r.project project) (bytes_eq r.name name) h in
    (same r.project project parts.0, same r.name name parts.1)

pub profile-is : (r : Profile) → is_profile r.project r.name r ≡ true
profile-is r = ap (λ b. b && bytes_eq r.name r.name) (bytes_eq-itself r.project) ∙ bytes_eq-itself r.name

-- keys of profiles with good names tell the names
pub profile-key : (x y : Profile) → HasGoodKey (row.Profile x) → HasGoodKey (row.Profile y) → has_key (key_of (row.Profile x)) (row.Profile y) ≡ true
    → (y.project ≡ x.project) × (y.name ≡ x.name)
profile-key x y good_x good_y h =
    let keys = same (two_names y.project y.name) (two_names x.project x.name) h in
    let of_y = two_again kind.Project kind.Profile y.project y.name good_y.0 good_y.1 in
    let of_x = two_again kind.Project kind.Profile x.project x.name good_x.0 good_x.1 in
    let pair : (y.project, y.name) ≡ (x.project, x.name) = cc in
    (ap (λ (z : List ℕ × List ℕ). z.0) pair, ap (λ (z : List ℕ × List ℕ). z.1) pair)

-- what is dropped, where another test fails, was not found by that one
pub find-dropped_each : {X : Type 0} (p q : X → Bool) (xs : List X)
    → Each (λ y. p y ≡ true → q y ≡ false) xs → find q (dropped p xs) ≡ find q xs
find-dropped_each p q [] apart = refl
find-dropped_each p q (y ∷ ys) apart = at (p y) refl (find-dropped_each p q ys (Each-tail apart)) where
  at : (b : Bool) → p y ≡ b → find q (dropped p ys) ≡ find q ys → find q (cond b ys (y ∷ dropped p ys)) ≡ cond (q y) (Some y) (find q ys)
  at true is more = sym (ap (λ b. cond b (Some y) (find q ys)) (Each-head apart is))
  at false is more = ap (λ o. cond (q y) (Some y) o) more

-- ---- two states that tell the same but of some projects and profiles

pub record AreApart (Q : List ℕ → Type 0) (P : List ℕ → List ℕ → Type 0) (s t : State) : Type 0 where
  pub projects : (name : List ℕ) → (Q name → ⊥) → project_named t.projects name ≡ project_named s.projects name
  pub profiles : (project name : List ℕ) → (P project name → ⊥) → profile_named t.profiles project name ≡ profile_named s.profiles project name

module _ {Q : List ℕ → Type 0} {P : List ℕ → List ℕ → Type 0} where
  pub apart-none : {s : State} → AreApart Q P s s
  apart-none = record { projects = λ name never. refl; profiles = λ project name never. refl }

  pub apart-both : {s t u : State} → AreApart Q P s t → AreApart Q P t u → AreApart Q P s u
  apart-both first second = record {
    projects = λ name never. second.projects name never ∙ first.projects name never;
    profiles = λ project name never. second.profiles project name never ∙ first.profiles project name never;
  }

  -- a project is put
  pub apart-project : (s : State) (r : Project) → Q r.name → AreApart Q P s (with_row (row.Project r) s)
  apart-project s r touched = record {
    projects = λ name never. find-replaced (is_project r.name) (λ y. texts_before (project_names r) (project_names y)) (is_project name) r s.projects
        (fails-by (is_project name r) (λ is. never (subst Q (same r.name name is) touched)))
        (λ y hit. fails-by (is_project name y) (λ is. never (subst Q (sym (same y.name r.name hit) ∙ same y.name name is) touched)));
    profiles = λ project name never. refl;
  }

  -- a profile is put
  pub apart-profile : (s : State) (r : Profile) → P r.project r.name → AreApart Q P s (with_row (row.Profile r) s)
  apart-profile s r touched = record {
    projects = λ name never. refl;
    profiles = λ project name never. find-replaced (is_profile r.project r.name) (λ y. texts_before (profile_names r) (profile_names y)) (is_profile project name) r s.profiles
        (fails-by (is_profile project name r) (λ is. never (hits project name r is (refl, refl))))
        (λ y hit. fails-by (is_profile project name y) (λ is. never (hits project name y is (profile-so r.project r.name y hit))));
  } where
    hits : (project name : List ℕ) (y : Profile) → is_profile project name y ≡ true → (y.project ≡ r.project) × (y.name ≡ r.name) → P project name
    hits project name y is so =
        let names = profile-so project name y is in
        subst (λ p. P p name) (sym so.0 ∙ names.0) (subst (λ n. P r.project n) (sym so.1 ∙ names.1) touched)

  -- a project is removed
  pub apart-no_project : (s : State) (name : List ℕ) → Q name → AreApart Q P s (without_row kind.Project name s)
  apart-no_project s key touched = record {
    projects = λ name never. find-dropped_each (λ y. has_key key (row.Project y)) (is_project name) s.projects
        (record { at = λ y m hit. fails-by (is_project name y) (λ is. never (subst Q (sym (same y.name key hit) ∙ same y.name name is) touched)) });
    profiles = λ project name never. refl;
  }

  -- a profile is removed
  pub apart-no_profile : (s : State) (key : List ℕ) → Each (λ y. has_key key (row.Profile y) ≡ true → P y.project y.name) s.profiles
      → AreApart Q P s (without_row kind.Profile key s)
  apart-no_profile s key touched = record {
    projects = λ name never. refl;
    profiles = λ project name never. find-dropped_each (λ y. has_key key (row.Profile y)) (is_profile project name) s.profiles
        (record {
          at = λ y m hit. fails-by (is_profile project name y) (λ is.
              let names = profile-so project name y is in
              never (subst (λ p. P p name) names.0 (subst (λ n. P y.project n) names.1 (touched.at y m hit))));
        });
  }

  -- ---- an instance whose project and profiles are left

  pub apart-home : {s t : State} (project : List ℕ) → AreApart Q P s t → (Q project → ⊥)
      → home_of t.projects project kind.Profile ≡ home_of s.projects project kind.Profile
  unfolding home_of
  apart-home project h never = ap
      (λ found. if option_map_or (λ (r : Project). is_on r.config (codes "features.profiles")) found false then project else default_name)
      (h.projects project never)

  pub apart-alike : {s t : State} (i : Instance) → AreApart Q P s t → (Q i.project → ⊥) → ((name : List ℕ) → Mem name i.profiles → P (home_in s i) name → ⊥)
      → IsAlike s t i
  apart-alike {s} i h never none = record {
    home = apart-home i.project h never;
    profiles = λ name m. h.profiles (home_in s i) name (none name m);
  }

-- the home of a project is itself or `default`
pub home-either : (s : State) (project : List ℕ) → (home_of s.projects project kind.Profile ≡ project) ⊎ (home_of s.projects project kind.Profile ≡ default_name)
unfolding home_of
home-either s project = at (has_feature s.projects project (codes "features.profiles")) where
  at : (b : Bool) → (cond b project default_name ≡ project) ⊎ (cond b project default_name ≡ default_name)
  at true = inl refl
  at false = inr refl

-- whole projects are touched, not `default` and not the instance's
pub apart-elsewhere : {Q : List ℕ → Type 0} {s t : State} (i : Instance) → AreApart Q (λ project name. Q project) s t
    → (Q default_name → ⊥) → (Q i.project → ⊥) → IsAlike s t i
apart-elsewhere {Q} {s} i h default never = apart-alike i h never (λ name m touched. at (home-either s i.project) touched) where
  at : (home_in s i ≡ i.project) ⊎ (home_in s i ≡ default_name) → Q (home_in s i) → ⊥
  at (inl is) touched = never (subst Q is touched)
  at (inr is) touched = default (subst Q is touched)

-- an instance that does not name a profile names no profile of that name in that home
pub not-named : (s : State) (home profile : List ℕ) (i : Instance) → names_profile s home profile i ≡ false
    → (name : List ℕ) → Mem name i.profiles → (home_in s i ≡ home) × (name ≡ profile) → ⊥
not-named s home profile i fails name m so = false≢true (sym fails ∙ ap (λ b. b && list_any (λ n. bytes_eq n profile) i.profiles) at_home ∙ listed) where
  at_home : bytes_eq (home_of s.projects i.project kind.Profile) home ≡ true
  at_home = ap (λ h. bytes_eq h home) so.0 ∙ bytes_eq-itself home

  listed : list_any (λ n. bytes_eq n profile) i.profiles ≡ true
  listed = any-mem (λ n. bytes_eq n profile) name i.profiles m (ap (λ n. bytes_eq n profile) so.1 ∙ bytes_eq-itself profile)
