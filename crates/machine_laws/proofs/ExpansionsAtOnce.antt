-- What judged instances have after changes at once: the same, or they name the profile that is put.
use Rattle.std.proofs.Common.{◌≡◌, ℕ, Bool, true, false, cond, Option, Some, None, List, [], ◌∷◌, ◌++◌, ◌⊎◌, refl, sym, ◌∙◌, ap, subst, inl, inr}
use Rattle.std.specs.Prelude.{map, codes, if◌then◌else◌}
use Rattle.std.specs.Option.{option_map_or, option_to_list}
use Rattle.std.specs.Str.{bytes_eq}
use Rattle.plain_lists.specs.Members.{Mem, Each}
use Rattle.plain_lists.proofs.Searches.{find-some}
use Rattle.plain_lists.proofs.EditLemmas.{find-put, find-replaced}
use Rattle.config_lists.proofs.Keys.{same, bytes_eq-itself}
use Rattle.size_values.specs.declared.kinds.ObjectKind.TheVariants as kind
use Rattle.records.specs.declared.rows.Project.{Project}
use Rattle.records.specs.declared.rows.Profile.{Profile}
use Rattle.records.specs.declared.rows.Instance.{Instance}
use Rattle.records.specs.declared.rows.Row.TheVariants as row
use Rattle.row_codec.specs.Rows.{HasGoodKey, IsGood}
use Rattle.estate_rules.specs.Names.{is_object_name}
use Rattle.plain_lists.proofs.Elements.{Each-left}
use Rattle.row_codec.specs.Spelling.{two_names}
use Rattle.row_machine.specs.declared.changes.RowChange.{RowChange}
use Rattle.row_machine.specs.machine.State.{State}
use Rattle.row_machine.specs.machine.Rows.{default_name, is_project, is_profile, project_named, project_names, texts_before, with_project}
use Rattle.row_machine.specs.machine.Homes.{home_of, is_on}
use Rattle.row_machine.specs.machine.Changes.{has_key, with_row, without_row, applied, rows_put, removal}
use Rattle.row_machine.specs.machine.Claims.{judged_instances}
use Rattle.row_machine.specs.machine.Holders.{names_profile, holder_of}
use Rattle.row_machine.specs.machine.NewRows.{default_profile}
use Rattle.row_machine.specs.machine.Plans.{put_all, moved_row, project_creation, project_change, project_rename, project_deletion, own_profile}
use Rattle.row_machine.specs.facts.Whole.{IsWhole, claims_of}
use Rattle.machine_laws.proofs.Expansions.{home_in, IsAlike}
use Rattle.machine_laws.proofs.ExpansionsApart.{AreApart, apart-both, apart-project, apart-profile, apart-no_project, apart-no_profile, apart-alike, not-named, profile-key}
use Rattle.machine_laws.proofs.Found.{profile-found}
use Rattle.machine_laws.proofs.NamesRows.{each-row}
use Rattle.machine_laws.proofs.SharesApart.{profile-row}

-- what a judged instance has after changes at once
pub data Sees (s : State) (cs : List RowChange) (i : Instance) : Type 0 where
  alike : IsAlike s (applied s cs) i → Sees s cs i
  named : (r : Profile) → Mem (row.Profile r) (rows_put cs) → holder_of s r.project r.name ≡ None → names_profile s r.project r.name i ≡ true
      → names_profile (applied s cs) r.project r.name i ≡ true → judged_instances (applied s cs) ≡ judged_instances s → Sees s cs i

-- ---- whole projects

-- a profile under a key goes: it is of the project of that key
gone-of : (s : State) (r : Profile) → IsWhole s → Mem r s.profiles → (Q : List ℕ → Type 0) → Q r.project
    → Each (λ (y : Profile). has_key (two_names r.project r.name) (row.Profile y) ≡ true → Q y.project) s.profiles
gone-of s r h there Q touched = record {
  at = λ y m hit.
      subst Q (sym (profile-key r y (h.names.good.at (row.Profile r) (profile-row s r there)) (h.names.good.at (row.Profile y) (profile-row s y m)) hit).0) touched;
}

pub made-apart : (s : State) (r : Project) → AreApart (λ n. n ≡ r.name) (λ p n. p ≡ r.name) s (applied s (project_creation r))
made-apart s r = at (is_on r.config (codes "features.profiles")) where
  first : AreApart (λ n. n ≡ r.name) (λ p n. p ≡ r.name) s (with_row (row.Project r) s)
  first = apart-project s r refl

  at : (b : Bool) → AreApart (λ n. n ≡ r.name) (λ p n. p ≡ r.name) s
      (applied s (cond b (put_all (row.Project r ∷ row.Profile (default_profile r.name) ∷ [])) (put_all (row.Project r ∷ []))))
  at true = apart-both first (apart-profile (with_row (row.Project r) s) (default_profile r.name) refl)
  at false = first

pub deleted-apart : (s : State) (old : Project) → IsWhole s → AreApart (λ n. n ≡ old.name) (λ p n. p ≡ old.name) s (applied s (project_deletion s old))
deleted-apart s old h = at (own_profile s old) refl where
  first : AreApart (λ n. n ≡ old.name) (λ p n. p ≡ old.name) s (without_row kind.Project old.name s)
  first = apart-no_project s old.name refl

  at : (found : Option Profile) → own_profile s old ≡ found
      → AreApart (λ n. n ≡ old.name) (λ p n. p ≡ old.name) s (applied s (map removal (row.Project old ∷ map row.Profile (option_to_list found))))
  at None is = first
  at (Some p) is = apart-both first (apart-no_profile (without_row kind.Project old.name s) (two_names p.project p.name)
      (gone-of s p h (find-some (is_profile old.name default_name) s.profiles p is).0 (λ n. n ≡ old.name) (profile-found s.profiles old.name default_name p is).0))

pub renamed-apart : (s : State) (old : Project) (to : List ℕ) → IsWhole s
    → AreApart (λ n. (n ≡ old.name) ⊎ (n ≡ to)) (λ p n. (p ≡ old.name) ⊎ (p ≡ to)) s (applied s (project_rename s to old))
renamed-apart s old to h = at (own_profile s old) refl where
  gone : State
  gone = without_row kind.Project old.name s

  back : State
  back = with_row (row.Project (record old { name = to })) gone

  first : AreApart (λ n. (n ≡ old.name) ⊎ (n ≡ to)) (λ p n. (p ≡ old.name) ⊎ (p ≡ to)) s back
  first = apart-both (apart-no_project s old.name (inl refl)) (apart-project gone (record old { name = to }) (inr refl))

  at : (found : Option Profile) → own_profile s old ≡ found
      → AreApart (λ n. (n ≡ old.name) ⊎ (n ≡ to)) (λ p n. (p ≡ old.name) ⊎ (p ≡ to)) s
      (applied s (moved_row (row.Project old) (row.Project (record old { name = to }))
      ++ option_map_or (λ p. moved_row (row.Profile p) (row.Profile (record p { project = to }))) found []))
  at None is = first
  at (Some p) is = apart-both (apart-both first
      (apart-no_profile back (two_names p.project p.name)
      (gone-of s p h (find-some (is_profile old.name default_name) s.profiles p is).0 (λ n. (n ≡ old.name) ⊎ (n ≡ to)) (inl (profile-found s.profiles old.name default_name p is).0))))
      (apart-profile (without_row kind.Profile (two_names p.project p.name) back) (record p { project = to }) (inr refl))

-- the name `default` is a good one
default_good : IsGood kind.Profile default_name
unfolding is_object_name
default_good = refl

pub changed-apart : (s : State) (old r : Project) → IsWhole s → project_named s.projects old.name ≡ Some old → r.name ≡ old.name → AreApart (λ n. n ≡ old.name) (λ p n. p ≡ old.name) s (applied s (project_change old r))
changed-apart s old r h found name = at (is_on old.config (codes "features.profiles")) refl (is_on r.config (codes "features.profiles")) refl where
  put : State
  put = with_row (row.Project r) s

  first : AreApart (λ n. n ≡ old.name) (λ p n. p ≡ old.name) s put
  first = apart-project s r name

  -- the profile `default` of the project goes
  drops : Each (λ (y : Profile). has_key (two_names r.name default_name) (row.Profile y) ≡ true → y.project ≡ old.name) s.profiles
  drops = record { at = λ y m hit. key y (h.names.good.at (row.Profile y) (profile-row s y m)) hit } where
    good_name : IsGood kind.Project r.name
    good_name = subst (IsGood kind.Project) (sym name)
        ((each-row s (Each-left (claims_of s) h.names.good)).projects.at old (find-some (is_project old.name) s.projects old found).0)

    key : (y : Profile) → HasGoodKey (row.Profile y) → has_key (two_names r.name default_name) (row.Profile y) ≡ true → y.project ≡ old.name
    key y good hit = (profile-key (default_profile r.name) y (good_name, default_good) good hit).0 ∙ name

  at : (b : Bool) → is_on old.config (codes "features.profiles") ≡ b → (d : Bool) → is_on r.config (codes "features.profiles") ≡ d
      → AreApart (λ n. n ≡ old.name) (λ p n. p ≡ old.name) s (applied s (project_change old r))
  at true was true now = rw (was, now) first
  at true was false now = rw (was, now) (apart-both first (apart-no_profile put (two_names r.name default_name) drops))
  at false was true now = rw (was, now) (apart-both first (apart-profile put (default_profile r.name) name))
  at false was false now = rw (was, now) first

-- features stay, and so do the homes
pub kept-alike : (s : State) (old r : Project) (i : Instance) → project_named s.projects old.name ≡ Some old → r.name ≡ old.name
    → is_on r.config (codes "features.profiles") ≡ is_on old.config (codes "features.profiles") → IsAlike s (applied s (project_change old r)) i
unfolding home_of
kept-alike s old r i found name features = at (is_on old.config (codes "features.profiles")) refl where
  same_home : (n : List ℕ) → option_map_or (λ (p : Project). is_on p.config (codes "features.profiles")) (project_named (with_project r s.projects) n) false
      ≡ option_map_or (λ (p : Project). is_on p.config (codes "features.profiles")) (project_named s.projects n) false
  same_home n = by (bytes_eq r.name n) refl where
    has : Option Project → Bool
    has o = option_map_or (λ (p : Project). is_on p.config (codes "features.profiles")) o false

    by : (b : Bool) → bytes_eq r.name n ≡ b → option_map_or (λ (p : Project). is_on p.config (codes "features.profiles")) (project_named (with_project r s.projects) n) false
        ≡ option_map_or (λ (p : Project). is_on p.config (codes "features.profiles")) (project_named s.projects n) false
    by true is =
        let names : n ≡ r.name = sym (same r.name n is) in
        let put : project_named (with_project r s.projects) r.name ≡ Some r =
        find-put (is_project r.name) (λ y. texts_before (project_names r) (project_names y)) r s.projects (bytes_eq-itself r.name) in
        ap (λ m. option_map_or (λ (p : Project). is_on p.config (codes "features.profiles")) (project_named (with_project r s.projects) m) false) names
        ∙ ap (λ o. option_map_or (λ (p : Project). is_on p.config (codes "features.profiles")) o false) put
        ∙ features
        ∙ sym (ap (λ o. option_map_or (λ (p : Project). is_on p.config (codes "features.profiles")) o false) found)
        ∙ ap (λ m. option_map_or (λ (p : Project). is_on p.config (codes "features.profiles")) (project_named s.projects m) false) (sym name ∙ sym names)
    by false is = ap (λ o. option_map_or (λ (p : Project). is_on p.config (codes "features.profiles")) o false)
        (find-replaced (is_project r.name) (λ y. texts_before (project_names r) (project_names y)) (is_project n) r s.projects is
        (λ y hit. ap (λ m. bytes_eq m n) (same y.name r.name hit) ∙ is))

  first : IsAlike s (with_row (row.Project r) s) i
  first = record {
    home = ap (λ b. if b then i.project else default_name) (same_home i.project);
    profiles = λ n m. refl;
  }

  at : (b : Bool) → is_on old.config (codes "features.profiles") ≡ b → IsAlike s (applied s (project_change old r)) i
  at true was = rw (was, features ∙ was) first
  at false was = rw (was, features ∙ was) first

-- ---- one profile

module _ (s : State) (i : Instance) where
  -- a profile is put whose name the instance does not name
  pub put-alike : (r : Profile) → names_profile s r.project r.name i ≡ false → IsAlike s (with_row (row.Profile r) s) i
  put-alike r fails = apart-alike i (apart-profile {Q = λ n. ⊥} {P = λ p n. (p ≡ r.project) × (n ≡ r.name)} s r (refl, refl)) (λ never. never)
      (λ name m so. not-named s r.project r.name i fails name m so)

  -- a profile goes that the instance does not name
  drop-apart : (old : Profile) (Q : List ℕ → Type 0) (P : List ℕ → List ℕ → Type 0) → IsWhole s → Mem old s.profiles → P old.project old.name
      → AreApart Q P s (without_row kind.Profile (two_names old.project old.name) s)
  drop-apart old Q P h there touched = apart-no_profile s (two_names old.project old.name) (record {
    at = λ y m hit.
        let so = profile-key old y (h.names.good.at (row.Profile old) (profile-row s old there)) (h.names.good.at (row.Profile y) (profile-row s y m)) hit in
        subst (λ p. P p y.name) (sym so.0) (subst (λ n. P old.project n) (sym so.1) touched);
  })

  pub drop-alike : (old : Profile) → IsWhole s → Mem old s.profiles → names_profile s old.project old.name i ≡ false
      → IsAlike s (without_row kind.Profile (two_names old.project old.name) s) i
  drop-alike old h there fails = apart-alike i
      (drop-apart old (λ n. ⊥) (λ p n. (p ≡ old.project) × (n ≡ old.name)) h there (refl, refl)) (λ never. never)
      (λ name m so. not-named s old.project old.name i fails name m so)

  pub move-alike : (old : Profile) (to : List ℕ) → IsWhole s → Mem old s.profiles → names_profile s old.project old.name i ≡ false → names_profile s old.project to i ≡ false
      → IsAlike s (applied s (moved_row (row.Profile old) (row.Profile (record old { name = to })))) i
  move-alike old to h there fails fails_new = apart-alike i
      (apart-both (drop-apart old (λ n. ⊥) (λ p n. (p ≡ old.project) × ((n ≡ old.name) ⊎ (n ≡ to))) h there (refl, inl refl))
      (apart-profile {Q = λ n. ⊥} {P = λ p n. (p ≡ old.project) × ((n ≡ old.name) ⊎ (n ≡ to))} (without_row kind.Profile (two_names old.project old.name) s) (record old { name = to }) (refl, inr refl)))
      (λ never. never) (λ name m so. either name m so) where
        either : (name : List ℕ) → Mem name i.profiles → (home_in s i ≡ old.project) × ((name ≡ old.name) ⊎ (name ≡ to)) → ⊥
        either name m (at_home, inl is) = not-named s old.project old.name i fails name m (at_home, is)
        either name m (at_home, inr is) = not-named s old.project to i fails_new name m (at_home, is)
