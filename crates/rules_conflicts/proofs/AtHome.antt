-- Rows of projects that can't have the home of an object are no users of it.
use Rattle.std.proofs.Common.{◌≡◌, ℕ, Bool, true, false, cond, ◌||◌, ◌&&◌, Option, Some, None, List, [], ◌∷◌, filter, refl, sym, ap, ◌∙◌, true≢false}
use Rattle.std.specs.Option.{option_or}
use Rattle.std.specs.Str.{bytes_eq}
use Rattle.row_machine.specs.Words.{Target}
use Rattle.row_machine.specs.Words.kind
use Rattle.config_lists.proofs.Keys.{same}
use Rattle.plain_lists.specs.Firsts.{first, first_of}
use Rattle.records.specs.declared.rows.Instance.{Instance}
use Rattle.records.specs.declared.rows.Profile.{Profile}
use Rattle.records.specs.declared.rows.Volume.{Volume}
use Rattle.records.specs.declared.rows.Row.TheVariants as row
use Rattle.row_machine.specs.machine.Holders.{profile_user, user_in, user_url}
use Rattle.row_machine.specs.machine.Kinds.{is_of_kind}
use Rattle.row_machine.specs.machine.Rows.{default_name, instance_names}
use Rattle.row_machine.specs.machine.State.{State}
use Rattle.object_users.specs.AtHome.{project_may_use}
use Rattle.row_readings.specs.Rising.{rows_at_home}
use Rattle.row_readings.proofs.AtHome.{first_of-at_home}
use Rattle.object_users.proofs.AtHome.{profile-unnamed, profile-idle, instance-idle}
use Rattle.rules_conflicts.specs.Users.{claim_url, instance_url, naming_url, profile_url, volume_url}

-- the first instance that names a profile is one of the rows at its home
pub naming-at_home : (s : State) (home profile : List ℕ)
    → first_of (naming_url s home profile) (rows_at_home instance_names home s.instances) ≡ profile_user s home profile
naming-at_home s home profile = first_of-at_home instance_names home s.instances (naming_url s home profile)
    (λ i own other. ap (λ b. user_url b (row.Instance i)) (profile-unnamed s home own profile i other))

-- a rule that no element which passes a test breaks
none-passes : {X R : Type 0} (rule : X → Option R) (p : X → Bool) (xs : List X)
    → ((x : X) → p x ≡ true → rule x ≡ None) → first_of rule (filter p xs) ≡ None
none-passes rule p [] none = refl
none-passes {X} rule p (x ∷ xs) none = at (p x) refl (none-passes rule p xs none) where
  at : (b : Bool) → p x ≡ b → first_of rule (filter p xs) ≡ None → first_of rule (cond b (x ∷ filter p xs) (filter p xs)) ≡ None
  at true is more = ap (λ o. option_or o (first_of rule (filter p xs))) (none x is) ∙ more
  at false is more = more

-- where the first three have no answer, the last one has the first
last-answers : {R : Type 0} (a b c d : Option R) → a ≡ None → b ≡ None → c ≡ None → first (a ∷ b ∷ c ∷ d ∷ []) ≡ d
last-answers {R} a b c d no-a no-b no-c =
    ap (λ o. option_or o (first (b ∷ c ∷ d ∷ []))) no-a ∙ ap (λ o. option_or o (first (c ∷ d ∷ []))) no-b
    ∙ ap (λ o. option_or o (first (d ∷ []))) no-c ∙ alone d where
      alone : (o : Option R) → option_or o None ≡ o
      alone None = refl
      alone (Some r) = refl

-- what a project that may not use an object says
record MayNot (home : List ℕ) (of : Target) (project : List ℕ) : Type 0 where
  no-pool : is_of_kind kind.Pool of ≡ false
  own : bytes_eq home default_name ≡ false
  other : bytes_eq project home ≡ false

may-not : (home : List ℕ) (of : Target) (project : List ℕ) → project_may_use home of project ≡ false → MayNot home of project
may-not home of project e = at (is_of_kind kind.Pool of) (bytes_eq home default_name) (bytes_eq project home) refl refl refl e where
  at : (a b c : Bool) → is_of_kind kind.Pool of ≡ a → bytes_eq home default_name ≡ b → bytes_eq project home ≡ c
      → (a || b || c) ≡ false → MayNot home of project
  at true b c is-a is-b is-c e = absurd (true≢false e)
  at false true c is-a is-b is-c e = absurd (true≢false e)
  at false false true is-a is-b is-c e = absurd (true≢false e)
  at false false false is-a is-b is-c e = record { no-pool = is-a; own = is-b; other = is-c }

module _ (s : State) (home : List ℕ) (of : Target) (project : List ℕ) (h : MayNot home of project) where
  -- a row of the project is a row of another one than the home
  elsewhere : (name : List ℕ) → bytes_eq name project ≡ true → bytes_eq name home ≡ false
  elsewhere name is = ap (λ n. bytes_eq n home) (same name project is) ∙ h.other

  no-profile : first_of (profile_url s home of) (filter (λ r. bytes_eq r.project project) s.profiles) ≡ None
  no-profile = none-passes (profile_url s home of) (λ (r : Profile). bytes_eq r.project project) s.profiles
      (λ r is. ap (λ b. user_url b (row.Profile r)) (profile-idle s home h.own of h.no-pool r (elsewhere r.project is)))

  no-instance : first_of (instance_url s home of) (filter (λ r. bytes_eq r.project project) s.instances) ≡ None
  no-instance = none-passes (instance_url s home of) (λ (r : Instance). bytes_eq r.project project) s.instances
      (λ r is. ap (λ b. user_url b (row.Instance r)) (instance-idle s home h.own of h.no-pool r (elsewhere r.project is)))

  no-volume : first_of (volume_url of) (filter (λ r. bytes_eq r.project project) s.volumes) ≡ None
  no-volume = none-passes (volume_url of) (λ (r : Volume). bytes_eq r.project project) s.volumes
      (λ r is. ap (λ b. user_url (b && bytes_eq r.pool of.name) (row.Volume r)) h.no-pool)

-- a project that may not use the object has no users but claims
pub claims-alone : (s : State) (home : List ℕ) (of : Target) (project : List ℕ) → project_may_use home of project ≡ false
    → first_of (claim_url s home of project) s.operations.live ≡ user_in s home of project
claims-alone s home of project e =
    let h = may-not home of project e in
    sym (last-answers (first_of (profile_url s home of) (filter (λ r. bytes_eq r.project project) s.profiles))
    (first_of (instance_url s home of) (filter (λ r. bytes_eq r.project project) s.instances))
    (first_of (volume_url of) (filter (λ r. bytes_eq r.project project) s.volumes))
    (first_of (claim_url s home of project) s.operations.live)
    (no-profile s home of project h) (no-instance s home of project h) (no-volume s home of project h))
