-- The rules on names and on what stands in the way, one by one, and what each establishes.
use Rattle.std.proofs.Common.{◌≡◌, ◌≢◌, ℕ, Bool, true, false, cond, ◌&&◌, Option, Some, None, List, [], ◌∷◌, length, refl, sym, ap, subst, ◌∙◌, arith}
use Rattle.std.specs.Prelude.{codes, option_and_then}
use Rattle.std.specs.Option.{option_map, option_map_or, is_some, is_none}
use Rattle.std.specs.Str.{bytes_eq}
use Rattle.std.proofs.lemmas.Bool.{eqb-true}
use Rattle.plain_lists.proofs.FirstLemmas.{none_both, told_if, told_unless, not_mapped}
use Rattle.plain_lists.proofs.Searches.{find-none}
use Rattle.config_lists.proofs.Keys.{bytes_eq-itself}
use Rattle.size_values.specs.declared.kinds.ObjectKind.{ObjectKind}
use Rattle.size_values.specs.declared.kinds.ObjectKind.TheVariants as kind
use Rattle.records.specs.Forms.{is_empty}
use Rattle.records.specs.declared.rows.Project.{Project}
use Rattle.records.specs.declared.commands.Target.{Target}
use Rattle.records.specs.declared.commands.Command.{Command}
use Rattle.row_machine.specs.machine.State.{State}
use Rattle.row_machine.specs.machine.Rows.{default_name, project_named}
use Rattle.row_machine.specs.machine.Homes.{home_of, home_by, has_feature}
use Rattle.row_machine.specs.machine.NameRules.{project_missing, what_is_missing, name_broken, is_there, name_malformed, name_taken, name_held, object_missing, parent_missing, missing_unless, claims_object}
use Rattle.row_machine.specs.machine.Expectations.{not_as_expected}
use Rattle.row_machine.specs.machine.Rules.{names_broken}
use Rattle.row_machine.specs.machine.Kinds.{is_in_project}
use Rattle.row_machine.specs.machine.StandingRules.{instance_busy, wrong_state, object_protected, object_used, project_occupied, profile_held}
use Rattle.row_machine.specs.machine.Rules.{standing_broken}
use Rattle.row_machine.specs.machine.Asked.{object_of, new_name_of}
use Rattle.row_machine.specs.opening.Opening.{has_all_features}
use Rattle.row_machine.specs.facts.Whole.{HasDefaults}
use Rattle.machine_laws.proofs.Cases.{IsHome, IsNew, is_row}
use Rattle.machine_laws.proofs.Found.{not-none}

-- ---- booleans

pub and_false : (a b : Bool) → (a && b) ≡ false → a ≡ true → b ≡ false
and_false true b e a = e
and_false false b e a = cc

pub and_first : (a b : Bool) → (a && b) ≡ false → b ≡ true → a ≡ false
and_first true b e t = sym t ∙ e
and_first false b e t = refl

pub empty-is : (text : List ℕ) → is_empty text ≡ true → text ≡ []
empty-is [] e = refl
empty-is (x ∷ xs) e = absurd (let long : length (x ∷ xs) ≡ 0 = eqb-true (length (x ∷ xs)) 0 e in omega arith)

pub apart : (a b : List ℕ) → bytes_eq a b ≡ false → a ≢ b
apart a b e same = false-true (sym e ∙ subst (λ x. bytes_eq x b ≡ true) (sym same) (bytes_eq-itself b)) where
  false-true : false ≡ true → ⊥
  false-true h = cc

-- ---- the groups

-- the rules on names
pub record AreNamesRight (s : State) (c : Command) : Type 0 where
  pub project : project_missing s c ≡ None
  pub objects : what_is_missing s c.project c.what ≡ None
  pub expected : not_as_expected s c ≡ None
  pub name : option_and_then (name_broken s c.project) (new_name_of s c.project c.what) ≡ None

pub names-right : (s : State) (c : Command) → names_broken s c ≡ None → AreNamesRight s c
unfolding names_broken
names-right s c e =
    let project = none_both (project_missing s c) _ e in
    let objects = none_both (what_is_missing s c.project c.what) _ project.1 in
    let expected = none_both (not_as_expected s c) _ objects.1 in
    let name = none_both (option_and_then (name_broken s c.project) (new_name_of s c.project c.what)) None expected.1 in
    record { project = project.0; objects = objects.0; expected = expected.0; name = name.0 }

-- the rules on what stands in the way
pub record IsWayFree (s : State) (c : Command) : Type 0 where
  pub idle : instance_busy s c ≡ None
  pub state : wrong_state s c ≡ None
  pub unprotected : object_protected s c ≡ None
  pub unused : object_used s c ≡ None
  pub empty : project_occupied s c ≡ None
  pub unheld : profile_held s c ≡ None

pub way-free : (s : State) (c : Command) → standing_broken s c ≡ None → IsWayFree s c
unfolding standing_broken
way-free s c e =
    let idle = none_both (instance_busy s c) _ e in
    let state = none_both (wrong_state s c) _ idle.1 in
    let unprotected = none_both (object_protected s c) _ state.1 in
    let unused = none_both (object_used s c) _ unprotected.1 in
    let empty = none_both (project_occupied s c) _ unused.1 in
    let unheld = none_both (profile_held s c) None empty.1 in
    record { idle = idle.0; state = state.0; unprotected = unprotected.0; unused = unused.0; empty = empty.0; unheld = unheld.0 }

-- ---- the project is there, and homes

pub project-there : (s : State) (c : Command) (of : Target) → object_of c.what ≡ Some of → is_in_project of.kind ≡ true → project_missing s c ≡ None
    → is_some (project_named s.projects c.project) ≡ true
unfolding project_missing
project-there s c of is belongs e =
    let speaks : option_map_or (λ (t : Target). is_in_project t.kind) (object_of c.what) false ≡ true =
    ap (λ o. option_map_or (λ (t : Target). is_in_project t.kind) o false) is ∙ belongs in
    not-none (project_named s.projects c.project) (and_false _ (is_none (project_named s.projects c.project)) (told_if _ _ e) speaks)

-- the home of a project for objects of a feature is there, and is its own
home-by : (s : State) (project key : List ℕ) → HasDefaults s → is_some (project_named s.projects project) ≡ true
    → (is_some (project_named s.projects (home_by s.projects project key)) ≡ true)
    × (home_by s.projects (home_by s.projects project key) key ≡ home_by s.projects project key)
home-by s project key h there = at (has_feature s.projects project key) refl where
  default_there : (o : Option Project) → option_map has_all_features o ≡ Some true → is_some o ≡ true
  default_there None e = cc
  default_there (Some p) e = refl

  either : (b : Bool) → cond b default_name default_name ≡ default_name
  either true = refl
  either false = refl

  at : (b : Bool) → has_feature s.projects project key ≡ b
      → (is_some (project_named s.projects (cond b project default_name)) ≡ true)
      × (home_by s.projects (cond b project default_name) key ≡ cond b project default_name)
  at true is = (there, ap (λ b. cond b project default_name) is)
  at false is = (default_there (project_named s.projects default_name) h.project, either (has_feature s.projects default_name key))

pub profile-home : (s : State) (project : List ℕ) → HasDefaults s → is_some (project_named s.projects project) ≡ true
    → IsHome s (home_of s.projects project kind.Profile) kind.Profile
unfolding home_of
profile-home s project h there = let home = home-by s project (codes "features.profiles") h there in record { there = home.0; own = home.1 }

pub network-home : (s : State) (project : List ℕ) → HasDefaults s → is_some (project_named s.projects project) ≡ true
    → IsHome s (home_of s.projects project kind.Network) kind.Network
unfolding home_of
network-home s project h there = let home = home-by s project (codes "features.networks") h there in record { there = home.0; own = home.1 }

pub volume-home : (s : State) (project : List ℕ) → HasDefaults s → is_some (project_named s.projects project) ≡ true
    → IsHome s (home_of s.projects project kind.Volume) kind.Volume
unfolding home_of
volume-home s project h there = let home = home-by s project (codes "features.storage.volumes") h there in record { there = home.0; own = home.1 }

-- ---- objects that are there, and new names

-- what is there in a project is there in its home
pub row-there : (s : State) (project : List ℕ) (k : ObjectKind) (pool instance name : List ℕ)
    → is_there s project (record { kind = k; pool = pool; instance = instance; name = name })
    ≡ is_row s (home_of s.projects project k) (record { kind = k; pool = pool; instance = instance; name = name })
unfolding home_of
row-there s project kind.Project pool instance name = refl
row-there s project kind.Profile pool instance name = refl
row-there s project kind.Network pool instance name = refl
row-there s project kind.Pool pool instance name = refl
row-there s project kind.Volume pool instance name = refl
row-there s project kind.Instance pool instance name = refl
row-there s project kind.Snapshot pool instance name = refl
row-there s project kind.Operation pool instance name = refl

pub object-there : (s : State) (project : List ℕ) (of : Target) → object_missing s project of ≡ None
    → (parent_missing s project of ≡ None) × (is_there s project of ≡ true)
object-there s project of e =
    let parts = none_both (parent_missing s project of) _ e in
    (parts.0, told_unless (is_there s project of) _ (none_both (missing_unless (is_there s project of) of.kind of.name) None parts.1).0)

pub name-new : (s : State) (project : List ℕ) (of : Target) → name_broken s project of ≡ None → IsNew s (home_of s.projects project of.kind) of
unfolding name_broken
name-new s project of e =
    let good = none_both (name_malformed of) _ e in
    let free = none_both (name_taken s project of) _ good.1 in
    let unclaimed = none_both (name_held s project of) None free.1 in
    record {
      good = told_unless _ _ good.0;
      free = sym (row-there s project of.kind of.pool of.instance of.name) ∙ told_if _ _ free.0;
      unclaimed = find-none (λ o. claims_object (home_of s.projects project of.kind) of o.work) s.operations.live (not_mapped _ _ unclaimed.0);
    }

-- where the parts that a kind does not use are empty
pub new-plain : {s : State} {home : List ℕ} {k : ObjectKind} {pool instance name : List ℕ} → pool ≡ [] → instance ≡ []
    → IsNew s home (record { kind = k; pool = pool; instance = instance; name = name }) → IsNew s home (record { kind = k; pool = []; instance = []; name = name })
new-plain {s} {home} {k} {pool} {instance} {name} p i h =
    subst (λ x. IsNew s home (record { kind = k; pool = x; instance = []; name = name })) p
    (subst (λ x. IsNew s home (record { kind = k; pool = pool; instance = x; name = name })) i h)

pub new-in_pool : {s : State} {home : List ℕ} {k : ObjectKind} {pool instance name : List ℕ} → instance ≡ []
    → IsNew s home (record { kind = k; pool = pool; instance = instance; name = name }) → IsNew s home (record { kind = k; pool = pool; instance = []; name = name })
new-in_pool {s} {home} {k} {pool} {instance} {name} i h =
    subst (λ x. IsNew s home (record { kind = k; pool = pool; instance = x; name = name })) i h

pub new-in_instance : {s : State} {home : List ℕ} {k : ObjectKind} {pool instance name : List ℕ} → pool ≡ []
    → IsNew s home (record { kind = k; pool = pool; instance = instance; name = name }) → IsNew s home (record { kind = k; pool = []; instance = instance; name = name })
new-in_instance {s} {home} {k} {pool} {instance} {name} p h =
    subst (λ x. IsNew s home (record { kind = k; pool = x; instance = instance; name = name })) p h
