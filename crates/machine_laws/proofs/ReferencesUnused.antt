-- What has no first user is named by nothing: no profile, no instance, no volume and no claim.
use Rattle.std.proofs.Common.{◌≡◌, ℕ, Bool, true, false, cond, ◌&&◌, ◌||◌, Option, Some, None, List, [], ◌∷◌, refl, sym, ap, subst, ◌∙◌, inl, inr}
use Rattle.std.specs.List.{filter, list_any}
use Rattle.std.specs.Option.{option_map_or, option_to_list, option_or, is_some}
use Rattle.std.specs.Str.{bytes_eq}
use Rattle.plain_lists.specs.Members.{Mem, Each}
use Rattle.plain_lists.specs.Firsts.{first_of}
use Rattle.plain_lists.proofs.Elements.{Each-append, Mem-left}
use Rattle.plain_lists.proofs.FirstLemmas.{none_both, told_if, first_of-none}
use Rattle.plain_lists.proofs.Readings.{Mem-from_read}
use Rattle.plain_lists.proofs.Searches.{any-none, find-some}
use Rattle.config_lists.proofs.Keys.{bytes_eq-itself}
use Rattle.size_values.specs.declared.kinds.ObjectKind.TheVariants as kind
use Rattle.operations.specs.declared.operation.Operation.{Operation}
use Rattle.records.specs.declared.rows.Project.{Project}
use Rattle.records.specs.declared.rows.Profile.{Profile}
use Rattle.records.specs.declared.rows.Network.{Network}
use Rattle.records.specs.declared.rows.Pool.{Pool}
use Rattle.records.specs.declared.rows.Volume.{Volume}
use Rattle.records.specs.declared.rows.Instance.{Instance}
use Rattle.records.specs.declared.rows.Row.{Row}
use Rattle.records.specs.declared.rows.Row.TheVariants as row
use Rattle.records.specs.declared.commands.Target.{Target}
use Rattle.row_machine.specs.machine.Task.{Task}
use Rattle.row_machine.specs.machine.State.{State}
use Rattle.row_machine.specs.machine.Rows.{is_project, project_named}
use Rattle.row_machine.specs.machine.Claims.{claimed_instance, claimed_volume, judged_instances, project_of_row, replaced_instance}
use Rattle.row_machine.specs.shown.Urls.{target_of, url_of}
use Rattle.row_machine.specs.machine.Holders.{user_url, task_url, profile_uses, instance_uses, volume_uses, source_uses, claim_rows, claim_uses, user_in, first_user_of}
use Rattle.row_machine.specs.facts.Whole.{ReferencesExist}
use Rattle.machine_laws.proofs.Found.{there-is, project-found}
use Rattle.machine_laws.proofs.NamesRows.{EachRow, each-row}
use Rattle.row_machine.specs.opening.Opening.{home_missing}
use Rattle.machine_laws.proofs.ReferencesHomes.{home-at}
use Rattle.machine_laws.proofs.ReferencesClaims.{claim-instance}

-- ---- lists and tests

pub Mem-filter : {X : Type 0} (p : X → Bool) (x : X) (xs : List X) → Mem x xs → p x ≡ true → Mem x (filter p xs)
Mem-filter p x [] m e = m
Mem-filter {X} p x (y ∷ ys) m e = at (p y) refl m (λ n. Mem-filter p x ys n e) where
  at : (b : Bool) → p y ≡ b → Mem x (y ∷ ys) → (Mem x ys → Mem x (filter p ys))
      → Mem x (cond b (y ∷ filter p ys) (filter p ys))
  at true is (inl q) more = inl q
  at true is (inr n) more = inr (more n)
  at false is (inl q) more = let passes : p y ≡ true = ap p (sym q) ∙ e in cc
  at false is (inr n) more = more n

pub or-none : (a b : Bool) → (a || b) ≡ false → (a ≡ false) × (b ≡ false)
or-none true b e = cc
or-none false b e = (refl, e)

and_none : (a b : Bool) → a ≡ true → (a && b) ≡ false → b ≡ false
and_none true b is e = e
and_none false b is e = cc

-- ---- each row's project is there

project_in : (s : State) (name : List ℕ) → is_some (project_named s.projects name) ≡ true
    → (p : Project) × (Mem p s.projects × (p.name ≡ name))
project_in s name there =
    let found = there-is (project_named s.projects name) there in
    (found.0, ((find-some (is_project name) s.projects found.0 found.1).0, project-found s.projects name found.0 found.1))

-- ---- no user

-- no profile, instance, volume or claim names the object
pub record IsUnused (s : State) (home : List ℕ) (of : Target) : Type 0 where
  pub profiles : Each (λ r. profile_uses s home of r ≡ false) s.profiles
  pub instances : Each (λ i. instance_uses s home of i ≡ false) (judged_instances s)
  pub volumes : Each (λ v. volume_uses of v ≡ false) s.volumes
  pub claims : Each (λ o. (r : Row) → o.work.claim ≡ Some r → claim_uses s home of o.work ≡ false) s.operations.live

module _ (s : State) (home : List ℕ) (of : Target) where
  -- the users within a project, by their kinds
  abbrev profiles_in : List ℕ → Option (List ℕ)
  profiles_in project =
      first_of (λ (r : Profile). user_url (profile_uses s home of r) (row.Profile r))
      (filter (λ r. bytes_eq r.project project) s.profiles)

  abbrev instances_in : List ℕ → Option (List ℕ)
  instances_in project =
      first_of (λ (r : Instance). user_url (instance_uses s home of r) (row.Instance r))
      (filter (λ r. bytes_eq r.project project) s.instances)

  abbrev volumes_in : List ℕ → Option (List ℕ)
  volumes_in project =
      first_of (λ (r : Volume). user_url (volume_uses of r) (row.Volume r))
      (filter (λ r. bytes_eq r.project project) s.volumes)

  abbrev claimed_in : List ℕ → Task → Bool
  claimed_in project task = option_map_or (λ new. bytes_eq (project_of_row new) project) task.claim false

  abbrev claim_in : List ℕ → Operation Task → Option (List ℕ)
  claim_in project o = cond (claimed_in project o.work && claim_uses s home of o.work) (Some (task_url o.work)) None

  -- what no user in a project says
  record NoneIn (project : List ℕ) : Type 0 where
    profiles : profiles_in project ≡ None
    instances : instances_in project ≡ None
    volumes : volumes_in project ≡ None
    claims : first_of (claim_in project) s.operations.live ≡ None

  none_in : (project : List ℕ) → user_in s home of project ≡ None → NoneIn project
  none_in project e =
      let after_profiles = none_both (profiles_in project) (option_or (instances_in project) (option_or (volumes_in project) (option_or (first_of (claim_in project) s.operations.live) None))) e in
      let after_instances = none_both (instances_in project) (option_or (volumes_in project) (option_or (first_of (claim_in project) s.operations.live) None)) after_profiles.1 in
      let after_volumes = none_both (volumes_in project) (option_or (first_of (claim_in project) s.operations.live) None) after_instances.1 in
      record {
        profiles = after_profiles.0;
        instances = after_instances.0;
        volumes = after_volumes.0;
        claims = (none_both (first_of (claim_in project) s.operations.live) None after_volumes.1).0;
      }

  users_in : first_of (λ (p : Project). user_in s home of p.name) s.projects ≡ None
      → (name : List ℕ) → is_some (project_named s.projects name) ≡ true → NoneIn name
  users_in e name there =
      let p = project_in s name there in
      none_in name
      (ap (user_in s home of) (sym p.1.1) ∙ (first_of-none (λ (x : Project). user_in s home of x.name) s.projects e).at p.0 p.1.0)

  no_claim : first_of (λ (p : Project). user_in s home of p.name) s.projects ≡ None → ReferencesExist s
      → (o : Operation Task) → Mem o s.operations.live
      → (r : Row) → o.work.claim ≡ Some r → claim_uses s home of o.work ≡ false
  no_claim e h o m r is =
      let placed = h.operations.at o m in
      let here = users_in e (project_of_row r) (ap (λ n. is_some (project_named s.projects n)) (placed.claim_project r is) ∙ placed.project) in
      let own : claimed_in (project_of_row r) o.work ≡ true =
      ap (λ c. option_map_or (λ new. bytes_eq (project_of_row new) (project_of_row r)) c false) is ∙ bytes_eq-itself
      (project_of_row r) in
      and_none (claimed_in (project_of_row r) o.work) (claim_uses s home of o.work) own
      (told_if (claimed_in (project_of_row r) o.work && claim_uses s home of o.work) (task_url o.work)
      ((first_of-none (claim_in (project_of_row r)) s.operations.live here.claims).at o m))

  claimed_unused : first_of (λ (p : Project). user_in s home of p.name) s.projects ≡ None → ReferencesExist s
      → (i : Instance)
      → (o : Operation Task) × (Mem o s.operations.live × (claimed_instance o.work ≡ Some i))
      → instance_uses s home of i ≡ false
  claimed_unused e h i found =
      let task = found.0.work in
      let uses = no_claim e h found.0 found.1.0 (row.Instance i) (claim-instance task i found.1.1) in
      let first_two = (or-none (list_any (instance_uses s home of) (claim_rows s task) || option_map_or (volume_uses of) (claimed_volume task) false)
      (option_map_or (source_uses home of task.project) task.source false) uses).0 in
      let any = (or-none (list_any (instance_uses s home of) (claim_rows s task)) (option_map_or (volume_uses of) (claimed_volume task) false) first_two).0 in
      (any-none (instance_uses s home of) (claim_rows s task) any).at i
      (Mem-left i (option_to_list (claimed_instance task)) (option_to_list (replaced_instance s task))
      (subst (λ c. Mem i (option_to_list c)) (sym found.1.1) (inl refl)))

  -- what has no user in any project
  unused_in : first_of (λ (p : Project). user_in s home of p.name) s.projects ≡ None → ReferencesExist s
      → IsUnused s home of
  unfolding judged_instances
  unused_in e h = record {
    profiles = record {
      at = λ r m.
          let here = users_in e r.project (home-at s.projects r.project kind.Profile (rows.profiles.at r m)).there in
          told_if (profile_uses s home of r) (url_of (project_of_row (row.Profile r)) (target_of (row.Profile r)))
          ((first_of-none (λ (x : Profile). user_url (profile_uses s home of x) (row.Profile x)) (filter (λ x. bytes_eq x.project r.project) s.profiles) here.profiles).at r
          (Mem-filter (λ x. bytes_eq x.project r.project) r s.profiles m (bytes_eq-itself r.project)));
    };
    instances = Each-append
        (record {
          at = λ i m.
              let here = users_in e i.project (home-at s.projects i.project kind.Instance (rows.instances.at i m)).there in
              told_if (instance_uses s home of i)
              (url_of (project_of_row (row.Instance i)) (target_of (row.Instance i)))
              ((first_of-none (λ (x : Instance). user_url (instance_uses s home of x) (row.Instance x)) (filter (λ x. bytes_eq x.project i.project) s.instances) here.instances).at i
              (Mem-filter (λ x. bytes_eq x.project i.project) i s.instances m (bytes_eq-itself i.project)));
        })
        (record { at = λ i m. claimed_unused e h i (Mem-from_read (λ (o : Operation Task). claimed_instance o.work) i s.operations.live m) });
    volumes = record {
      at = λ v m.
          let here = users_in e v.project (home-at s.projects v.project kind.Volume (rows.volumes.at v m)).there in
          told_if (volume_uses of v) (url_of (project_of_row (row.Volume v)) (target_of (row.Volume v)))
          ((first_of-none (λ (x : Volume). user_url (volume_uses of x) (row.Volume x)) (filter (λ x. bytes_eq x.project v.project) s.volumes) here.volumes).at v
          (Mem-filter (λ x. bytes_eq x.project v.project) v s.volumes m (bytes_eq-itself v.project)));
    };
    claims = record { at = no_claim e h };
  } where
    rows : EachRow (λ r. home_missing s r ≡ None) s
    rows = each-row s h.homes

-- an object without a first user
pub unused-network : (s : State) (r : Network) → ReferencesExist s
    → first_user_of s r.project (target_of (row.Network r)) ≡ None → IsUnused s r.project (target_of (row.Network r))
unfolding first_user_of
unused-network s r h e = unused_in s r.project (target_of (row.Network r)) e h

pub unused-pool : (s : State) (home : List ℕ) (r : Pool) → ReferencesExist s
    → first_user_of s home (target_of (row.Pool r)) ≡ None → IsUnused s home (target_of (row.Pool r))
unfolding first_user_of
unused-pool s home r h e = unused_in s home (target_of (row.Pool r)) e h

pub unused-volume : (s : State) (r : Volume) → ReferencesExist s
    → first_user_of s r.project (target_of (row.Volume r)) ≡ None → IsUnused s r.project (target_of (row.Volume r))
unfolding first_user_of
unused-volume s r h e = unused_in s r.project (target_of (row.Volume r)) e h

-- ---- what claims name

-- the volume that a copy is made from, and the pool of a claimed volume
pub unused-claim : {s : State} {home : List ℕ} {of : Target} → IsUnused s home of → (o : Operation Task)
    → Mem o s.operations.live → (r : Row) → o.work.claim ≡ Some r
    → (option_map_or (volume_uses of) (claimed_volume o.work) false ≡ false) × (option_map_or (source_uses home of o.work.project) o.work.source false ≡ false)
unused-claim {s} {home} {of} h o m r is =
    let uses = or-none (list_any (instance_uses s home of) (claim_rows s o.work) || option_map_or (volume_uses of) (claimed_volume o.work) false)
    (option_map_or (source_uses home of o.work.project) o.work.source false) (h.claims.at o m r is) in
    ((or-none (list_any (instance_uses s home of) (claim_rows s o.work)) (option_map_or (volume_uses of) (claimed_volume o.work) false) uses.0).1, uses.1)
