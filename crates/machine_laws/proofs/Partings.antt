-- Renames and deletions at once: nothing uses the object, and a new name is free.
use Rattle.std.proofs.Common.{◌≡◌, ℕ, Bool, true, false, ◌||◌, Option, Some, None, List, [], refl, sym, ap, subst, ◌∙◌}
use Rattle.std.specs.Str.{bytes_eq}
use Rattle.std.specs.Option.{option_map}
use Rattle.size_values.specs.declared.kinds.ObjectKind.{ObjectKind}
use Rattle.size_values.specs.declared.kinds.ObjectKind.TheVariants as kind
use Rattle.records.specs.declared.commands.What.TheVariants as what
use Rattle.records.specs.declared.rows.Project.{Project}
use Rattle.records.specs.declared.rows.Profile.{Profile}
use Rattle.records.specs.declared.rows.Network.{Network}
use Rattle.records.specs.declared.rows.Pool.{Pool}
use Rattle.records.specs.declared.rows.Volume.{Volume}
use Rattle.records.specs.declared.rows.Instance.{Instance}
use Rattle.records.specs.declared.rows.Snapshot.{Snapshot}
use Rattle.records.specs.declared.rows.Row.TheVariants as row
use Rattle.row_machine.specs.declared.changes.RowChange.{RowChange}
use Rattle.row_machine.specs.machine.State.{State}
use Rattle.row_machine.specs.machine.Rows.{default_name, project_named, profile_named, network_named, pool_named, volume_named, instance_named, snapshot_named}
use Rattle.row_machine.specs.machine.Homes.{home_of}
use Rattle.row_machine.specs.machine.Holders.{holder_of, first_user_of}
use Rattle.row_machine.specs.machine.StandingRules.{is_occupied}
use Rattle.row_machine.specs.machine.Plans.{changes, plan_of, plan_move, plan_delete, if_there}
use Rattle.machine_laws.proofs.Cases.{IsAccepted, AtOnce, IsHome, IsNew, IsNotDefault}
use Rattle.machine_laws.proofs.Cases.AtOnce.{renames_project, deletes_project, renames_profile, deletes_profile, renames_network, deletes_network, deletes_pool, renames_volume, deletes_volume}
use Rattle.machine_laws.proofs.Found.{not-there, project-found, project-itself, profile-found, profile-itself, network-found, network-itself, pool-found, pool-itself, volume-found, volume-itself}
use Rattle.machine_laws.proofs.Commands.{command_of, target, changes-are, never_nothing, never_starts, no-parts, accepted-names, accepted-way}
use Rattle.machine_laws.proofs.Told.{and_false, and_first, apart, empty-is, name-new, new-plain, new-in_pool, profile-home, network-home, volume-home}
use Rattle.machine_laws.proofs.Speaking.{about-move, about-delete, its-project, it-is_unprotected, it-is_empty, it-is_unheld, rename-unused, deletion-unused}

-- an accepted rename, and an accepted deletion
abbrev Moved : Option (List ℕ) → State → List ℕ → ObjectKind → List ℕ → List ℕ → List ℕ → List ℕ → ℕ → List RowChange → Type 0
Moved expects s project k pool instance name to moment cs = IsAccepted s (command_of project expects (what.Move (target k pool instance name) to)) moment (changes cs)

abbrev Removed : Option (List ℕ) → State → List ℕ → ObjectKind → List ℕ → List ℕ → List ℕ → ℕ → List RowChange → Type 0
Removed expects s project k pool instance name moment cs = IsAccepted s (command_of project expects (what.Delete (target k pool instance name))) moment (changes cs)

-- no user under these names is none under the same names
user-same : (s : State) (k : ObjectKind) {home other pool pool_too instance instance_too name name_too : List ℕ} → other ≡ home → pool_too ≡ pool
    → instance_too ≡ instance → name_too ≡ name → first_user_of s home (target k pool instance name) ≡ None
    → first_user_of s other (target k pool_too instance_too name_too) ≡ None
user-same s k {home} {other} {pool} {pool_too} {instance} {instance_too} {name} {name_too} h p i n e =
    ap (λ x. first_user_of s x (target k pool_too instance_too name_too)) h
    ∙ ap (λ x. first_user_of s home (target k x instance_too name_too)) p
    ∙ ap (λ x. first_user_of s home (target k pool x name_too)) i
    ∙ ap (λ x. first_user_of s home (target k pool instance x)) n
    ∙ e

holder-same : (s : State) {home other name name_too : List ℕ} → other ≡ home → name_too ≡ name → holder_of s home name ≡ None → holder_of s other name_too ≡ None
holder-same s {home} {other} {name} {name_too} h n e = ap (λ x. holder_of s x name_too) h ∙ ap (holder_of s home) n ∙ e

-- ---- what is said of a project, or of a profile, that goes

leaves : (a b : Bool) → a ≡ true → (a || b) ≡ true
leaves true b e = refl
leaves false b e = cc

-- ---- renames

pub moves : {expects : Option (List ℕ)} (s : State) (project : List ℕ) (k : ObjectKind) (pool instance name to : List ℕ) (moment : ℕ) (cs : List RowChange)
    → Moved expects s project k pool instance name to moment cs → AtOnce s cs
unfolding plan_of
moves s project kind.Project pool instance name to moment cs h = by (project_named s.projects name) refl h.plan where
  by : (o : Option Project) → project_named s.projects name ≡ o
      → if_there (plan_move s project (target kind.Project pool instance name) to) (option_map row.Project o) ≡ changes cs → AtOnce s cs
  by None is e = never_nothing e
  by (Some old) is e =
      let named = project-found s.projects name old is in
      let about = about-move (target kind.Project pool instance name) to in
      let way = accepted-way h in
      let new = name-new s project (target kind.Project pool instance to) (accepted-names h).name in
      subst (AtOnce s) (changes-are e)
      (renames_project old to (project-itself s.projects name old is)
      (subst IsNotDefault (sym named) (apart name default_name (and_first (bytes_eq name default_name) true (it-is_unprotected about way) refl)))
      (subst (λ n. is_occupied s n ≡ false) (sym named) (and_false true (is_occupied s name) (it-is_empty about way) refl))
      new.good (not-there _ new.free))
moves s project kind.Profile pool instance name to moment cs h = by (profile_named s.profiles (home_of s.projects project kind.Profile) name) refl h.plan where
  by : (o : Option Profile) → profile_named s.profiles (home_of s.projects project kind.Profile) name ≡ o
      → if_there (plan_move s project (target kind.Profile pool instance name) to) (option_map row.Profile o) ≡ changes cs → AtOnce s cs
  by None is e = never_nothing e
  by (Some old) is e =
      let home = home_of s.projects project kind.Profile in
      let named = profile-found s.profiles home name old is in
      let about = about-move (target kind.Profile pool instance name) to in
      let names = accepted-names h in
      let way = accepted-way h in
      let empty = no-parts pool instance h.formed in
      let new = new-plain empty.0 empty.1 (name-new s project (target kind.Profile pool instance to) names.name) in
      subst (AtOnce s) (changes-are e)
      (renames_profile old to
      (subst (λ p. IsHome s p kind.Profile) (sym named.0) (profile-home s project h.whole.defaults (its-project about names refl)))
      (profile-itself s.profiles home name old is)
      (subst IsNotDefault (sym named.1) (apart name default_name (and_first (bytes_eq name default_name) true (it-is_unprotected about way) refl)))
      (user-same s kind.Profile named.0 (sym empty.0) (sym empty.1) named.1 (rename-unused way))
      (holder-same s named.0 named.1 (it-is_unheld about way))
      (subst (λ p. IsNew s p (target kind.Profile [] [] to)) (sym named.0) new))
moves s project kind.Network pool instance name to moment cs h = by (network_named s.networks (home_of s.projects project kind.Network) name) refl h.plan where
  by : (o : Option Network) → network_named s.networks (home_of s.projects project kind.Network) name ≡ o
      → if_there (plan_move s project (target kind.Network pool instance name) to) (option_map row.Network o) ≡ changes cs → AtOnce s cs
  by None is e = never_nothing e
  by (Some old) is e =
      let home = home_of s.projects project kind.Network in
      let named = network-found s.networks home name old is in
      let about = about-move (target kind.Network pool instance name) to in
      let names = accepted-names h in
      let empty = no-parts pool instance h.formed in
      let new = new-plain empty.0 empty.1 (name-new s project (target kind.Network pool instance to) names.name) in
      subst (AtOnce s) (changes-are e)
      (renames_network old to
      (subst (λ p. IsHome s p kind.Network) (sym named.0) (network-home s project h.whole.defaults (its-project about names refl)))
      (network-itself s.networks home name old is)
      (user-same s kind.Network named.0 (sym empty.0) (sym empty.1) named.1 (rename-unused (accepted-way h)))
      (subst (λ p. IsNew s p (target kind.Network [] [] to)) (sym named.0) new))
moves s project kind.Pool pool instance name to moment cs h = by (pool_named s.pools name) h.plan where
  by : (o : Option Pool) → if_there (plan_move s project (target kind.Pool pool instance name) to) (option_map row.Pool o) ≡ changes cs → AtOnce s cs
  by None e = never_nothing e
  by (Some r) e = never_nothing e
moves s project kind.Volume pool instance name to moment cs h = by (volume_named s.volumes (home_of s.projects project kind.Volume) pool name) refl h.plan where
  by : (o : Option Volume) → volume_named s.volumes (home_of s.projects project kind.Volume) pool name ≡ o
      → if_there (plan_move s project (target kind.Volume pool instance name) to) (option_map row.Volume o) ≡ changes cs → AtOnce s cs
  by None is e = never_nothing e
  by (Some old) is e =
      let home = home_of s.projects project kind.Volume in
      let named = volume-found s.volumes home pool name old is in
      let about = about-move (target kind.Volume pool instance name) to in
      let names = accepted-names h in
      let empty = empty-is instance h.formed in
      let new = new-in_pool empty (name-new s project (target kind.Volume pool instance to) names.name) in
      subst (AtOnce s) (changes-are e)
      (renames_volume old to
      (subst (λ p. IsHome s p kind.Volume) (sym named.0) (volume-home s project h.whole.defaults (its-project about names refl)))
      (volume-itself s.volumes home pool name old is)
      (user-same s kind.Volume named.0 named.1.0 (sym empty) named.1.1 (rename-unused (accepted-way h)))
      (subst (λ q. IsNew s old.project (target kind.Volume q [] to)) (sym named.1.0)
      (subst (λ p. IsNew s p (target kind.Volume pool [] to)) (sym named.0) new)))
moves s project kind.Instance pool instance name to moment cs h = by (instance_named s.instances project name) h.plan where
  by : (o : Option Instance) → if_there (plan_move s project (target kind.Instance pool instance name) to) (option_map row.Instance o) ≡ changes cs → AtOnce s cs
  by None e = never_nothing e
  by (Some i) e = never_starts e
moves s project kind.Snapshot pool instance name to moment cs h = by (snapshot_named s.snapshots project instance name) h.plan where
  by : (o : Option Snapshot) → if_there (plan_move s project (target kind.Snapshot pool instance name) to) (option_map row.Snapshot o) ≡ changes cs → AtOnce s cs
  by None e = never_nothing e
  by (Some r) e = never_nothing e
moves s project kind.Operation pool instance name to moment cs h = never_nothing h.plan

-- ---- deletions

pub removes : {expects : Option (List ℕ)} (s : State) (project : List ℕ) (k : ObjectKind) (pool instance name : List ℕ) (moment : ℕ) (cs : List RowChange)
    → Removed expects s project k pool instance name moment cs → AtOnce s cs
unfolding plan_of
removes s project kind.Project pool instance name moment cs h = by (project_named s.projects name) refl h.plan where
  by : (o : Option Project) → project_named s.projects name ≡ o
      → if_there (plan_delete s project (target kind.Project pool instance name)) (option_map row.Project o) ≡ changes cs → AtOnce s cs
  by None is e = never_nothing e
  by (Some old) is e =
      let named = project-found s.projects name old is in
      let about = about-delete (target kind.Project pool instance name) in
      let way = accepted-way h in
      subst (AtOnce s) (changes-are e)
      (deletes_project old (project-itself s.projects name old is)
      (subst IsNotDefault (sym named) (apart name default_name (and_first (bytes_eq name default_name) true (it-is_unprotected about way) refl)))
      (subst (λ n. is_occupied s n ≡ false) (sym named) (and_false true (is_occupied s name) (it-is_empty about way) refl)))
removes s project kind.Profile pool instance name moment cs h = by (profile_named s.profiles (home_of s.projects project kind.Profile) name) refl h.plan where
  by : (o : Option Profile) → profile_named s.profiles (home_of s.projects project kind.Profile) name ≡ o
      → if_there (plan_delete s project (target kind.Profile pool instance name)) (option_map row.Profile o) ≡ changes cs → AtOnce s cs
  by None is e = never_nothing e
  by (Some old) is e =
      let home = home_of s.projects project kind.Profile in
      let named = profile-found s.profiles home name old is in
      let about = about-delete (target kind.Profile pool instance name) in
      let way = accepted-way h in
      let empty = no-parts pool instance h.formed in
      subst (AtOnce s) (changes-are e)
      (deletes_profile old
      (subst (λ p. IsHome s p kind.Profile) (sym named.0) (profile-home s project h.whole.defaults (its-project about (accepted-names h) refl)))
      (profile-itself s.profiles home name old is)
      (subst IsNotDefault (sym named.1) (apart name default_name (and_first (bytes_eq name default_name) true (it-is_unprotected about way) refl)))
      (user-same s kind.Profile named.0 (sym empty.0) (sym empty.1) named.1 (deletion-unused way))
      (holder-same s named.0 named.1 (it-is_unheld about way)))
removes s project kind.Network pool instance name moment cs h = by (network_named s.networks (home_of s.projects project kind.Network) name) refl h.plan where
  by : (o : Option Network) → network_named s.networks (home_of s.projects project kind.Network) name ≡ o
      → if_there (plan_delete s project (target kind.Network pool instance name)) (option_map row.Network o) ≡ changes cs → AtOnce s cs
  by None is e = never_nothing e
  by (Some old) is e =
      let home = home_of s.projects project kind.Network in
      let named = network-found s.networks home name old is in
      let about = about-delete (target kind.Network pool instance name) in
      let empty = no-parts pool instance h.formed in
      subst (AtOnce s) (changes-are e)
      (deletes_network old
      (subst (λ p. IsHome s p kind.Network) (sym named.0) (network-home s project h.whole.defaults (its-project about (accepted-names h) refl)))
      (network-itself s.networks home name old is)
      (user-same s kind.Network named.0 (sym empty.0) (sym empty.1) named.1 (deletion-unused (accepted-way h))))
removes s project kind.Pool pool instance name moment cs h = by (pool_named s.pools name) refl h.plan where
  by : (o : Option Pool) → pool_named s.pools name ≡ o
      → if_there (plan_delete s project (target kind.Pool pool instance name)) (option_map row.Pool o) ≡ changes cs → AtOnce s cs
  by None is e = never_nothing e
  by (Some old) is e =
      let named = pool-found s.pools name old is in
      let empty = no-parts pool instance h.formed in
      subst (AtOnce s) (changes-are e)
      (deletes_pool (home_of s.projects project kind.Pool) old (pool-itself s.pools name old is)
      (user-same s kind.Pool refl (sym empty.0) (sym empty.1) named (deletion-unused (accepted-way h))))
removes s project kind.Volume pool instance name moment cs h = by (volume_named s.volumes (home_of s.projects project kind.Volume) pool name) refl h.plan where
  by : (o : Option Volume) → volume_named s.volumes (home_of s.projects project kind.Volume) pool name ≡ o
      → if_there (plan_delete s project (target kind.Volume pool instance name)) (option_map row.Volume o) ≡ changes cs → AtOnce s cs
  by None is e = never_nothing e
  by (Some old) is e =
      let home = home_of s.projects project kind.Volume in
      let named = volume-found s.volumes home pool name old is in
      let about = about-delete (target kind.Volume pool instance name) in
      let empty = empty-is instance h.formed in
      subst (AtOnce s) (changes-are e)
      (deletes_volume old
      (subst (λ p. IsHome s p kind.Volume) (sym named.0) (volume-home s project h.whole.defaults (its-project about (accepted-names h) refl)))
      (volume-itself s.volumes home pool name old is)
      (user-same s kind.Volume named.0 named.1.0 (sym empty) named.1.1 (deletion-unused (accepted-way h))))
removes s project kind.Instance pool instance name moment cs h = by (instance_named s.instances project name) h.plan where
  by : (o : Option Instance) → if_there (plan_delete s project (target kind.Instance pool instance name)) (option_map row.Instance o) ≡ changes cs → AtOnce s cs
  by None e = never_nothing e
  by (Some i) e = never_starts e
removes s project kind.Snapshot pool instance name moment cs h = by (snapshot_named s.snapshots project instance name) h.plan where
  by : (o : Option Snapshot) → if_there (plan_delete s project (target kind.Snapshot pool instance name)) (option_map row.Snapshot o) ≡ changes cs → AtOnce s cs
  by None e = never_nothing e
  by (Some r) e = never_starts e
removes s project kind.Operation pool instance name moment cs h = never_nothing h.plan
