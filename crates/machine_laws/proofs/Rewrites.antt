-- PUT and PATCH at once: the object under its name with other settings.
use Rattle.std.proofs.Common.{◌≡◌, ℕ, Bool, true, false, ◌&&◌, ◌||◌, Option, Some, None, List, [], ◌∷◌, refl, sym, ap, subst, ◌∙◌}
use Rattle.std.specs.Str.{bytes_eq}
use Rattle.std.specs.Option.{option_map, option_map_or}
use Rattle.size_values.specs.declared.kinds.ObjectKind.{ObjectKind}
use Rattle.size_values.specs.declared.kinds.ObjectKind.TheVariants as kind
use Rattle.records.specs.Forms.{is_empty, is_change, are_profiles}
use Rattle.records.specs.declared.commands.Body.{Body}
use Rattle.records.specs.declared.commands.What.{What}
use Rattle.records.specs.declared.commands.What.TheVariants as what
use Rattle.records.specs.declared.rows.Project.{Project}
use Rattle.records.specs.declared.rows.Profile.{Profile}
use Rattle.records.specs.declared.rows.Network.{Network}
use Rattle.records.specs.declared.rows.Pool.{Pool}
use Rattle.records.specs.declared.rows.Volume.{Volume}
use Rattle.records.specs.declared.rows.Instance.{Instance}
use Rattle.records.specs.declared.rows.Snapshot.{Snapshot}
use Rattle.records.specs.declared.rows.Row.TheVariants as row
use Rattle.row_codec.proofs.Fields.{both_true}
use Rattle.row_machine.specs.declared.changes.RowChange.{RowChange}
use Rattle.row_machine.specs.machine.State.{State}
use Rattle.row_machine.specs.machine.Rows.{default_name, project_named, profile_named, network_named, pool_named, volume_named, instance_named, snapshot_named}
use Rattle.row_machine.specs.machine.Homes.{home_of}
use Rattle.row_machine.specs.machine.Asked.{renames_or_deletes}
use Rattle.row_machine.specs.machine.Holders.{holder_of}
use Rattle.row_machine.specs.machine.StandingRules.{asks_for_features, changes_features, is_occupied}
use Rattle.row_machine.specs.machine.NewRows.{put_project, patched_project, put_profile, patched_profile, put_network, patched_network, put_pool, patched_pool, put_volume, patched_volume, patched_instance}
use Rattle.row_machine.specs.machine.Plans.{changes, plan_of, plan_put, plan_patch, put_all, project_change, if_there}
use Rattle.machine_laws.proofs.Cases.{IsAccepted, AtOnce, IsHome, IsNotDefault}
use Rattle.machine_laws.proofs.Cases.AtOnce.{changes_project, changes_profile, changes_network, changes_pool, changes_volume, changes_instance}
use Rattle.machine_laws.proofs.Found.{project-found, project-itself, profile-found, profile-itself, network-found, network-itself, pool-itself, volume-found, volume-itself}
use Rattle.machine_laws.proofs.Commands.{command_of, target, changes-are, never_nothing, never_starts, change-profiles, profiles-or, few-profiles, idle-found, accepted-names, accepted-way}
use Rattle.machine_laws.proofs.Told.{and_false, and_first, apart, profile-home, network-home, volume-home}
use Rattle.machine_laws.proofs.Speaking.{IsAbout, about-put, about-patch, its-project, it-is_unprotected, it-is_empty, it-is_unheld, it-is_idle}

-- ---- of each kind, for both requests

-- an accepted command about an object
abbrev Accepts : Option (List ℕ) → State → List ℕ → What → ℕ → List RowChange → Type 0
Accepts expects s project w moment cs = IsAccepted s (command_of project expects w) moment (changes cs)

project-changed : {expects : Option (List ℕ)} (s : State) (project : List ℕ) (w : What) (pool instance name : List ℕ) (moment : ℕ) (cs : List RowChange) (old r : Project)
    → Accepts expects s project w moment cs → IsAbout w (target kind.Project pool instance name) → project_named s.projects name ≡ Some old
    → r.name ≡ old.name → renames_or_deletes w ≡ false → asks_for_features s w ≡ changes_features old r → AtOnce s (project_change old r)
project-changed s project w pool instance name moment cs old r h about is same parting asks =
    changes_project old r (project-itself s.projects name old is) same features where
      named : old.name ≡ name
      named = project-found s.projects name old is

      either : (a b : Bool) → a ≡ false → (a || b) ≡ b
      either true b e = cc
      either false b e = refl

      wants : changes_features old r ≡ true → (renames_or_deletes w || asks_for_features s w) ≡ true
      wants e = either (renames_or_deletes w) (asks_for_features s w) parting ∙ asks ∙ e

      features : changes_features old r ≡ true → (is_occupied s old.name ≡ false) × IsNotDefault old.name
      features e = (
        subst (λ n. is_occupied s n ≡ false) (sym named) (and_false (renames_or_deletes w || asks_for_features s w) (is_occupied s name) (it-is_empty about (accepted-way h)) (wants e)),
        subst (λ n. IsNotDefault n) (sym named)
            (apart name default_name (and_first (bytes_eq name default_name) (renames_or_deletes w || asks_for_features s w) (it-is_unprotected about (accepted-way h)) (wants e))),
      )

profile-changed : {expects : Option (List ℕ)} (s : State) (project : List ℕ) (w : What) (pool instance name : List ℕ) (moment : ℕ) (cs : List RowChange) (old r : Profile)
    → Accepts expects s project w moment cs → IsAbout w (target kind.Profile pool instance name)
    → profile_named s.profiles (home_of s.projects project kind.Profile) name ≡ Some old
    → r.project ≡ old.project → r.name ≡ old.name → AtOnce s (put_all (row.Profile r ∷ []))
profile-changed s project w pool instance name moment cs old r h about is same_project same_name =
    let home = home_of s.projects project kind.Profile in
    let named = profile-found s.profiles home name old is in
    changes_profile old r
    (subst (λ p. IsHome s p kind.Profile) (sym named.0) (profile-home s project h.whole.defaults (its-project about (accepted-names h) refl)))
    (profile-itself s.profiles home name old is) same_project same_name
    (ap (λ p. holder_of s p old.name) named.0 ∙ ap (holder_of s home) named.1 ∙ it-is_unheld about (accepted-way h))

network-changed : {expects : Option (List ℕ)} (s : State) (project : List ℕ) (w : What) (pool instance name : List ℕ) (moment : ℕ) (cs : List RowChange) (old r : Network)
    → Accepts expects s project w moment cs → IsAbout w (target kind.Network pool instance name)
    → network_named s.networks (home_of s.projects project kind.Network) name ≡ Some old
    → r.project ≡ old.project → r.name ≡ old.name → AtOnce s (put_all (row.Network r ∷ []))
network-changed s project w pool instance name moment cs old r h about is same_project same_name =
    let home = home_of s.projects project kind.Network in
    let named = network-found s.networks home name old is in
    changes_network old r
    (subst (λ p. IsHome s p kind.Network) (sym named.0) (network-home s project h.whole.defaults (its-project about (accepted-names h) refl)))
    (network-itself s.networks home name old is) same_project same_name

volume-changed : {expects : Option (List ℕ)} (s : State) (project : List ℕ) (w : What) (pool instance name : List ℕ) (moment : ℕ) (cs : List RowChange) (old r : Volume)
    → Accepts expects s project w moment cs → IsAbout w (target kind.Volume pool instance name)
    → volume_named s.volumes (home_of s.projects project kind.Volume) pool name ≡ Some old
    → r.project ≡ old.project → r.pool ≡ old.pool → r.name ≡ old.name → r.created ≡ old.created → AtOnce s (put_all (row.Volume r ∷ []))
volume-changed s project w pool instance name moment cs old r h about is same_project same_pool same_name same_age =
    let home = home_of s.projects project kind.Volume in
    let named = volume-found s.volumes home pool name old is in
    changes_volume old r
    (subst (λ p. IsHome s p kind.Volume) (sym named.0) (volume-home s project h.whole.defaults (its-project about (accepted-names h) refl)))
    (volume-itself s.volumes home pool name old is) same_project same_pool same_name same_age

instance-changed : {expects : Option (List ℕ)} (s : State) (project : List ℕ) (pool instance name : List ℕ) (body : Body) (moment : ℕ) (cs : List RowChange) (old : Instance)
    → Accepts expects s project (what.Patch (target kind.Instance pool instance name) body) moment cs
    → instance_named s.instances project name ≡ Some old → option_map_or are_profiles body.profiles true ≡ true
    → AtOnce s (put_all (row.Instance (patched_instance old body) ∷ []))
instance-changed s project pool instance name body moment cs old h is profiles =
    let about = about-patch (target kind.Instance pool instance name) body in
    changes_instance old (patched_instance old body)
    (idle-found s project name old is (its-project about (accepted-names h) refl) (it-is_idle name about (accepted-way h) refl))
    (record {
      project = refl;
      name = refl;
      kind = refl;
      created = refl;
      profiles = profiles-or body.profiles old.profiles profiles (few-profiles s project name old h.whole is);
    })

-- ---- PUT

pub puts : {expects : Option (List ℕ)} (s : State) (project : List ℕ) (k : ObjectKind) (pool instance name : List ℕ) (body : Body) (moment : ℕ) (cs : List RowChange)
    → Accepts expects s project (what.Put (target k pool instance name) body) moment cs → AtOnce s cs
unfolding plan_of
puts s project kind.Project pool instance name body moment cs h = by (project_named s.projects name) refl h.plan where
  by : (o : Option Project) → project_named s.projects name ≡ o → if_there (plan_put s project (target kind.Project pool instance name) body) (option_map row.Project o) ≡ changes cs → AtOnce s cs
  by None is e = never_nothing e
  by (Some old) is e = subst (AtOnce s) (changes-are e)
      (project-changed s project _ pool instance name moment cs old (put_project old body) h (about-put _ body) is refl refl
      (ap (λ o. option_map_or (λ r. changes_features r (put_project r body)) o false) is))
puts s project kind.Profile pool instance name body moment cs h = by (profile_named s.profiles (home_of s.projects project kind.Profile) name) refl h.plan where
  by : (o : Option Profile) → profile_named s.profiles (home_of s.projects project kind.Profile) name ≡ o
      → if_there (plan_put s project (target kind.Profile pool instance name) body) (option_map row.Profile o) ≡ changes cs → AtOnce s cs
  by None is e = never_nothing e
  by (Some old) is e = subst (AtOnce s) (changes-are e)
      (profile-changed s project _ pool instance name moment cs old (put_profile old body) h (about-put _ body) is refl refl)
puts s project kind.Network pool instance name body moment cs h = by (network_named s.networks (home_of s.projects project kind.Network) name) refl h.plan where
  by : (o : Option Network) → network_named s.networks (home_of s.projects project kind.Network) name ≡ o
      → if_there (plan_put s project (target kind.Network pool instance name) body) (option_map row.Network o) ≡ changes cs → AtOnce s cs
  by None is e = never_nothing e
  by (Some old) is e = subst (AtOnce s) (changes-are e)
      (network-changed s project _ pool instance name moment cs old (put_network old body) h (about-put _ body) is refl refl)
puts s project kind.Pool pool instance name body moment cs h = by (pool_named s.pools name) refl h.plan where
  by : (o : Option Pool) → pool_named s.pools name ≡ o → if_there (plan_put s project (target kind.Pool pool instance name) body) (option_map row.Pool o) ≡ changes cs → AtOnce s cs
  by None is e = never_nothing e
  by (Some old) is e = subst (AtOnce s) (changes-are e) (changes_pool old (put_pool old body) (pool-itself s.pools name old is) refl)
puts s project kind.Volume pool instance name body moment cs h = by (volume_named s.volumes (home_of s.projects project kind.Volume) pool name) refl h.plan where
  by : (o : Option Volume) → volume_named s.volumes (home_of s.projects project kind.Volume) pool name ≡ o
      → if_there (plan_put s project (target kind.Volume pool instance name) body) (option_map row.Volume o) ≡ changes cs → AtOnce s cs
  by None is e = never_nothing e
  by (Some old) is e = subst (AtOnce s) (changes-are e)
      (volume-changed s project _ pool instance name moment cs old (put_volume old body) h (about-put _ body) is refl refl refl refl)
puts s project kind.Instance pool instance name body moment cs h = by (instance_named s.instances project name) h.plan where
  by : (o : Option Instance) → if_there (plan_put s project (target kind.Instance pool instance name) body) (option_map row.Instance o) ≡ changes cs → AtOnce s cs
  by None e = never_nothing e
  by (Some i) e = never_starts e
puts s project kind.Snapshot pool instance name body moment cs h = by (snapshot_named s.snapshots project instance name) h.plan where
  by : (o : Option Snapshot) → if_there (plan_put s project (target kind.Snapshot pool instance name) body) (option_map row.Snapshot o) ≡ changes cs → AtOnce s cs
  by None e = never_nothing e
  by (Some r) e = never_nothing e
puts s project kind.Operation pool instance name body moment cs h = never_nothing h.plan

-- ---- PATCH

pub patches : {expects : Option (List ℕ)} (s : State) (project : List ℕ) (k : ObjectKind) (pool instance name : List ℕ) (body : Body) (moment : ℕ) (cs : List RowChange)
    → Accepts expects s project (what.Patch (target k pool instance name) body) moment cs → AtOnce s cs
unfolding plan_of
patches s project kind.Project pool instance name body moment cs h = by (project_named s.projects name) refl h.plan where
  by : (o : Option Project) → project_named s.projects name ≡ o → if_there (plan_patch body) (option_map row.Project o) ≡ changes cs → AtOnce s cs
  by None is e = never_nothing e
  by (Some old) is e = subst (AtOnce s) (changes-are e)
      (project-changed s project _ pool instance name moment cs old (patched_project old body) h (about-patch _ body) is refl refl
      (ap (λ o. option_map_or (λ r. changes_features r (patched_project r body)) o false) is))
patches s project kind.Profile pool instance name body moment cs h = by (profile_named s.profiles (home_of s.projects project kind.Profile) name) refl h.plan where
  by : (o : Option Profile) → profile_named s.profiles (home_of s.projects project kind.Profile) name ≡ o
      → if_there (plan_patch body) (option_map row.Profile o) ≡ changes cs → AtOnce s cs
  by None is e = never_nothing e
  by (Some old) is e = subst (AtOnce s) (changes-are e)
      (profile-changed s project _ pool instance name moment cs old (patched_profile old body) h (about-patch _ body) is refl refl)
patches s project kind.Network pool instance name body moment cs h = by (network_named s.networks (home_of s.projects project kind.Network) name) refl h.plan where
  by : (o : Option Network) → network_named s.networks (home_of s.projects project kind.Network) name ≡ o
      → if_there (plan_patch body) (option_map row.Network o) ≡ changes cs → AtOnce s cs
  by None is e = never_nothing e
  by (Some old) is e = subst (AtOnce s) (changes-are e)
      (network-changed s project _ pool instance name moment cs old (patched_network old body) h (about-patch _ body) is refl refl)
patches s project kind.Pool pool instance name body moment cs h = by (pool_named s.pools name) refl h.plan where
  by : (o : Option Pool) → pool_named s.pools name ≡ o → if_there (plan_patch body) (option_map row.Pool o) ≡ changes cs → AtOnce s cs
  by None is e = never_nothing e
  by (Some old) is e = subst (AtOnce s) (changes-are e) (changes_pool old (patched_pool old body) (pool-itself s.pools name old is) refl)
patches s project kind.Volume pool instance name body moment cs h = by (volume_named s.volumes (home_of s.projects project kind.Volume) pool name) refl h.plan where
  by : (o : Option Volume) → volume_named s.volumes (home_of s.projects project kind.Volume) pool name ≡ o
      → if_there (plan_patch body) (option_map row.Volume o) ≡ changes cs → AtOnce s cs
  by None is e = never_nothing e
  by (Some old) is e = subst (AtOnce s) (changes-are e)
      (volume-changed s project _ pool instance name moment cs old (patched_volume old body) h (about-patch _ body) is refl refl refl refl)
patches s project kind.Instance pool instance name body moment cs h = by (instance_named s.instances project name) refl h.plan where
  by : (o : Option Instance) → instance_named s.instances project name ≡ o → if_there (plan_patch body) (option_map row.Instance o) ≡ changes cs → AtOnce s cs
  by None is e = never_nothing e
  by (Some old) is e = subst (AtOnce s) (changes-are e)
      (instance-changed s project pool instance name body moment cs old h is
      (change-profiles kind.Instance body (both_true (is_empty pool && is_empty instance) (is_change kind.Instance body) h.formed).1))
patches s project kind.Snapshot pool instance name body moment cs h = by (snapshot_named s.snapshots project instance name) h.plan where
  by : (o : Option Snapshot) → if_there (plan_patch body) (option_map row.Snapshot o) ≡ changes cs → AtOnce s cs
  by None e = never_nothing e
  by (Some r) e = never_nothing e
patches s project kind.Operation pool instance name body moment cs h = never_nothing h.plan
