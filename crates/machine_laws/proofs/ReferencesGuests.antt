-- References where instances and snapshots alone change.
use Rattle.std.proofs.Common.{◌≡◌, ℕ, true, false, None, List, [], ◌∷◌, refl, sym, ap, subst, ◌∙◌, true≢false}
use Rattle.std.specs.Option.{is_some}
use Rattle.plain_lists.specs.Members.{Mem, Each}
use Rattle.plain_lists.proofs.Elements.{Each-map, Each-append, Each-left, Each-right}
use Rattle.plain_lists.proofs.Searches.{find-some, find-none}
use Rattle.size_values.specs.declared.kinds.ObjectKind.TheVariants as kind
use Rattle.operations.specs.declared.operation.Operation.{Operation}
use Rattle.records.specs.Forms.{are_profiles}
use Rattle.records.specs.declared.rows.Instance.{Instance}
use Rattle.records.specs.declared.rows.Snapshot.{Snapshot}
use Rattle.records.specs.declared.rows.Row.TheVariants as row
use Rattle.row_machine.specs.machine.Task.{Task}
use Rattle.row_machine.specs.machine.State.{State}
use Rattle.row_machine.specs.machine.Rows.{is_instance, instance_named, with_instance}
use Rattle.row_machine.specs.machine.Claims.{of_live, claimed_instance, claimed_snapshot, judged_instances}
use Rattle.row_machine.specs.machine.Changes.{applied}
use Rattle.row_machine.specs.machine.Holders.{keeps_busy, busy_with}
use Rattle.row_machine.specs.machine.SettingRules.{profile_missing, devices_miss, instance_settings, row_settings}
use Rattle.row_machine.specs.machine.Plans.{put_all}
use Rattle.row_machine.specs.opening.Opening.{home_missing}
use Rattle.row_machine.specs.facts.Whole.{IsWhole, HasReferences, IsByDeed, ReferencesExist}
use Rattle.machine_laws.proofs.Cases.{IsIdle, IsSameInstance}
use Rattle.machine_laws.proofs.NamesRows.{EachRow, each-row, rows-each}
use Rattle.machine_laws.proofs.ReferencesCore.{references-core}
use Rattle.machine_laws.proofs.ReferencesHomes.{IsAtHome, stays-found, homeless-stays, at-home, home-at}
use Rattle.machine_laws.proofs.ReferencesPlaces.{Leaves, placed-stays}
use Rattle.machine_laws.proofs.ReferencesProfiles.{instance-accepted}
use Rattle.machine_laws.proofs.ReferencesRows.{instance-each, instance-still, instance-other}

-- with these instances and snapshots
abbrev pub with_guests : State → List Instance → List Snapshot → State
with_guests s is ss = record s { instances = is; snapshots = ss }

-- what the change of instances and snapshots leaves
pub record GuestsServe (s : State) (is : List Instance) (ss : List Snapshot) : Type 0 where
  pub homes : Each (λ i. home_missing s (row.Instance i) ≡ None) is
  pub snapshot_homes : Each (λ r. home_missing s (row.Snapshot r) ≡ None) ss
  pub snapshots : Each (λ r. is_some (instance_named is r.project r.instance) ≡ true) ss
  pub snapshot_profiles : Each (λ r. are_profiles r.profiles ≡ true) ss
  pub refers : Each (HasReferences s) is
  pub operations : Each (λ o. Leaves s (with_guests s is ss) o.work) s.operations.live

-- what one instance needs, instances and snapshots do not tell
refers-guests : (s : State) (is : List Instance) (ss : List Snapshot) (i : Instance) → HasReferences s i
    → HasReferences (with_guests s is ss) i
unfolding profile_missing devices_miss
refers-guests s is ss i h = record { few = h.few; profiles = h.profiles; devices = h.devices }

pub guests-references : (s : State) (is : List Instance) (ss : List Snapshot) → ReferencesExist s
    → Each (λ o. IsByDeed o.work) s.operations.live → GuestsServe s is ss
    → ReferencesExist (with_guests s is ss)
unfolding judged_instances devices_miss
guests-references s is ss h deeds serve = record {
  homes = rows-each (with_guests s is ss) (record {
    projects = rows.projects;
    profiles = rows.profiles;
    networks = rows.networks;
    pools = rows.pools;
    volumes = rows.volumes;
    instances = serve.homes;
    snapshots = serve.snapshot_homes;
  });
  volumes = h.volumes;
  snapshots = serve.snapshots;
  snapshot_profiles = Each-append serve.snapshot_profiles (Each-right s.snapshots h.snapshot_profiles);
  profiles = h.profiles;
  instances = Each-map (refers-guests s is ss) (Each-append serve.refers (Each-right s.instances h.instances));
  operations = record { at = λ o m. placed-stays (deeds.at o m) (serve.operations.at o m) (h.operations.at o m) };
} where
  rows : EachRow (λ r. home_missing s r ≡ None) s
  rows = each-row s h.homes

-- ---- an instance is changed at once

-- no operation keeps an idle instance busy
pub idle-free : (s : State) (project name : List ℕ) → busy_with s project name ≡ None
    → Each (λ o. keeps_busy project name o.work ≡ false) s.operations.live
unfolding busy_with
idle-free s project name e = find-none (λ (o : Operation Task). keeps_busy project name o.work) s.operations.live e

-- the instance under its name is at home where its project is there
pub instance-home : (s : State) (old i : Instance) → ReferencesExist s → Mem old s.instances → i.project ≡ old.project
    → home_missing s (row.Instance i) ≡ None
instance-home s old i h m same =
    homeless-stays s s (row.Instance i) (stays-found s.projects s.projects i.project refl)
    (at-home s.projects i.project kind.Instance (subst (λ p. IsAtHome s.projects p kind.Instance) (sym same) (home-at s.projects old.project kind.Instance ((each-row s h.homes).instances.at old m))))

-- an instance that the rules on settings accept
pub instance-row_accepted : (t : State) (i : Instance) → row_settings t (row.Instance i) ≡ None
    → instance_settings t i ≡ None
unfolding row_settings
instance-row_accepted t i e = e

-- what an instance needs, its own row does not tell
patched_refers : (s : State) (i : Instance) → HasReferences (applied s (put_all (row.Instance i ∷ []))) i → HasReferences s i
unfolding profile_missing devices_miss
patched_refers s i h = record { few = h.few; profiles = h.profiles; devices = h.devices }

pub rows-refers : (s : State) → ReferencesExist s → Each (HasReferences s) s.instances
unfolding judged_instances
rows-refers s h = Each-left (of_live claimed_instance s) h.instances

pub instance-patched_references : (s : State) (old i : Instance) → IsWhole s → IsIdle s old → IsSameInstance old i
    → row_settings (applied s (put_all (row.Instance i ∷ []))) (row.Instance i) ≡ None
    → ReferencesExist (applied s (put_all (row.Instance i ∷ [])))
instance-patched_references s old i h idle same settled =
    references-core (with_guests s is s.snapshots) (applied s (put_all (row.Instance i ∷ []))) refl
    (guests-references s is s.snapshots h.references h.operations.deeds (record {
      homes =
          instance-each _ i s.instances (instance-home s old i h.references there same.project)
          (each-row s h.references.homes).instances;
      snapshot_homes = (each-row s h.references.homes).snapshots;
      snapshots = Each-map (λ r found. instance-still i s.instances r.project r.instance found) h.references.snapshots;
      snapshot_profiles = Each-left (of_live claimed_snapshot s) h.references.snapshot_profiles;
      refers = instance-each (HasReferences s) i s.instances own (rows-refers s h.references);
      operations = record { at = λ o m. leaves o (free.at o m) };
    }))
  where
    is : List Instance
    is = with_instance i s.instances

    there : Mem old s.instances
    there = (find-some (is_instance old.project old.name) s.instances old idle.there).0

    free : Each (λ o. keeps_busy old.project old.name o.work ≡ false) s.operations.live
    free = idle-free s old.project old.name idle.idle

    own : HasReferences s i
    own =
        let parts = instance-accepted (applied s (put_all (row.Instance i ∷ []))) i (instance-row_accepted (applied s (put_all (row.Instance i ∷ []))) i settled) in
        patched_refers s i (record { few = same.profiles; profiles = parts.0; devices = parts.1 })

    leaves : (o : Operation Task) → keeps_busy old.project old.name o.work ≡ false
        → Leaves s (with_guests s is s.snapshots) o.work
    leaves o idle_of = record {
      project = stays-found s.projects s.projects o.work.project refl;
      instances = λ name busy found. instance-other i s.instances o.work.project name (λ e.
          let project : i.project ≡ o.work.project = cc in
          let same_name : i.name ≡ name = cc in
          true≢false
          (sym (ap (λ p. keeps_busy p old.name o.work) (sym same.project ∙ project) ∙ ap (λ n. keeps_busy o.work.project n o.work) (sym same.name ∙ same_name) ∙ busy) ∙ idle_of));
      snapshots = λ instance name busy found. found;
      volumes = λ of is_source volume found. found;
      pools = λ v is_claim found. found;
    }
