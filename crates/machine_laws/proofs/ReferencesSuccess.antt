-- Where an operation succeeds that puts its claim, or removes a snapshot, the references are kept.
use Rattle.std.proofs.Common.{◌≡◌, ◌≢◌, ℕ, true, Some, List, [], ◌∷◌, refl, sym, ap, subst, ◌∙◌, true≢false}
use Rattle.std.specs.Option.{is_some}
use Rattle.plain_lists.specs.Members.{Mem, Each}
use Rattle.plain_lists.specs.Edits.{dropped}
use Rattle.plain_lists.proofs.Elements.{Each-map, Each-left, Each-right}
use Rattle.plain_lists.proofs.Readings.{Mem-read}
use Rattle.plain_lists.proofs.Searches.{find-some}
use Rattle.plain_lists.proofs.EditLemmas.{Each-dropped}
use Rattle.config_lists.proofs.Keys.{bytes_eq-itself}
use Rattle.size_values.specs.declared.kinds.ObjectKind.TheVariants as kind
use Rattle.operations.specs.declared.operation.Operation.{Operation}
use Rattle.operations.specs.OperationTable.{has_number, live_at}
use Rattle.records.specs.Forms.{are_profiles}
use Rattle.records.specs.declared.rows.Volume.{Volume}
use Rattle.records.specs.declared.rows.Instance.{Instance}
use Rattle.records.specs.declared.rows.Snapshot.{Snapshot}
use Rattle.records.specs.declared.rows.Row.TheVariants as row
use Rattle.row_codec.specs.Spelling.{key_of}
use Rattle.row_machine.specs.machine.Task.{Task}
use Rattle.row_machine.specs.machine.State.{State}
use Rattle.row_machine.specs.machine.Rows.{is_snapshot, instance_named, snapshot_named, with_instance, with_snapshot, with_volume}
use Rattle.row_machine.specs.machine.Claims.{of_live, claimed_instance, claimed_snapshot, judged_instances}
use Rattle.row_machine.specs.machine.Changes.{has_key}
use Rattle.row_machine.specs.shown.Urls.{target_of}
use Rattle.row_machine.specs.machine.Holders.{keeps_busy, is_about}
use Rattle.row_machine.specs.facts.Whole.{IsWhole, IsByDeed, IsPlaced, HasReferences, ReferencesExist}
use Rattle.machine_laws.proofs.Found.{snapshot-found}
use Rattle.machine_laws.proofs.NamesRows.{each-row}
use Rattle.machine_laws.proofs.ReferencesCore.{references-fewer, refers-rows}
use Rattle.machine_laws.proofs.ReferencesOperations.{AreOf-dropped}
use Rattle.machine_laws.proofs.ReferencesHomes.{stays-found}
use Rattle.machine_laws.proofs.ReferencesPlaces.{Leaves, busy-target}
use Rattle.machine_laws.proofs.ReferencesRows.{instance-each, snapshot-each, instance-still, instance-other, snapshot-still, snapshot-unremoved}
use Rattle.machine_laws.proofs.ReferencesGuests.{with_guests, guests-references, rows-refers}
use Rattle.machine_laws.proofs.ReferencesVolumes.{volume-put_references}
use Rattle.machine_laws.proofs.ReferencesBusy.{others, busy-alone}

-- ---- the state without the operation

abbrev pub rest : State → Operation Task → State
rest s o = record s { operations = record s.operations { live = others s o } }

pub rest-references : (s : State) (o : Operation Task) → ReferencesExist s → ReferencesExist (rest s o)
rest-references s o h = references-fewer s (rest s o) refl (AreOf-dropped (has_number o.number) s.operations.live) h

pub rest-deeds : (s : State) (o : Operation Task) → IsWhole s → Each (λ x. IsByDeed x.work) (others s o)
rest-deeds s o h = Each-dropped _ h.operations.deeds

-- operations are left where the instances and snapshots that they keep busy stay
pub leaves-guests : (s : State) (is : List Instance) (ss : List Snapshot) (task : Task)
    → ((name : List ℕ) → keeps_busy task.project name task ≡ true → is_some (instance_named s.instances task.project name) ≡ true
    → instance_named is task.project name ≡ instance_named s.instances task.project name)
    → ((instance name : List ℕ) → keeps_busy task.project instance task ≡ true → is_some (snapshot_named s.snapshots task.project instance name) ≡ true
    → is_some (snapshot_named ss task.project instance name) ≡ true)
    → Leaves s (with_guests s is ss) task
leaves-guests s is ss task instances snapshots = record {
  project = stays-found s.projects s.projects task.project refl;
  instances = instances;
  snapshots = snapshots;
  volumes = λ of source volume there. there;
  pools = λ v claim there. there;
}

-- what an operation keeps busy is another instance than what the others keep busy
pub busy-apart : {s : State} {o : Operation Task} (x : Operation Task) → IsWhole s
    → live_at s.operations o.number ≡ Some o → (name : List ℕ)
    → keeps_busy o.work.project name o.work ≡ true → Mem x (others s o) → (other : List ℕ)
    → keeps_busy x.work.project other x.work ≡ true
    → (o.work.project ∷ name ∷ []) ≢ x.work.project ∷ other ∷ []
busy-apart {s} {o} x h live name busy m other also e =
    let projects : o.work.project ≡ x.work.project = cc in
    let names : name ≡ other = cc in
    true≢false
    (sym (ap (λ p. keeps_busy p name x.work) projects ∙ ap (λ n. keeps_busy x.work.project n x.work) names ∙ also)
    ∙ (busy-alone h live o.work.project name busy).at x m)

-- the instance of a target is kept busy
pub target-busy : (task : Task) → task.target.kind ≡ kind.Instance
    → keeps_busy task.project task.target.name task ≡ true
target-busy task is = busy-target task task.target.name
    (subst (λ k. is_about task.target.name (record task.target { kind = k }) ≡ true) (sym is) (bytes_eq-itself task.target.name))

pub snapshot-busy : (task : Task) → task.target.kind ≡ kind.Snapshot
    → keeps_busy task.project task.target.instance task ≡ true
snapshot-busy task is = busy-target task task.target.instance
    (subst (λ k. is_about task.target.instance (record task.target { kind = k }) ≡ true) (sym is) (bytes_eq-itself task.target.instance))

-- ---- the facts of the operation

module _ {s : State} {o : Operation Task} (h : IsWhole s) (live : live_at s.operations o.number ≡ Some o) where
  pub own-there : Mem o s.operations.live
  own-there = (find-some (has_number o.number) s.operations.live o live).0

  pub own-placed : IsPlaced s o.work
  own-placed = h.references.operations.at o own-there

  pub own-deed : IsByDeed o.work
  own-deed = h.operations.deeds.at o own-there

  -- what is claimed has all that it names
  pub own-refers : (i : Instance) → o.work.claim ≡ Some (row.Instance i) → HasReferences (rest s o) i
  unfolding judged_instances
  own-refers i claim = refers-rows s (rest s o) i refl ((Each-right s.instances h.references.instances).at i
      (Mem-read (λ (x : Operation Task). claimed_instance x.work) o i s.operations.live own-there (ap (λ c. claimed_instance (record o.work { claim = c })) claim)))

  pub rest-refers : Each (HasReferences (rest s o)) s.instances
  rest-refers = rows-refers (rest s o) (rest-references s o h.references)

  pub rest-profiles : Each (λ (r : Snapshot). are_profiles r.profiles ≡ true) s.snapshots
  rest-profiles = Each-left (of_live claimed_snapshot s) h.references.snapshot_profiles

  -- ---- an instance is put

  pub instance-success : (i : Instance) → o.work.claim ≡ Some (row.Instance i)
      → target_of (row.Instance i) ≡ o.work.target
      → ReferencesExist (with_guests (rest s o) (with_instance i s.instances) s.snapshots)
  instance-success i claim named =
      guests-references (rest s o) (with_instance i s.instances) s.snapshots (rest-references s o h.references) (rest-deeds s o h)
      (record {
        homes =
            instance-each _ i s.instances (own-placed.claim_home (row.Instance i) claim)
            (each-row s h.references.homes).instances;
        snapshot_homes = (each-row s h.references.homes).snapshots;
        snapshots = Each-map (λ r there. instance-still i s.instances r.project r.instance there) h.references.snapshots;
        snapshot_profiles = rest-profiles;
        refers = instance-each (HasReferences (rest s o)) i s.instances (own-refers i claim) rest-refers;
        operations = record {
          at = λ x m. leaves-guests (rest s o) (with_instance i s.instances) s.snapshots x.work
              (λ name busy there. instance-other i s.instances x.work.project name
              (λ e. busy-apart x h live i.name own_busy m name busy (ap (λ p. p ∷ i.name ∷ []) (sym project) ∙ e)))
              (λ instance name busy there. there);
        };
      }) where
        project : i.project ≡ o.work.project
        project = own-placed.claim_project (row.Instance i) claim

        own_busy : keeps_busy o.work.project i.name o.work ≡ true
        own_busy = busy-target o.work i.name (ap (is_about i.name) (sym named) ∙ bytes_eq-itself i.name)

  -- ---- a snapshot is put

  pub snapshot-success : (r : Snapshot) → o.work.claim ≡ Some (row.Snapshot r)
      → ReferencesExist (with_guests (rest s o) s.instances (with_snapshot r s.snapshots))
  snapshot-success r claim =
      guests-references (rest s o) s.instances (with_snapshot r s.snapshots) (rest-references s o h.references) (rest-deeds s o h)
      (record {
        homes = (each-row s h.references.homes).instances;
        snapshot_homes =
            snapshot-each _ r s.snapshots (own-placed.claim_home (row.Snapshot r) claim)
            (each-row s h.references.homes).snapshots;
        snapshots = snapshot-each _ r s.snapshots
            (ap (λ p. is_some (instance_named s.instances p r.instance)) (own-placed.claim_project (row.Snapshot r) claim) ∙ own-placed.instance (row.Snapshot r) claim refl)
            h.references.snapshots;
        snapshot_profiles = snapshot-each _ r s.snapshots
            ((Each-right s.snapshots h.references.snapshot_profiles).at r
            (Mem-read (λ (x : Operation Task). claimed_snapshot x.work) o r s.operations.live own-there (ap (λ c. claimed_snapshot (record o.work { claim = c })) claim)))
            rest-profiles;
        refers = rest-refers;
        operations = record {
          at = λ x m. leaves-guests (rest s o) s.instances (with_snapshot r s.snapshots) x.work
              (λ name busy there. refl)
              (λ instance name busy there. snapshot-still r s.snapshots x.work.project instance name there);
        };
      })

  -- ---- a volume is put

  pub volume-success : (v : Volume) → o.work.claim ≡ Some (row.Volume v)
      → ReferencesExist (record (rest s o) { volumes = with_volume v s.volumes })
  volume-success v claim = volume-put_references (rest s o) v (rest-references s o h.references) (rest-deeds s o h)
      (own-placed.claim_home (row.Volume v) claim) (own-placed.pool (row.Volume v) claim refl)

  -- ---- a snapshot is removed

  pub unsnap-success : (r : Snapshot)
      → snapshot_named s.snapshots o.work.project o.work.target.instance o.work.target.name ≡ Some r
      → o.work.target.kind ≡ kind.Snapshot
      → ReferencesExist (with_guests (rest s o) s.instances (dropped (λ y. has_key (key_of (row.Snapshot r)) (row.Snapshot y)) s.snapshots))
  unsnap-success r found is =
      guests-references (rest s o) s.instances left (rest-references s o h.references) (rest-deeds s o h) (record {
        homes = (each-row s h.references.homes).instances;
        snapshot_homes = Each-dropped _ (each-row s h.references.homes).snapshots;
        snapshots = Each-dropped _ h.references.snapshots;
        snapshot_profiles = Each-dropped _ rest-profiles;
        refers = rest-refers;
        operations = record {
          at = λ x m. leaves-guests (rest s o) s.instances left x.work
              (λ name busy there. refl)
              (λ instance name busy there. ap is_some (snapshot-unremoved r x.work.project instance name h.names known (λ e.
              let projects : r.project ≡ x.work.project = cc in
              let instances : r.instance ≡ instance = cc in
              busy-apart x h live o.work.target.instance (snapshot-busy o.work is) m instance busy
              (λ k. (sym names.0 ∙ projects) k ∷ (sym names.1.0 ∙ instances) k ∷ []))) ∙ there);
        };
      }) where
        left : List Snapshot
        left = dropped (λ y. has_key (key_of (row.Snapshot r)) (row.Snapshot y)) s.snapshots

        known : Mem r s.snapshots
        known = (find-some (is_snapshot o.work.project o.work.target.instance o.work.target.name) s.snapshots r found).0

        names : (r.project ≡ o.work.project) × ((r.instance ≡ o.work.target.instance) × (r.name ≡ o.work.target.name))
        names = snapshot-found s.snapshots o.work.project o.work.target.instance o.work.target.name r found
