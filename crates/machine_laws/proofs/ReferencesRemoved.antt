-- Where an operation succeeds that removes its instance, or gives it another name, the references are kept.
use Rattle.std.proofs.Common.{◌≡◌, ◌≢◌, ℕ, true, cond, Some, None, List, [], ◌∷◌, map, sym, ap, subst, ◌∙◌, inl, inr}
use Rattle.std.specs.Option.{is_some}
use Rattle.plain_lists.specs.Members.{Mem, Each, Distinct}
use Rattle.plain_lists.specs.Edits.{dropped}
use Rattle.plain_lists.proofs.Elements.{Mem-from_map}
use Rattle.plain_lists.proofs.Keys.{Distinct-apart}
use Rattle.plain_lists.proofs.Readings.{Mem-read}
use Rattle.plain_lists.proofs.Searches.{find-some}
use Rattle.plain_lists.proofs.EditLemmas.{Each-dropped}
use Rattle.size_values.specs.declared.kinds.Deed.TheVariants as deed
use Rattle.size_values.specs.declared.kinds.ObjectKind.TheVariants as kind
use Rattle.operations.specs.declared.operation.Operation.{Operation}
use Rattle.operations.specs.OperationTable.{live_at}
use Rattle.records.specs.declared.rows.Instance.{Instance}
use Rattle.records.specs.declared.rows.Snapshot.{Snapshot}
use Rattle.records.specs.declared.rows.Row.TheVariants as row
use Rattle.row_codec.specs.Rows.{HasGoodKey}
use Rattle.row_codec.specs.Spelling.{key_of}
use Rattle.row_machine.specs.machine.Task.{Task}
use Rattle.row_machine.specs.machine.State.{State}
use Rattle.row_machine.specs.machine.Rows.{is_instance, project_named, instance_names, snapshot_names, instance_named, snapshot_named, with_instance}
use Rattle.row_machine.specs.machine.Claims.{of_live, claimed_instance}
use Rattle.row_machine.specs.machine.Changes.{has_key}
use Rattle.row_machine.specs.machine.Asked.{snapshots_of}
use Rattle.row_machine.specs.machine.Holders.{keeps_busy}
use Rattle.row_machine.specs.facts.Whole.{IsWhole, ReferencesExist, new_instance}
use Rattle.row_machine.specs.machine.Deeds.{keeps_name}
use Rattle.machine_laws.proofs.Found.{there-is, instance-found}
use Rattle.machine_laws.proofs.NamesRise.{Rise-Distinct}
use Rattle.machine_laws.proofs.NamesRows.{each-row}
use Rattle.machine_laws.proofs.ReferencesHomes.{at-home, home-at}
use Rattle.machine_laws.proofs.ReferencesKeys.{good-rows}
use Rattle.machine_laws.proofs.ReferencesRows.{instance-each, instance-still, instance-put, instance-other, instance-unremoved}
use Rattle.machine_laws.proofs.ReferencesGuests.{with_guests, guests-references}
use Rattle.machine_laws.proofs.ReferencesBegins.{guest_home}
use Rattle.machine_laws.proofs.ReferencesBusy.{others}
use Rattle.machine_laws.proofs.ReferencesSnapshots.{without_those, left-snapshot, left-found, with_all, Mem-with, with-still, snapshot-of}
use Rattle.machine_laws.proofs.ReferencesSuccess.{rest, rest-references, rest-deeds, leaves-guests, busy-apart, target-busy, own-placed, own-there, own-refers, rest-refers, rest-profiles}

-- without an instance
abbrev pub without_instance : Instance → List Instance → List Instance
without_instance old is = dropped (λ y. has_key (key_of (row.Instance old)) (row.Instance y)) is

-- a snapshot of the instance under its new name
abbrev pub moved_snapshot : Instance → Snapshot → Snapshot
moved_snapshot i r = record r { instance = i.name; project = i.project }

-- the snapshots of the target under its new name, beside the others
abbrev pub moved_snapshots : State → Task → Instance → List Snapshot
moved_snapshots s task i =
    with_all (map (moved_snapshot i) (snapshots_of s task.project task.target.name))
    (without_those s task.project task.target.name)

module _ {s : State} {o : Operation Task} (h : IsWhole s) (live : live_at s.operations o.number ≡ Some o)
    (is_instance_target : o.work.target.kind ≡ kind.Instance)
    (old : Instance) (found : instance_named s.instances o.work.project o.work.target.name ≡ Some old) where
  known : Mem old s.instances
  known = (find-some (is_instance o.work.project o.work.target.name) s.instances old found).0

  old_names : instance_names old ≡ o.work.project ∷ o.work.target.name ∷ []
  old_names = let names = instance-found s.instances o.work.project o.work.target.name old found in λ k. names.0 k ∷ names.1 k ∷ []

  distinct : Distinct snapshot_names s.snapshots
  distinct = Rise-Distinct snapshot_names s.snapshots h.names.snapshots

  goods : Each (λ r. HasGoodKey (row.Snapshot r)) s.snapshots
  goods = (good-rows h.names).snapshots

  left : (y : Snapshot) → Mem y (without_those s o.work.project o.work.target.name)
      → Mem y s.snapshots × ((y.project ∷ y.instance ∷ []) ≢ o.work.project ∷ o.work.target.name ∷ [])
  left = left-snapshot s o.work.project o.work.target.name distinct goods

  -- the instance of a snapshot that is left
  left_there : (y : Snapshot) → Mem y (without_those s o.work.project o.work.target.name)
      → is_some (instance_named (without_instance old s.instances) y.project y.instance) ≡ true
  left_there y m =
      let was = left y m in
      ap is_some (instance-unremoved old y.project y.instance h.names known (λ e. was.1 (sym e ∙ old_names))) ∙
      h.references.snapshots.at y was.0

  -- what others keep busy is another instance
  apart : (x : Operation Task) → Mem x (others s o) → (name : List ℕ) → keeps_busy x.work.project name x.work ≡ true
      → (o.work.project ∷ o.work.target.name ∷ []) ≢ x.work.project ∷ name ∷ []
  apart x m name busy = busy-apart x h live o.work.target.name (target-busy o.work is_instance_target) m name busy

  kept : (x : Operation Task) → Mem x (others s o) → (name : List ℕ) → keeps_busy x.work.project name x.work ≡ true
      → instance_named (without_instance old s.instances) x.work.project name ≡ instance_named s.instances x.work.project name
  kept x m name busy =
      instance-unremoved old x.work.project name h.names known (λ e. apart x m name busy (sym old_names ∙ e))

  kept_snapshots : (x : Operation Task) → Mem x (others s o) → (instance name : List ℕ)
      → keeps_busy x.work.project instance x.work ≡ true
      → snapshot_named (without_those s o.work.project o.work.target.name) x.work.project instance name ≡ snapshot_named s.snapshots x.work.project instance name
  kept_snapshots x m instance name busy =
      left-found s o.work.project o.work.target.name distinct goods x.work.project instance name
      (λ e. apart x m instance busy (sym e))

  -- The instance is removed, and its snapshots with it.
  pub removal-success : ReferencesExist (with_guests (rest s o) (without_instance old s.instances) (without_those s o.work.project o.work.target.name))
  removal-success =
      guests-references (rest s o) (without_instance old s.instances) (without_those s o.work.project o.work.target.name)
      (rest-references s o h.references) (rest-deeds s o h) (record {
        homes = Each-dropped _ (each-row s h.references.homes).instances;
        snapshot_homes = record { at = λ y m. (each-row s h.references.homes).snapshots.at y (left y m).0 };
        snapshots = record { at = left_there };
        snapshot_profiles = record { at = λ y m. (rest-profiles h live).at y (left y m).0 };
        refers = Each-dropped _ (rest-refers h live);
        operations = record {
          at =
              λ x m. leaves-guests (rest s o) (without_instance old s.instances)
              (without_those s o.work.project o.work.target.name) x.work
              (λ name busy there. kept x m name busy)
              (λ instance name busy there. ap is_some (kept_snapshots x m instance name busy) ∙ there);
        };
      })

  -- ---- another name

  module _ (i : Instance) (claim : o.work.claim ≡ Some (row.Instance i)) (renames : o.work.deed ≡ deed.Rename) where
    -- the new name is no instance's
    fresh : (z : Instance) → Mem z s.instances → instance_names i ≢ instance_names z
    fresh z m =
        ((Distinct-apart instance_names s.instances (of_live new_instance s) h.names.new_instances).at z m).at i
        (Mem-read (λ (x : Operation Task). new_instance x.work) o i s.operations.live (own-there h live) is_new) where
          is_new : new_instance o.work ≡ Some i
          is_new =
              ap (λ d. cond (keeps_name d) None (claimed_instance o.work)) renames ∙ ap
              (λ c. claimed_instance (record o.work { claim = c })) claim

    there : is_some (project_named s.projects i.project) ≡ true
    there = (home-at s.projects i.project kind.Instance ((own-placed h live).claim_home (row.Instance i) claim)).there

    -- a fact on each snapshot after the rename
    each_snapshot : (P : Snapshot → Type 0) → ((r : Snapshot) → Mem r s.snapshots → P (moved_snapshot i r))
        → ((y : Snapshot) → Mem y (without_those s o.work.project o.work.target.name) → P y)
        → Each P (moved_snapshots s o.work i)
    each_snapshot P moved stays = record {
      at =
          λ y m. elim
          (Mem-with (map (moved_snapshot i) (snapshots_of s o.work.project o.work.target.name)) y (without_those s o.work.project o.work.target.name) m) [
            | inl n ↦
                let from = Mem-from_map (moved_snapshot i) y (snapshots_of s o.work.project o.work.target.name) n in
                subst P (sym from.1.1) (moved from.0 (snapshot-of s o.work.project o.work.target.name from.0 from.1.0).0)
            | inr n ↦ stays y n
          ];
    }

    other : (x : Operation Task) → (name : List ℕ) → is_some (instance_named s.instances x.work.project name) ≡ true
        → instance_names i ≢ x.work.project ∷ name ∷ []
    other x name is_there e =
        let z = there-is (instance_named s.instances x.work.project name) is_there in
        let names = instance-found s.instances x.work.project name z.0 z.1 in
        fresh z.0 (find-some (is_instance x.work.project name) s.instances z.0 z.1).0
        (e ∙ sym (λ k. names.0 k ∷ names.1 k ∷ []))

    -- The instance gets its new name, and its snapshots go with it.
    pub rename-success : ReferencesExist (with_guests (rest s o) (with_instance i (without_instance old s.instances)) (moved_snapshots s o.work i))
    rename-success =
        guests-references (rest s o) (with_instance i (without_instance old s.instances)) (moved_snapshots s o.work i)
        (rest-references s o h.references) (rest-deeds s o h) (record {
          homes =
              instance-each _ i (without_instance old s.instances) ((own-placed h live).claim_home (row.Instance i) claim)
              (Each-dropped _ (each-row s h.references.homes).instances);
          snapshot_homes = each_snapshot _
              (λ r m. at-home s.projects i.project kind.Snapshot (guest_home s i.project there).1)
              (λ y m. (each-row s h.references.homes).snapshots.at y (left y m).0);
          snapshots = each_snapshot _
              (λ r m. ap is_some (instance-put i (without_instance old s.instances)))
              (λ y m. instance-still i (without_instance old s.instances) y.project y.instance (left_there y m));
          snapshot_profiles =
              each_snapshot _ (λ r m. (rest-profiles h live).at r m) (λ y m. (rest-profiles h live).at y (left y m).0);
          refers =
              instance-each _ i (without_instance old s.instances) (own-refers h live i claim)
              (Each-dropped _ (rest-refers h live));
          operations = record {
            at =
                λ x m. leaves-guests (rest s o) (with_instance i (without_instance old s.instances))
                (moved_snapshots s o.work i) x.work
                (λ name busy is_there. instance-other i (without_instance old s.instances) x.work.project name (other x name is_there) ∙ kept x m name busy)
                (λ instance name busy is_there. with-still (map (moved_snapshot i) (snapshots_of s o.work.project o.work.target.name)) (without_those s o.work.project o.work.target.name)
                x.work.project instance name (ap is_some (kept_snapshots x m instance name busy) ∙ is_there));
          };
        })
