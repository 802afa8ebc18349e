-- Which row an operation claims, by what is read of the claim.
use Rattle.std.proofs.Common.{◌≡◌, Option, Some, None, refl, ap, ◌∙◌}
use Rattle.std.specs.Option.{option_map}
use Rattle.size_values.specs.declared.kinds.ObjectKind.TheVariants as kind
use Rattle.records.specs.declared.rows.Volume.{Volume}
use Rattle.records.specs.declared.rows.Instance.{Instance}
use Rattle.records.specs.declared.rows.Snapshot.{Snapshot}
use Rattle.records.specs.declared.rows.Row.{Row}
use Rattle.records.specs.declared.rows.Row.TheVariants as row
use Rattle.row_machine.specs.machine.Task.{Task}
use Rattle.row_machine.specs.shown.Urls.{target_of}
use Rattle.row_machine.specs.machine.Claims.{claimed_instance, claimed_volume, claimed_snapshot}
use Rattle.machine_laws.proofs.Found.{some-is}

pub claim-instance : (task : Task) (i : Instance) → claimed_instance task ≡ Some i
    → task.claim ≡ Some (row.Instance i)
claim-instance task i e = at task.claim refl e where
  at : (c : Option Row) → task.claim ≡ c → claimed_instance (record task { claim = c }) ≡ Some i
      → task.claim ≡ Some (row.Instance i)
  at None is e = cc
  at (Some (row.Instance r)) is e = is ∙ ap (λ x. Some (row.Instance x)) (some-is e)
  at (Some (row.Project r)) is e = cc
  at (Some (row.Profile r)) is e = cc
  at (Some (row.Network r)) is e = cc
  at (Some (row.Pool r)) is e = cc
  at (Some (row.Volume r)) is e = cc
  at (Some (row.Snapshot r)) is e = cc

pub claim-volume : (task : Task) (v : Volume) → claimed_volume task ≡ Some v → task.claim ≡ Some (row.Volume v)
claim-volume task v e = at task.claim refl e where
  at : (c : Option Row) → task.claim ≡ c → claimed_volume (record task { claim = c }) ≡ Some v
      → task.claim ≡ Some (row.Volume v)
  at None is e = cc
  at (Some (row.Volume r)) is e = is ∙ ap (λ x. Some (row.Volume x)) (some-is e)
  at (Some (row.Project r)) is e = cc
  at (Some (row.Profile r)) is e = cc
  at (Some (row.Network r)) is e = cc
  at (Some (row.Pool r)) is e = cc
  at (Some (row.Instance r)) is e = cc
  at (Some (row.Snapshot r)) is e = cc

pub claim-snapshot : (task : Task) (r : Snapshot) → claimed_snapshot task ≡ Some r
    → task.claim ≡ Some (row.Snapshot r)
claim-snapshot task x e = at task.claim refl e where
  at : (c : Option Row) → task.claim ≡ c → claimed_snapshot (record task { claim = c }) ≡ Some x
      → task.claim ≡ Some (row.Snapshot x)
  at None is e = cc
  at (Some (row.Snapshot r)) is e = is ∙ ap (λ y. Some (row.Snapshot y)) (some-is e)
  at (Some (row.Project r)) is e = cc
  at (Some (row.Profile r)) is e = cc
  at (Some (row.Network r)) is e = cc
  at (Some (row.Pool r)) is e = cc
  at (Some (row.Instance r)) is e = cc
  at (Some (row.Volume r)) is e = cc

-- ---- by its kind

pub instance-claimed : (o : Option Row) → option_map (λ r. (target_of r).kind) o ≡ Some kind.Instance
    → (i : Instance) × (o ≡ Some (row.Instance i))
instance-claimed None e = cc
instance-claimed (Some (row.Instance i)) e = (i, refl)
instance-claimed (Some (row.Project x)) e = cc
instance-claimed (Some (row.Profile x)) e = cc
instance-claimed (Some (row.Network x)) e = cc
instance-claimed (Some (row.Pool x)) e = cc
instance-claimed (Some (row.Volume x)) e = cc
instance-claimed (Some (row.Snapshot x)) e = cc

pub volume-claimed : (o : Option Row) → option_map (λ r. (target_of r).kind) o ≡ Some kind.Volume
    → (v : Volume) × (o ≡ Some (row.Volume v))
volume-claimed None e = cc
volume-claimed (Some (row.Volume v)) e = (v, refl)
volume-claimed (Some (row.Project x)) e = cc
volume-claimed (Some (row.Profile x)) e = cc
volume-claimed (Some (row.Network x)) e = cc
volume-claimed (Some (row.Pool x)) e = cc
volume-claimed (Some (row.Instance x)) e = cc
volume-claimed (Some (row.Snapshot x)) e = cc

pub snapshot-claimed : (o : Option Row) → option_map (λ r. (target_of r).kind) o ≡ Some kind.Snapshot
    → (r : Snapshot) × (o ≡ Some (row.Snapshot r))
snapshot-claimed None e = cc
snapshot-claimed (Some (row.Snapshot r)) e = (r, refl)
snapshot-claimed (Some (row.Project x)) e = cc
snapshot-claimed (Some (row.Profile x)) e = cc
snapshot-claimed (Some (row.Network x)) e = cc
snapshot-claimed (Some (row.Pool x)) e = cc
snapshot-claimed (Some (row.Volume x)) e = cc
snapshot-claimed (Some (row.Instance x)) e = cc
