-- What a creation is made from is there, so it is planned.
use Rattle.std.proofs.Common.{◌≡◌, ℕ, Bool, true, false, cond, ◌&&◌, ◌==◌, length, Option, Some, None, List, refl}
use Rattle.std.specs.Option.{is_some}
use Rattle.plain_lists.proofs.FirstLemmas.{none_both, told_unless}
use Rattle.size_values.specs.declared.kinds.ObjectKind.{ObjectKind}
use Rattle.size_values.specs.declared.kinds.ObjectKind.TheVariants as kind
use Rattle.records.specs.Forms.{created_fields, has_forms, has_needed, has_only, is_creation, is_named, is_none_origin, may_come_from, stands_in}
use Rattle.records.specs.declared.commands.Body.{Body}
use Rattle.records.specs.declared.commands.Origin.{Origin}
use Rattle.records.specs.declared.commands.Origin.TheVariants as origin
use Rattle.records.specs.declared.commands.What.TheVariants as what
use Rattle.records.specs.declared.rows.Snapshot.{Snapshot}
use Rattle.row_codec.proofs.Fields.{both_true}
use Rattle.row_machine.specs.machine.Task.{Task}
use Rattle.row_machine.specs.machine.State.{State}
use Rattle.row_machine.specs.machine.Rows.{instance_named, snapshot_named, volume_named}
use Rattle.row_machine.specs.machine.Homes.{home_of}
use Rattle.row_machine.specs.machine.NameRules.{missing_unless, parent_missing, source_missing, volume_source, what_is_missing}
use Rattle.row_machine.specs.machine.Plans.{Plan, starts, if_there, instance_creation, volume_creation, plan_create}
use Rattle.machine_laws.proofs.Commands.{target}
use Rattle.machine_laws.proofs.Told.{object-there}
use Rattle.plans_tasks.specs.Begun.{task_in}
use Rattle.core_objects.specs.Commands.{is_made_at_once, is_object_command}

-- what is there begins an operation
pub begins-there : {X : Type 0} (plan : X → Plan) (o : Option X) → ((x : X) → task_in (plan x) ≡ None → ⊥) → is_some o ≡ true → task_in (if_there plan o) ≡ None → ⊥
begins-there plan None begins there e = cc
begins-there plan (Some x) begins there e = begins x e

-- ---- copies of instances

-- of the instance itself, or of its snapshot
either : (b : Bool) (snapshot : List ℕ) (task : Task) (of_snapshot : Snapshot → Task) (o : Option Snapshot)
    → cond b None (missing_unless (is_some o) kind.Snapshot snapshot) ≡ None
    → task_in (cond b (starts task) (if_there (λ r. starts (of_snapshot r)) o)) ≡ None → ⊥
either true snapshot task of_snapshot o there e = cc
either false snapshot task of_snapshot None there e = cc
either false snapshot task of_snapshot (Some r) there e = cc

module _ (s : State) (project pool instance name : List ℕ) (body : Body) (moment : ℕ) where
  makes-instance : (from : Origin) → source_missing s project (target kind.Instance pool instance name) from ≡ None
      → task_in (instance_creation s project (target kind.Instance pool instance name) body moment from) ≡ None → ⊥
  makes-instance origin.None found e = cc
  makes-instance (origin.Image alias) found e = cc
  makes-instance (origin.Copy from snapshot from_pool) found e =
      let parts = none_both (missing_unless (is_some (instance_named s.instances project from)) kind.Instance from) _ found in
      let there = (none_both (cond (length snapshot == 0) None (missing_unless (is_some (snapshot_named s.snapshots project from snapshot)) kind.Snapshot snapshot)) None parts.1).0 in
      begins-there _ (instance_named s.instances project from)
      (λ i. either (length snapshot == 0) snapshot _ _ (snapshot_named s.snapshots project from snapshot) there)
      (told_unless _ _ parts.0) e

  -- ---- copies of volumes

  copies-volume : (from : Origin) → is_made_at_once from ≡ false → source_missing s project (target kind.Volume pool instance name) from ≡ None
      → task_in (volume_creation s (home_of s.projects project kind.Volume) (target kind.Volume pool instance name) body moment from) ≡ None → ⊥
  copies-volume (origin.Copy from snapshot from_pool) copied found e =
      begins-there _ (volume_named s.volumes (home_of s.projects project kind.Volume) from_pool from) (λ v e. cc)
      (object-there s project (volume_source (target kind.Volume pool instance name) from from_pool) found).1 e
  copies-volume from copied found e = cc

-- ---- what is made at once

-- what comes from nothing is no copy
no-copy : (from : Origin) → is_none_origin from ≡ true → is_made_at_once from ≡ true
no-copy origin.None is = refl
no-copy from is = cc

-- where a new object comes from
from-where : (k : ObjectKind) (body : Body) → is_creation k body ≡ true → may_come_from k body.origin ≡ true
from-where k body e =
    let fields = has_only (created_fields k body.origin) body in
    let needed = both_true (fields && has_forms body && may_come_from k body.origin) (has_needed k body) e in
    (both_true (fields && has_forms body) (may_come_from k body.origin) needed.0).1

never : {b : Bool} → b ≡ true → b ≡ false → ⊥
never is isnt = cc

-- ---- each creation

module _ (s : State) (project pool instance name : List ℕ) (body : Body) (moment : ℕ) where
  pub creates : (k : ObjectKind) → ((is_named k && stands_in k pool instance) && is_creation k body) ≡ true
      → is_object_command (what.Create (target k pool instance name) body) ≡ false
      → what_is_missing s project (what.Create (target k pool instance name) body) ≡ None
      → task_in (plan_create s project (target k pool instance name) body moment) ≡ None → ⊥
  unfolding what_is_missing
  creates kind.Project formed other found e = never (no-copy body.origin (from-where kind.Project body (both_true _ (is_creation kind.Project body) formed).1)) other
  creates kind.Profile formed other found e = never (no-copy body.origin (from-where kind.Profile body (both_true _ (is_creation kind.Profile body) formed).1)) other
  creates kind.Network formed other found e = never (no-copy body.origin (from-where kind.Network body (both_true _ (is_creation kind.Network body) formed).1)) other
  creates kind.Pool formed other found e = never (no-copy body.origin (from-where kind.Pool body (both_true _ (is_creation kind.Pool body) formed).1)) other
  creates kind.Volume formed other found e =
      let of = target kind.Volume pool instance name in
      let parts = none_both (parent_missing s project of) _ found in
      copies-volume s project pool instance name body moment body.origin other (none_both (source_missing s project of body.origin) None parts.1).0 e
  creates kind.Instance formed other found e =
      let of = target kind.Instance pool instance name in
      let parts = none_both (parent_missing s project of) _ found in
      makes-instance s project pool instance name body moment body.origin (none_both (source_missing s project of body.origin) None parts.1).0 e
  creates kind.Snapshot formed other found e =
      let parts = none_both (parent_missing s project (target kind.Snapshot pool instance name)) _ found in
      begins-there _ (instance_named s.instances project instance) (λ i e. cc) (told_unless _ _ parts.0) e
  creates kind.Operation formed other found e = cc
