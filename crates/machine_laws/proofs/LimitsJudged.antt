-- What is judged after an operation ended was judged before.
use Rattle.std.proofs.Common.{◌≡◌, ℕ, Option, Some, List, ◌++◌, ◌⊎◌, sym, ◌∙◌, ap, subst, inl, inr}
use Rattle.std.specs.List.{filter_map}
use Rattle.plain_lists.specs.Members.{Mem}
use Rattle.plain_lists.specs.Edits.{dropped}
use Rattle.plain_lists.proofs.Elements.{Mem-left, Mem-right, Mem-append}
use Rattle.plain_lists.proofs.Readings.{Mem-read, Mem-from_read}
use Rattle.plain_lists.proofs.EditLemmas.{Mem-dropped}
use Rattle.plain_lists.proofs.Searches.{find-some}
use Rattle.operations.specs.declared.operation.Operation.{Operation}
use Rattle.operations.specs.OperationTable.{has_number, live_at}
use Rattle.records.specs.declared.rows.Volume.{Volume}
use Rattle.records.specs.declared.rows.Instance.{Instance}
use Rattle.records.specs.declared.rows.Row.TheVariants as row
use Rattle.row_codec.specs.Spelling.{two_names}
use Rattle.row_machine.specs.machine.Task.{Task}
use Rattle.row_machine.specs.machine.State.{State}
use Rattle.row_machine.specs.machine.Rows.{is_instance, is_volume, instance_names, volume_names, texts_before}
use Rattle.row_machine.specs.machine.Changes.{has_key}
use Rattle.row_machine.specs.machine.Claims.{of_live, claimed_instance, claimed_volume, judged_instances, judged_volumes}
use Rattle.machine_laws.proofs.NamesLists.{Mem-replaced}
use Rattle.machine_laws.proofs.LimitsRows.{Tables, tables, IsDone, stays, puts_volume, puts_instance, drops_instance, renames_instance_to, renames_none}

-- what is read off live operations, of which one ended
pub live-fewer : {X : Type 0} (read : Task → Option X) (s t : State) (n : ℕ) (x : X) → t.operations.live ≡ dropped (has_number n) s.operations.live
    → Mem x (of_live read t) → Mem x (of_live read s)
live-fewer {X} read s t n x rest m =
    let at : Mem x (filter_map (λ (o : Operation Task). read o.work) (dropped (has_number n) s.operations.live)) =
    subst (λ os. Mem x (filter_map (λ (o : Operation Task). read o.work) os)) rest m in
    let found = Mem-from_read (λ (o : Operation Task). read o.work) x (dropped (has_number n) s.operations.live) at in
    Mem-read (λ (o : Operation Task). read o.work) found.0 x s.operations.live (Mem-dropped found.0 (has_number n) s.operations.live found.1.0) found.1.1

-- the rows after a success are rows from before, or the claim
pub instance-done : (s : State) (task : Task) {later : Tables} (i : Instance) → IsDone (tables s) task later → Mem i later.instances
    → Mem i s.instances ⊎ (claimed_instance task ≡ Some i)
instance-done s task i done m = by done m where
  claimed : (j : Instance) → task.claim ≡ Some (row.Instance j) → i ≡ j → claimed_instance task ≡ Some i
  claimed j is e = ap (λ claim. claimed_instance (record task { claim = claim })) is ∙ ap Some (sym e)

  put : (j : Instance) (rows : List Instance) → task.claim ≡ Some (row.Instance j) → ((n : Mem i rows) → Mem i s.instances)
      → (i ≡ j) ⊎ Mem i rows → Mem i s.instances ⊎ (claimed_instance task ≡ Some i)
  put j rows is from (inl e) = inr (claimed j is e)
  put j rows is from (inr n) = inl (from n)

  by : {later : Tables} → IsDone (tables s) task later → Mem i later.instances → Mem i s.instances ⊎ (claimed_instance task ≡ Some i)
  by (stays e) n = inl (subst (λ (t : Tables). Mem i t.instances) e n)
  by (puts_volume v is e) n = inl (subst (λ (t : Tables). Mem i t.instances) e n)
  by (puts_instance j is other keeps e) n = put j s.instances is (λ x. x)
      (Mem-replaced (is_instance j.project j.name) (λ y. texts_before (instance_names j) (instance_names y)) j i s.instances (subst (λ (t : Tables). Mem i t.instances) e n))
  by (drops_instance old found nothing of e) n = inl (Mem-dropped i (λ r. has_key (two_names old.project old.name) (row.Instance r)) s.instances (subst (λ (t : Tables). Mem i t.instances) e n))
  by (renames_instance_to old j is rename found e) n = put j (dropped (λ r. has_key (two_names old.project old.name) (row.Instance r)) s.instances) is
      (λ x. Mem-dropped i (λ r. has_key (two_names old.project old.name) (row.Instance r)) s.instances x)
      (Mem-replaced (is_instance j.project j.name) (λ y. texts_before (instance_names j) (instance_names y)) j i _ (subst (λ (t : Tables). Mem i t.instances) e n))
  by (renames_none j is rename found e) n = put j s.instances is (λ x. x)
      (Mem-replaced (is_instance j.project j.name) (λ y. texts_before (instance_names j) (instance_names y)) j i s.instances (subst (λ (t : Tables). Mem i t.instances) e n))

pub volume-done : (s : State) (task : Task) {later : Tables} (v : Volume) → IsDone (tables s) task later → Mem v later.volumes
    → Mem v s.volumes ⊎ (claimed_volume task ≡ Some v)
volume-done s task v done m = by done m where
  put : (w : Volume) → task.claim ≡ Some (row.Volume w) → (v ≡ w) ⊎ Mem v s.volumes → Mem v s.volumes ⊎ (claimed_volume task ≡ Some v)
  put w is (inl e) = inr (ap (λ claim. claimed_volume (record task { claim = claim })) is ∙ ap Some (sym e))
  put w is (inr n) = inl n

  by : {later : Tables} → IsDone (tables s) task later → Mem v later.volumes → Mem v s.volumes ⊎ (claimed_volume task ≡ Some v)
  by (stays e) n = inl (subst (λ (t : Tables). Mem v t.volumes) e n)
  by (puts_volume w is e) n = put w is
      (Mem-replaced (is_volume w.project w.pool w.name) (λ y. texts_before (volume_names w) (volume_names y)) w v s.volumes (subst (λ (t : Tables). Mem v t.volumes) e n))
  by (puts_instance j is other keeps e) n = inl (subst (λ (t : Tables). Mem v t.volumes) e n)
  by (drops_instance old found nothing of e) n = inl (subst (λ (t : Tables). Mem v t.volumes) e n)
  by (renames_instance_to old j is rename found e) n = inl (subst (λ (t : Tables). Mem v t.volumes) e n)
  by (renames_none j is rename found e) n = inl (subst (λ (t : Tables). Mem v t.volumes) e n)

module _ (s : State) (o : Operation Task) (t : State) (live : live_at s.operations o.number ≡ Some o) (done : IsDone (tables s) o.work (tables t))
    (rest : t.operations.live ≡ dropped (has_number o.number) s.operations.live) where
  pub judged_instance-done : (i : Instance) → Mem i (judged_instances t) → Mem i (judged_instances s)
  unfolding judged_instances
  judged_instance-done i m = at (Mem-append i t.instances (of_live claimed_instance t) m) where
    row_or_claim : Mem i s.instances ⊎ (claimed_instance o.work ≡ Some i) → Mem i (s.instances ++ of_live claimed_instance s)
    row_or_claim (inl n) = Mem-left i s.instances (of_live claimed_instance s) n
    row_or_claim (inr is) = Mem-right i s.instances (of_live claimed_instance s)
        (Mem-read (λ (x : Operation Task). claimed_instance x.work) o i s.operations.live (find-some (has_number o.number) s.operations.live o live).0 is)

    at : Mem i t.instances ⊎ Mem i (of_live claimed_instance t) → Mem i (s.instances ++ of_live claimed_instance s)
    at (inl n) = row_or_claim (instance-done s o.work i done n)
    at (inr n) = Mem-right i s.instances (of_live claimed_instance s) (live-fewer claimed_instance s t o.number i rest n)

  pub judged_volume-done : (v : Volume) → Mem v (judged_volumes t) → Mem v (judged_volumes s)
  unfolding judged_volumes
  judged_volume-done v m = at (Mem-append v t.volumes (of_live claimed_volume t) m) where
    row_or_claim : Mem v s.volumes ⊎ (claimed_volume o.work ≡ Some v) → Mem v (s.volumes ++ of_live claimed_volume s)
    row_or_claim (inl n) = Mem-left v s.volumes (of_live claimed_volume s) n
    row_or_claim (inr is) = Mem-right v s.volumes (of_live claimed_volume s)
        (Mem-read (λ (x : Operation Task). claimed_volume x.work) o v s.operations.live (find-some (has_number o.number) s.operations.live o live).0 is)

    at : Mem v t.volumes ⊎ Mem v (of_live claimed_volume t) → Mem v (s.volumes ++ of_live claimed_volume s)
    at (inl n) = row_or_claim (volume-done s o.work v done n)
    at (inr n) = Mem-right v s.volumes (of_live claimed_volume s) (live-fewer claimed_volume s t o.number v rest n)

-- where rows stay and one operation is gone
pub judged_instance-fewer : (s t : State) (n : ℕ) (i : Instance) → t.instances ≡ s.instances → t.operations.live ≡ dropped (has_number n) s.operations.live
    → Mem i (judged_instances t) → Mem i (judged_instances s)
unfolding judged_instances
judged_instance-fewer s t n i rows rest m = at (Mem-append i t.instances (of_live claimed_instance t) m) where
  at : Mem i t.instances ⊎ Mem i (of_live claimed_instance t) → Mem i (s.instances ++ of_live claimed_instance s)
  at (inl x) = Mem-left i s.instances (of_live claimed_instance s) (subst (Mem i) rows x)
  at (inr x) = Mem-right i s.instances (of_live claimed_instance s) (live-fewer claimed_instance s t n i rest x)

pub judged_volume-fewer : (s t : State) (n : ℕ) (v : Volume) → t.volumes ≡ s.volumes → t.operations.live ≡ dropped (has_number n) s.operations.live
    → Mem v (judged_volumes t) → Mem v (judged_volumes s)
unfolding judged_volumes
judged_volume-fewer s t n v rows rest m = at (Mem-append v t.volumes (of_live claimed_volume t) m) where
  at : Mem v t.volumes ⊎ Mem v (of_live claimed_volume t) → Mem v (s.volumes ++ of_live claimed_volume s)
  at (inl x) = Mem-left v s.volumes (of_live claimed_volume s) (subst (Mem v) rows x)
  at (inr x) = Mem-right v s.volumes (of_live claimed_volume s) (live-fewer claimed_volume s t n v rest x)
