-- A name that is new: no row's of its home, and no live operation's.
use Rattle.std.proofs.Common.{◌≡◌, ◌≢◌, ℕ, Bool, true, false, cond, ◌&&◌, Option, Some, None, List, [], ◌∷◌, ◌++◌, refl, sym, ap, ◌∙◌, true≢false}
use Rattle.std.specs.List.{filter_map}
use Rattle.std.proofs.lemmas.Bool.{and_from}
use Rattle.std.specs.Str.{bytes_eq}
use Rattle.std.specs.Option.{is_some}
use Rattle.plain_lists.specs.Members.{Mem, Each}
use Rattle.plain_lists.proofs.Elements.{Each-append, Each-map}
use Rattle.plain_lists.proofs.Readings.{Mem-from_read}
use Rattle.plain_lists.proofs.Searches.{find-none}
use Rattle.operations.specs.declared.operation.Operation.{Operation}
use Rattle.records.specs.declared.rows.Volume.{Volume}
use Rattle.records.specs.declared.rows.Instance.{Instance}
use Rattle.records.specs.declared.rows.Snapshot.{Snapshot}
use Rattle.records.specs.declared.rows.Row.{Row}
use Rattle.records.specs.declared.rows.Row.TheVariants as row
use Rattle.row_machine.specs.machine.Task.{Task}
use Rattle.row_machine.specs.machine.State.{State}
use Rattle.row_machine.specs.machine.Rows.{volume_named, instance_named, snapshot_named, is_volume, is_instance, is_snapshot, volume_names, instance_names, snapshot_names}
use Rattle.row_machine.specs.machine.Claims.{of_live, claimed_volume, claimed_instance, claimed_snapshot}
use Rattle.row_machine.specs.machine.NameRules.{claims_object}
use Rattle.row_machine.specs.machine.Plans.{instance_target, snapshot_target}
use Rattle.row_machine.specs.facts.Whole.{new_instance}
use Rattle.row_machine.specs.machine.Deeds.{keeps_name}
use Rattle.machine_laws.proofs.Cases.{IsNew, volume_target}
use Rattle.machine_laws.proofs.NamesTests.{equal_is, volume_differs, instance_differs, snapshot_differs}

none_is : {X : Type 0} (o : Option X) → is_some o ≡ false → o ≡ None
none_is None h = refl
none_is (Some x) h = cc

-- ---- what is claimed of each kind

pub claims-volume : (task : Task) (y : Volume) → claimed_volume task ≡ Some y → task.claim ≡ Some (row.Volume y)
claims-volume task y is = at task.claim is where
  at : (claim : Option Row) → claimed_volume (record task { claim = claim }) ≡ Some y → claim ≡ Some (row.Volume y)
  at None e = cc
  at (Some (row.Volume r)) e = let same : r ≡ y = cc in ap (λ x. Some (row.Volume x)) same
  at (Some (row.Project r)) e = cc
  at (Some (row.Profile r)) e = cc
  at (Some (row.Network r)) e = cc
  at (Some (row.Pool r)) e = cc
  at (Some (row.Instance r)) e = cc
  at (Some (row.Snapshot r)) e = cc

pub claims-instance : (task : Task) (y : Instance) → claimed_instance task ≡ Some y → task.claim ≡ Some (row.Instance y)
claims-instance task y is = at task.claim is where
  at : (claim : Option Row) → claimed_instance (record task { claim = claim }) ≡ Some y → claim ≡ Some (row.Instance y)
  at None e = cc
  at (Some (row.Instance r)) e = let same : r ≡ y = cc in ap (λ x. Some (row.Instance x)) same
  at (Some (row.Project r)) e = cc
  at (Some (row.Profile r)) e = cc
  at (Some (row.Network r)) e = cc
  at (Some (row.Pool r)) e = cc
  at (Some (row.Volume r)) e = cc
  at (Some (row.Snapshot r)) e = cc

pub claims-snapshot : (task : Task) (y : Snapshot) → claimed_snapshot task ≡ Some y → task.claim ≡ Some (row.Snapshot y)
claims-snapshot task y is = at task.claim is where
  at : (claim : Option Row) → claimed_snapshot (record task { claim = claim }) ≡ Some y → claim ≡ Some (row.Snapshot y)
  at None e = cc
  at (Some (row.Snapshot r)) e = let same : r ≡ y = cc in ap (λ x. Some (row.Snapshot x)) same
  at (Some (row.Project r)) e = cc
  at (Some (row.Profile r)) e = cc
  at (Some (row.Network r)) e = cc
  at (Some (row.Pool r)) e = cc
  at (Some (row.Volume r)) e = cc
  at (Some (row.Instance r)) e = cc

-- a claim under a new name is a claim
pub new-claimed : (task : Task) (y : Instance) → new_instance task ≡ Some y → claimed_instance task ≡ Some y
new-claimed task y is = at (keeps_name task.deed) is where
  at : (b : Bool) → cond b None (claimed_instance task) ≡ Some y → claimed_instance task ≡ Some y
  at true e = cc
  at false e = e

-- ---- a new name is no row's and no claim's

fresh_claims : {X : Type 0} (names : X → List (List ℕ)) (read : Task → Option X) (wanted : List (List ℕ)) (passes : Task → Bool) (live : List (Operation Task))
    → Each (λ o. passes o.work ≡ false) live
    → ((task : Task) (y : X) → read task ≡ Some y → names y ≡ wanted → passes task ≡ true)
    → Each (λ y. names y ≢ wanted) (filter_map (λ o. read o.work) live)
fresh_claims {X} names read wanted passes live fails tells = record { at = λ y m. by y (Mem-from_read (λ (o : Operation Task). read o.work) y live m) } where
  by : (y : X) → (o : Operation Task) × (Mem o live × (read o.work ≡ Some y)) → names y ≢ wanted
  by y found same = true≢false (sym (tells found.0.work y found.1.1 same) ∙ fails.at found.0 found.1.0)

pub fresh-volume : (s : State) (home pool name : List ℕ) → IsNew s home (volume_target pool name)
    → Each (λ y. volume_names y ≢ home ∷ pool ∷ name ∷ []) (s.volumes ++ of_live claimed_volume s)
fresh-volume s home pool name new = Each-append
    (Each-map (volume_differs home pool name) (find-none (is_volume home pool name) s.volumes (none_is (volume_named s.volumes home pool name) new.free)))
    (fresh_claims volume_names claimed_volume (home ∷ pool ∷ name ∷ []) (claims_object home (volume_target pool name)) s.operations.live new.unclaimed tells)
  where
    tells : (task : Task) (y : Volume) → claimed_volume task ≡ Some y → volume_names y ≡ home ∷ pool ∷ name ∷ [] → claims_object home (volume_target pool name) task ≡ true
    tells task y is same =
        let first : y.project ≡ home = cc in
        let second : y.pool ≡ pool = cc in
        let third : y.name ≡ name = cc in
        ap (λ c. claims_object home (volume_target pool name) (record task { claim = c })) (claims-volume task y is)
        ∙ and_from (bytes_eq y.project home) (bytes_eq y.pool pool && true && bytes_eq y.name name) (equal_is y.project home first)
        (and_from (bytes_eq y.pool pool && true) (bytes_eq y.name name) (and_from (bytes_eq y.pool pool) true (equal_is y.pool pool second) refl) (equal_is y.name name third))

pub fresh-instance : (s : State) (home name : List ℕ) → IsNew s home (instance_target name)
    → Each (λ y. instance_names y ≢ home ∷ name ∷ []) (s.instances ++ of_live new_instance s)
fresh-instance s home name new = Each-append
    (Each-map (instance_differs home name) (find-none (is_instance home name) s.instances (none_is (instance_named s.instances home name) new.free)))
    (fresh_claims instance_names new_instance (home ∷ name ∷ []) (claims_object home (instance_target name)) s.operations.live new.unclaimed tells)
  where
    tells : (task : Task) (y : Instance) → new_instance task ≡ Some y → instance_names y ≡ home ∷ name ∷ [] → claims_object home (instance_target name) task ≡ true
    tells task y is same =
        let first : y.project ≡ home = cc in
        let second : y.name ≡ name = cc in
        ap (λ c. claims_object home (instance_target name) (record task { claim = c })) (claims-instance task y (new-claimed task y is))
        ∙ and_from (bytes_eq y.project home) (bytes_eq y.name name) (equal_is y.project home first) (equal_is y.name name second)

pub fresh-snapshot : (s : State) (home instance name : List ℕ) → IsNew s home (snapshot_target instance name)
    → Each (λ y. snapshot_names y ≢ home ∷ instance ∷ name ∷ []) (s.snapshots ++ of_live claimed_snapshot s)
fresh-snapshot s home instance name new = Each-append
    (Each-map (snapshot_differs home instance name) (find-none (is_snapshot home instance name) s.snapshots (none_is (snapshot_named s.snapshots home instance name) new.free)))
    (fresh_claims snapshot_names claimed_snapshot (home ∷ instance ∷ name ∷ []) (claims_object home (snapshot_target instance name)) s.operations.live new.unclaimed tells)
  where
    tells : (task : Task) (y : Snapshot) → claimed_snapshot task ≡ Some y → snapshot_names y ≡ home ∷ instance ∷ name ∷ [] → claims_object home (snapshot_target instance name) task ≡ true
    tells task y is same =
        let first : y.project ≡ home = cc in
        let second : y.instance ≡ instance = cc in
        let third : y.name ≡ name = cc in
        ap (λ c. claims_object home (snapshot_target instance name) (record task { claim = c })) (claims-snapshot task y is)
        ∙ and_from (bytes_eq y.project home) (bytes_eq y.instance instance && bytes_eq y.name name) (equal_is y.project home first)
        (and_from (bytes_eq y.instance instance) (bytes_eq y.name name) (equal_is y.instance instance second) (equal_is y.name name third))
