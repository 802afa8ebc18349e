-- The rows after the success of an operation, by its deed.
use Rattle.std.proofs.Common.{◌≡◌, ◌≢◌, Option, Some, None, List, [], ◌∷◌, ◌++◌, refl, ◌∙◌, ap}
use Rattle.std.specs.Prelude.{map}
use Rattle.std.specs.Option.{option_map, option_to_list}
use Rattle.std.proofs.lemmas.List.{map-append}
use Rattle.plain_lists.specs.Edits.{dropped}
use Rattle.size_values.specs.declared.kinds.Deed.TheVariants as deed
use Rattle.size_values.specs.declared.kinds.ObjectKind.{ObjectKind}
use Rattle.size_values.specs.declared.kinds.ObjectKind.TheVariants as kind
use Rattle.records.specs.declared.rows.Project.{Project}
use Rattle.records.specs.declared.rows.Profile.{Profile}
use Rattle.records.specs.declared.rows.Network.{Network}
use Rattle.records.specs.declared.rows.Volume.{Volume}
use Rattle.records.specs.declared.rows.Instance.{Instance}
use Rattle.records.specs.declared.rows.Snapshot.{Snapshot}
use Rattle.records.specs.declared.rows.Row.{Row}
use Rattle.records.specs.declared.rows.Row.TheVariants as row
use Rattle.row_codec.specs.Spelling.{two_names}
use Rattle.row_machine.specs.declared.changes.RowChange.{RowChange}
use Rattle.row_machine.specs.declared.changes.RowChange.TheVariants as change
use Rattle.row_machine.specs.machine.Task.{Task}
use Rattle.row_machine.specs.machine.State.{State}
use Rattle.row_machine.specs.machine.Rows.{with_instance, with_volume, instance_named}
use Rattle.row_machine.specs.machine.Changes.{has_key, with_row, without_row, applied, removal}
use Rattle.row_machine.specs.shown.Urls.{target_of}
use Rattle.row_machine.specs.machine.Deeds.{claim_kind, keeps_name, replaces_target, target_kind}

-- the rows that limits and policy read
pub record Tables : Type 0 where
  pub projects : List Project
  pub profiles : List Profile
  pub networks : List Network
  pub volumes : List Volume
  pub instances : List Instance

abbrev pub tables : State → Tables
tables s = record { projects = s.projects; profiles = s.profiles; networks = s.networks; volumes = s.volumes; instances = s.instances }

-- the rows after a success: as they were, with the claimed row, without the target, or with the target under its new name
pub data IsDone (before : Tables) (task : Task) (later : Tables) : Type 0 where
  stays : later ≡ before → IsDone before task later
  puts_volume : (v : Volume) → task.claim ≡ Some (row.Volume v) → later ≡ record before { volumes = with_volume v before.volumes } → IsDone before task later
  puts_instance : (i : Instance) → task.claim ≡ Some (row.Instance i) → task.deed ≢ deed.Rename → keeps_name task.deed ≡ replaces_target task.deed
      → later ≡ record before { instances = with_instance i before.instances } → IsDone before task later
  drops_instance : (old : Instance) → instance_named before.instances task.project task.target.name ≡ Some old → claim_kind task.deed ≡ None
      → target_kind task.deed ≡ kind.Instance
      → later ≡ record before { instances = dropped (λ r. has_key (two_names old.project old.name) (row.Instance r)) before.instances } → IsDone before task later
  renames_instance_to : (old i : Instance) → task.claim ≡ Some (row.Instance i) → task.deed ≡ deed.Rename
      → instance_named before.instances task.project task.target.name ≡ Some old
      → later ≡ record before { instances = with_instance i (dropped (λ r. has_key (two_names old.project old.name) (row.Instance r)) before.instances) } → IsDone before task later
  renames_none : (i : Instance) → task.claim ≡ Some (row.Instance i) → task.deed ≡ deed.Rename
      → instance_named before.instances task.project task.target.name ≡ None
      → later ≡ record before { instances = with_instance i before.instances } → IsDone before task later

-- ---- lists of changes

pub applied-append : (cs more : List RowChange) (s : State) → applied s (cs ++ more) ≡ applied (applied s cs) more
applied-append [] more s = refl
applied-append (change.Put r ∷ cs) more s = applied-append cs more (with_row r s)
applied-append (change.Remove of key ∷ cs) more s = applied-append cs more (without_row of key s)

-- snapshots that go or come leave the other rows
pub unsnapped : (rs : List Snapshot) (s : State) → tables (applied s (map removal (map row.Snapshot rs))) ≡ tables s
unsnapped [] s = refl
unsnapped (r ∷ rs) s = unsnapped rs _

snapped : (rs : List Snapshot) (s : State) → tables (applied s (map change.Put (map row.Snapshot rs))) ≡ tables s
snapped [] s = refl
snapped (r ∷ rs) s = snapped rs _

-- an instance is put, or removed, whatever else the state has
pub with-instance : (i : Instance) (s : State) (t : Tables) → tables s ≡ t → tables (with_row (row.Instance i) s) ≡ record t { instances = with_instance i t.instances }
with-instance i s t same = ap (λ (x : Tables). record x { instances = with_instance i x.instances }) same

abbrev without : Instance → List Instance → List Instance
without old rows = dropped (λ r. has_key (two_names old.project old.name) (row.Instance r)) rows

without-instance : (old : Instance) (s : State) (t : Tables) → tables s ≡ t
    → tables (applied s (map removal (map row.Instance (old ∷ [])))) ≡ record t { instances = without old t.instances }
without-instance old s t same = ap (λ (x : Tables). record x { instances = without old x.instances }) same

-- ---- by deed

module _ (s start : State) (same : tables start ≡ tables s) where
  -- the claimed row is put
  pub puts : (task : Task) (k : ObjectKind) → option_map (λ r. (target_of r).kind) task.claim ≡ Some k
      → (k ≡ kind.Project → ⊥) → (k ≡ kind.Profile → ⊥) → (k ≡ kind.Network → ⊥) → (k ≡ kind.Pool → ⊥)
      → task.deed ≢ deed.Rename → keeps_name task.deed ≡ replaces_target task.deed
      → IsDone (tables s) task (tables (applied start (map change.Put (option_to_list task.claim))))
  puts task k is project profile network pool other keeps = at task.claim refl is where
    some-is : {a b : ObjectKind} → Some a ≡ Some b → b ≡ a
    some-is e = cc

    at : (claim : Option Row) → task.claim ≡ claim → option_map (λ r. (target_of r).kind) claim ≡ Some k
        → IsDone (tables s) task (tables (applied start (map change.Put (option_to_list claim))))
    at None e h = stays same
    at (Some (row.Project r)) e h = absurd (project (some-is h))
    at (Some (row.Profile r)) e h = absurd (profile (some-is h))
    at (Some (row.Network r)) e h = absurd (network (some-is h))
    at (Some (row.Pool r)) e h = absurd (pool (some-is h))
    at (Some (row.Volume v)) e h = puts_volume v e (ap (λ (x : Tables). record x { volumes = with_volume v x.volumes }) same)
    at (Some (row.Instance i)) e h = puts_instance i e other keeps (with-instance i start (tables s) same)
    at (Some (row.Snapshot r)) e h = stays same

  -- the tables after the removal of an instance with its snapshots
  removed : (rs : List Snapshot) (found : Option Instance)
      → tables (applied start (map removal (map row.Snapshot rs ++ map row.Instance (option_to_list found))))
      ≡ tables (applied (applied start (map removal (map row.Snapshot rs))) (map removal (map row.Instance (option_to_list found))))
  removed rs found =
      ap (λ cs. tables (applied start cs)) (map-append removal (map row.Snapshot rs) (map row.Instance (option_to_list found)))
      ∙ ap tables (applied-append (map removal (map row.Snapshot rs)) (map removal (map row.Instance (option_to_list found))) start)

  pub drops : (task : Task) → claim_kind task.deed ≡ None → target_kind task.deed ≡ kind.Instance → (rs : List Snapshot)
      → IsDone (tables s) task (tables (applied start (map removal (map row.Snapshot rs ++ map row.Instance (option_to_list (instance_named s.instances task.project task.target.name))))))
  drops task nothing instance rs = at (instance_named s.instances task.project task.target.name) refl where
    at : (found : Option Instance) → instance_named s.instances task.project task.target.name ≡ found
        → IsDone (tables s) task (tables (applied start (map removal (map row.Snapshot rs ++ map row.Instance (option_to_list found)))))
    at None is = stays (removed rs None ∙ unsnapped rs start ∙ same)
    at (Some old) is = drops_instance old is nothing instance
        (removed rs (Some old) ∙ without-instance old (applied start (map removal (map row.Snapshot rs))) (tables s) (unsnapped rs start ∙ same))

  -- a rename: away with the old instance and its snapshots, and then they come back under the new name
  pub renames : (task : Task) (i : Instance) → task.claim ≡ Some (row.Instance i) → task.deed ≡ deed.Rename → (rs : List Snapshot) (news : List Snapshot)
      → IsDone (tables s) task (tables (applied start
      (map removal (map row.Snapshot rs ++ map row.Instance (option_to_list (instance_named s.instances task.project task.target.name)))
      ++ map change.Put (row.Instance i ∷ map row.Snapshot news))))
  renames task i claim rename rs news = at (instance_named s.instances task.project task.target.name) refl where
    gone : Option Instance → State
    gone found = applied start (map removal (map row.Snapshot rs ++ map row.Instance (option_to_list found)))

    back : (found : Option Instance) (t : Tables) → tables (gone found) ≡ t
        → tables (applied start (map removal (map row.Snapshot rs ++ map row.Instance (option_to_list found)) ++ map change.Put (row.Instance i ∷ map row.Snapshot news)))
        ≡ record t { instances = with_instance i t.instances }
    back found t is =
        ap tables (applied-append (map removal (map row.Snapshot rs ++ map row.Instance (option_to_list found))) (map change.Put (row.Instance i ∷ map row.Snapshot news)) start)
        ∙ snapped news (with_row (row.Instance i) (gone found))
        ∙ with-instance i (gone found) t is

    at : (found : Option Instance) → instance_named s.instances task.project task.target.name ≡ found
        → IsDone (tables s) task (tables (applied start
        (map removal (map row.Snapshot rs ++ map row.Instance (option_to_list found)) ++ map change.Put (row.Instance i ∷ map row.Snapshot news))))
    at None is = renames_none i claim rename is (back None (tables s) (removed rs None ∙ unsnapped rs start ∙ same))
    at (Some old) is = renames_instance_to old i claim rename is
        (back (Some old) (record (tables s) { instances = without old s.instances })
        (removed rs (Some old) ∙ without-instance old (applied start (map removal (map row.Snapshot rs))) (tables s) (unsnapped rs start ∙ same)))
