-- Names after an operation went on, was entered, or was taken out; they leave all rows.
use Rattle.std.proofs.Common.{◌≡◌, ◌≢◌, ℕ, Option, Some, None, List, ◌++◌, refl, sym, subst}
use Rattle.std.specs.List.{filter_map}
use Rattle.std.proofs.lemmas.Bool.{eq-eqb}
use Rattle.plain_lists.specs.Members.{Each, Distinct}
use Rattle.plain_lists.specs.Puts.{Puts}
use Rattle.plain_lists.specs.Edits.{changed_first}
use Rattle.plain_lists.proofs.PutsLemmas.{Each-unputs, Distinct-unputs, Puts-right}
use Rattle.plain_lists.proofs.Readings.{read-same, read-Puts}
use Rattle.plain_lists.proofs.EditLemmas.{find-changed}
use Rattle.operations.specs.declared.operation.Operation.{Operation}
use Rattle.operations.specs.declared.status.Status.{Status}
use Rattle.operations.specs.OperationTable.{OperationTable, has_number, live_at}
use Rattle.records.specs.declared.rows.Row.{Row}
use Rattle.row_codec.specs.Rows.{HasGoodKey, HasMoments}
use Rattle.row_machine.specs.machine.Task.{Task}
use Rattle.row_machine.specs.machine.State.{State}
use Rattle.row_machine.specs.machine.Rows.{volume_names, instance_names, snapshot_names}
use Rattle.row_machine.specs.machine.Claims.{of_live, claimed_volume, claimed_snapshot}
use Rattle.row_machine.specs.opening.Records.{rows_of}
use Rattle.row_machine.specs.machine.Operations.{with_task, moved}
use Rattle.row_machine.specs.machine.Step.{first_pending}
use Rattle.row_machine.specs.facts.Whole.{IsWhole, AreNamed, claims_of, new_instance}
use Rattle.machine_laws.proofs.Base.{read-found, first-live}

-- what is read of the operations of a list
abbrev pub read_of : {X : Type 0} → (Task → Option X) → List (Operation Task) → List X
read_of read os = filter_map (λ o. read o.work) os

-- ---- operations that claim the same

-- names stay where live operations claim the same
pub AreNamed-live : (s : State) (k : OperationTable Task)
    → read_of (λ task. task.claim) k.live ≡ claims_of s
    → read_of claimed_volume k.live ≡ of_live claimed_volume s
    → read_of new_instance k.live ≡ of_live new_instance s
    → read_of claimed_snapshot k.live ≡ of_live claimed_snapshot s
    → AreNamed s → AreNamed (record s { operations = k })
AreNamed-live s k claims volumes instances snapshots h = record {
  good = subst (λ cs. Each HasGoodKey (rows_of s ++ cs)) (sym claims) h.good;
  moments = subst (λ cs. Each HasMoments (rows_of s ++ cs)) (sym claims) h.moments;
  projects = h.projects;
  profiles = h.profiles;
  networks = h.networks;
  pools = h.pools;
  volumes = h.volumes;
  instances = h.instances;
  snapshots = h.snapshots;
  powers = h.powers;
  new_volumes = subst (λ cs. Distinct volume_names (s.volumes ++ cs)) (sym volumes) h.new_volumes;
  new_instances = subst (λ cs. Distinct instance_names (s.instances ++ cs)) (sym instances) h.new_instances;
  new_snapshots = subst (λ cs. Distinct snapshot_names (s.snapshots ++ cs)) (sym snapshots) h.new_snapshots;
}

-- one goes on, which leaves its deed and its claim
pub AreNamed-going : (s : State) (f : Operation Task → Operation Task) (o : Operation Task)
    → live_at s.operations o.number ≡ Some o → (f o).work.deed ≡ o.work.deed → (f o).work.claim ≡ o.work.claim → AreNamed s
    → AreNamed (record s { operations = record s.operations { live = changed_first (has_number o.number) f s.operations.live } })
AreNamed-going s f o live deed claim h =
    AreNamed-live s (record s.operations { live = changed_first (has_number o.number) f s.operations.live })
    (same (λ task. task.claim) claim)
    (same claimed_volume (λ i. claimed_volume (record task { claim = claim i })))
    (same new_instance (λ i. new_instance (record task { deed = deed i; claim = claim i })))
    (same claimed_snapshot (λ i. claimed_snapshot (record task { claim = claim i })))
    h
  where
    task : Task
    task = o.work

    same : {X : Type 0} (read : Task → Option X) → read (f o).work ≡ read o.work
        → read_of read (changed_first (has_number o.number) f s.operations.live) ≡ of_live read s
    same read e = read-found (λ (x : Operation Task). read x.work) (has_number o.number) f o s.operations.live live e

pub AreNamed-task : (s : State) (o : Operation Task) (task : Task) → live_at s.operations o.number ≡ Some o
    → task.deed ≡ o.work.deed → task.claim ≡ o.work.claim → AreNamed s → AreNamed (with_task o.number task s)
AreNamed-task s o task live deed claim h = AreNamed-going s (λ (x : Operation Task). record x { work = task }) o live deed claim h

pub AreNamed-moved : (s : State) (o : Operation Task) (now : Status) (moment : ℕ) → live_at s.operations o.number ≡ Some o
    → AreNamed s → AreNamed (moved o.number now moment s)
AreNamed-moved s o now moment live h = AreNamed-going s (λ (x : Operation Task). record x { status = now; updated = moment }) o live refl refl h

-- the live operation of a number after a move
pub moved-live : (s : State) (o : Operation Task) (now : Status) (moment : ℕ) → live_at s.operations o.number ≡ Some o
    → live_at (moved o.number now moment s).operations o.number ≡ Some (record o { status = now; updated = moment })
moved-live s o now moment live =
    find-changed (has_number o.number) (λ (x : Operation Task). record x { status = now; updated = moment }) o s.operations.live live (eq-eqb o.number o.number refl)

-- the first that waits is the live one of its number
pub pending-live : (s : State) (o : Operation Task) → IsWhole s → first_pending s ≡ Some o → live_at s.operations o.number ≡ Some o
pending-live s o h first = (first-live s o h first).0

-- ---- one fewer

pub Each-fewer : {P : Row → Type 0} (rows : List Row) (o : Operation Task) {less live : List (Operation Task)} → Puts o less live
    → Each P (rows ++ read_of (λ task. task.claim) live) → Each P (rows ++ read_of (λ task. task.claim) less)
Each-fewer {P} rows o {less} {live} put e = at o.work.claim refl where
  at : (claim : Option Row) → o.work.claim ≡ claim → Each P (rows ++ read_of (λ task. task.claim) less)
  at None is = subst (λ cs. Each P (rows ++ cs)) (read-same (λ (x : Operation Task). x.work.claim) put is) e
  at (Some r) is = (Each-unputs (Puts-right rows (read-Puts (λ (x : Operation Task). x.work.claim) put is)) e).1

Distinct-fewer : {X : Type 0} (names : X → List (List ℕ)) (read : Task → Option X) (rows : List X) (o : Operation Task) {less live : List (Operation Task)} → Puts o less live
    → Distinct names (rows ++ read_of read live) → Distinct names (rows ++ read_of read less)
Distinct-fewer {X} names read rows o {less} {live} put d = at (read o.work) refl where
  at : (claim : Option X) → read o.work ≡ claim → Distinct names (rows ++ read_of read less)
  at None is = subst (λ cs. Distinct names (rows ++ cs)) (read-same (λ (x : Operation Task). read x.work) put is) d
  at (Some x) is = (Distinct-unputs names (Puts-right rows (read-Puts (λ (y : Operation Task). read y.work) put is)) d).1

-- names stay where a live operation is taken out
pub AreNamed-fewer : (s : State) (k : OperationTable Task) (o : Operation Task) → Puts o k.live s.operations.live → AreNamed s → AreNamed (record s { operations = k })
AreNamed-fewer s k o put h = record {
  good = Each-fewer (rows_of s) o put h.good;
  moments = Each-fewer (rows_of s) o put h.moments;
  projects = h.projects;
  profiles = h.profiles;
  networks = h.networks;
  pools = h.pools;
  volumes = h.volumes;
  instances = h.instances;
  snapshots = h.snapshots;
  powers = h.powers;
  new_volumes = Distinct-fewer volume_names claimed_volume s.volumes o put h.new_volumes;
  new_instances = Distinct-fewer instance_names new_instance s.instances o put h.new_instances;
  new_snapshots = Distinct-fewer snapshot_names claimed_snapshot s.snapshots o put h.new_snapshots;
}

-- what it claimed as new, no other claims
pub unclaimed-fewer : {X : Type 0} (names : X → List (List ℕ)) (read : Task → Option X) (rows : List X) (o : Operation Task) {less live : List (Operation Task)} (x : X)
    → Puts o less live → read o.work ≡ Some x → Distinct names (rows ++ read_of read live)
    → Each (λ y. names y ≢ names x) (rows ++ read_of read less)
unclaimed-fewer names read rows o x put is d =
    (Distinct-unputs names (Puts-right rows (read-Puts (λ (y : Operation Task). read y.work) put is)) d).0
