-- Names after an operation was entered.
use Rattle.std.proofs.Common.{◌≡◌, ◌≢◌, ℕ, ◌<◌, true, Option, Some, None, List, ◌++◌, refl, sym, subst, arith}
use Rattle.std.specs.Prelude.{IfSome}
use Rattle.std.specs.Option.{is_some}
use Rattle.plain_lists.specs.Members.{Mem, Each, Distinct}
use Rattle.plain_lists.specs.Puts.{Puts}
use Rattle.plain_lists.proofs.Elements.{Each-left}
use Rattle.plain_lists.proofs.PutsLemmas.{Each-puts, Distinct-puts, Puts-right, Puts-push}
use Rattle.plain_lists.proofs.Readings.{read-same, read-Puts}
use Rattle.plain_lists.proofs.Searches.{find-some}
use Rattle.config_lists.proofs.Keys.{same}
use Rattle.size_values.specs.Moments.{moment_limit}
use Rattle.size_values.specs.declared.kinds.ObjectKind.TheVariants as kind
use Rattle.operations.specs.declared.operation.Operation.{Operation}
use Rattle.operations.specs.OperationTable.{OperationTable}
use Rattle.records.specs.declared.rows.Instance.{Instance}
use Rattle.records.specs.declared.rows.Row.{Row}
use Rattle.records.specs.declared.rows.Row.TheVariants as row
use Rattle.row_codec.specs.Rows.{IsGood, HasGoodKey, HasMoments}
use Rattle.row_machine.specs.machine.Task.{Task}
use Rattle.row_machine.specs.machine.State.{State}
use Rattle.row_machine.specs.machine.Rows.{project_named, pool_named, is_project, is_pool, is_instance, volume_names, instance_names, snapshot_names}
use Rattle.row_machine.specs.machine.Claims.{of_live, claimed_volume, claimed_snapshot}
use Rattle.row_machine.specs.opening.Records.{rows_of}
use Rattle.row_machine.specs.machine.Operations.{claiming, entered}
use Rattle.row_machine.specs.facts.Whole.{AreNamed, claims_of, new_instance}
use Rattle.machine_laws.proofs.Cases.{IsIdle, Begins}
use Rattle.machine_laws.proofs.Cases.Begins.{creates, copies_instance, copies_snapshot, copies_volume, updates, restores, renames, deletes, acts, snaps, unsnaps}
use Rattle.machine_laws.proofs.NamesRows.{EachRow, each-row}
use Rattle.machine_laws.proofs.NamesLive.{read_of}
use Rattle.machine_laws.proofs.NamesEnds.{AreNamed-aside}
use Rattle.machine_laws.proofs.NamesSuccess.{some_there}
use Rattle.machine_laws.proofs.NamesNew.{fresh-volume, fresh-instance, fresh-snapshot}

-- what a new operation claims: its names and moments are good, and a new name is no row's and no other operation's
pub record IsClaimable (s : State) (task : Task) : Type 0 where
  pub good : IfSome task.claim HasGoodKey
  pub timely : IfSome task.claim HasMoments
  pub volume : IfSome (claimed_volume task) (λ v. Each (λ y. volume_names y ≢ volume_names v) (s.volumes ++ of_live claimed_volume s))
  pub instance : IfSome (new_instance task) (λ i. Each (λ y. instance_names y ≢ instance_names i) (s.instances ++ of_live new_instance s))
  pub snapshot : IfSome (claimed_snapshot task) (λ r. Each (λ y. snapshot_names y ≢ snapshot_names r) (s.snapshots ++ of_live claimed_snapshot s))

-- ---- one more operation

pub Each-more : {P : Row → Type 0} (rows : List Row) (o : Operation Task) {live more : List (Operation Task)} → Puts o live more → IfSome o.work.claim P
    → Each P (rows ++ read_of (λ task. task.claim) live) → Each P (rows ++ read_of (λ task. task.claim) more)
Each-more {P} rows o {live} {more} put new e = at o.work.claim refl new where
  at : (claim : Option Row) → o.work.claim ≡ claim → IfSome claim P → Each P (rows ++ read_of (λ task. task.claim) more)
  at None is new = subst (λ cs. Each P (rows ++ cs)) (sym (read-same (λ (x : Operation Task). x.work.claim) put is)) e
  at (Some r) is new = Each-puts P (Puts-right rows (read-Puts (λ (x : Operation Task). x.work.claim) put is)) new e

Distinct-more : {X : Type 0} (names : X → List (List ℕ)) (read : Task → Option X) (rows : List X) (o : Operation Task) {live more : List (Operation Task)} → Puts o live more
    → IfSome (read o.work) (λ x. Each (λ y. names y ≢ names x) (rows ++ read_of read live))
    → Distinct names (rows ++ read_of read live) → Distinct names (rows ++ read_of read more)
Distinct-more {X} names read rows o {live} {more} put new d = at (read o.work) refl new where
  at : (claim : Option X) → read o.work ≡ claim → IfSome claim (λ x. Each (λ y. names y ≢ names x) (rows ++ read_of read live)) → Distinct names (rows ++ read_of read more)
  at None is new = subst (λ cs. Distinct names (rows ++ cs)) (sym (read-same (λ (x : Operation Task). read x.work) put is)) d
  at (Some x) is new = Distinct-puts names (Puts-right rows (read-Puts (λ (y : Operation Task). read y.work) put is)) new d

pub AreNamed-more : (s : State) (k : OperationTable Task) (o : Operation Task) → Puts o s.operations.live k.live → IsClaimable s o.work → AreNamed s → AreNamed (record s { operations = k })
AreNamed-more s k o put new h = record {
  good = Each-more (rows_of s) o put new.good h.good;
  moments = Each-more (rows_of s) o put new.timely h.moments;
  projects = h.projects;
  profiles = h.profiles;
  networks = h.networks;
  pools = h.pools;
  volumes = h.volumes;
  instances = h.instances;
  snapshots = h.snapshots;
  powers = h.powers;
  new_volumes = Distinct-more volume_names claimed_volume s.volumes o put new.volume h.new_volumes;
  new_instances = Distinct-more instance_names new_instance s.instances o put new.instance h.new_instances;
  new_snapshots = Distinct-more snapshot_names claimed_snapshot s.snapshots o put new.snapshot h.new_snapshots;
}

pub AreNamed-claiming : (s : State) (task : Task) (moment : ℕ) → IsClaimable s task → AreNamed s → AreNamed (claiming s task moment)
AreNamed-claiming s task moment new h = AreNamed-more s (claiming s task moment).operations _ (Puts-push s.operations.live) new h

pub AreNamed-entered : (s : State) (task : Task) (moment : ℕ) → IsClaimable s task → AreNamed s → AreNamed (entered s task moment)
unfolding entered
AreNamed-entered s task moment new h =
    AreNamed-aside (claiming s task moment) (entered s task moment).held (entered s task moment).books s.notices s.next_notice
    (AreNamed-claiming s task moment new h)

-- ---- names of rows are good

pub good_rows : (s : State) → AreNamed s → EachRow HasGoodKey s
good_rows s h = each-row s (Each-left (claims_of s) h.good)

pub row_moments : (s : State) → AreNamed s → EachRow HasMoments s
row_moments s h = each-row s (Each-left (claims_of s) h.moments)

-- the name of a project that is there
pub good-project : (s : State) (name : List ℕ) → AreNamed s → is_some (project_named s.projects name) ≡ true → IsGood kind.Project name
good-project s name h there =
    let found = some_there (project_named s.projects name) there in
    let r = find-some (is_project name) s.projects found.0 found.1 in
    subst (IsGood kind.Project) (same found.0.name name r.1) ((good_rows s h).projects.at found.0 r.0)

-- the name of a pool that is there
pub good-pool : (s : State) (name : List ℕ) → AreNamed s → is_some (pool_named s.pools name) ≡ true → IsGood kind.Pool name
good-pool s name h there =
    let found = some_there (pool_named s.pools name) there in
    let r = find-some (is_pool name) s.pools found.0 found.1 in
    subst (IsGood kind.Pool) (same found.0.name name r.1) ((good_rows s h).pools.at found.0 r.0)

-- an instance that no operation keeps busy is there
pub idle-there : (s : State) (i : Instance) → IsIdle s i → Mem i s.instances
idle-there s i idle = (find-some (is_instance i.project i.name) s.instances i idle.there).0

-- ---- by deed

pub claimable : (s : State) (task : Task) → AreNamed s → Begins s task → IsClaimable s task
claimable s task h (creates project name body moment there new profiles early) = record {
  good = (good-project s project h there, new.good);
  timely = early;
  volume = tt;
  instance = fresh-instance s project name new;
  snapshot = tt;
}
claimable s task h (copies_instance name body moment i idle new profiles early) = record {
  good = (good-project s i.project h idle.project, new.good);
  timely = early;
  volume = tt;
  instance = fresh-instance s i.project name new;
  snapshot = tt;
}
claimable s task h (copies_snapshot name body moment i r idle found new profiles early) = record {
  good = (good-project s i.project h idle.project, new.good);
  timely = early;
  volume = tt;
  instance = fresh-instance s i.project name new;
  snapshot = tt;
}
claimable s task h (copies_volume pool name body moment v home found from pool_there new early) = record {
  good = (good-project s v.project h home.there, good-pool s pool h pool_there, new.good);
  timely = early;
  volume = fresh-volume s v.project pool name new;
  instance = tt;
  snapshot = tt;
}
claimable s task h (updates old i idle alike) = record {
  good = (subst (IsGood kind.Project) (sym alike.project) good.0, subst (IsGood kind.Instance) (sym alike.name) good.1);
  timely = subst (λ m. m < moment_limit) (sym alike.created) ((row_moments s h).instances.at old (idle-there s old idle));
  volume = tt;
  instance = tt;
  snapshot = tt;
} where
  good : HasGoodKey (row.Instance old)
  good = (good_rows s h).instances.at old (idle-there s old idle)
claimable s task h (restores i r idle allowed found) = record {
  good = (good_rows s h).instances.at i (idle-there s i idle);
  timely = (row_moments s h).instances.at i (idle-there s i idle);
  volume = tt;
  instance = tt;
  snapshot = tt;
}
claimable s task h (renames i to idle allowed new) = record {
  good = (((good_rows s h).instances.at i (idle-there s i idle)).0, new.good);
  timely = (row_moments s h).instances.at i (idle-there s i idle);
  volume = tt;
  instance = fresh-instance s i.project to new;
  snapshot = tt;
}
claimable s task h (deletes i idle allowed) = record { good = tt; timely = tt; volume = tt; instance = tt; snapshot = tt }
claimable s task h (acts action i idle allowed) = record { good = tt; timely = tt; volume = tt; instance = tt; snapshot = tt }
claimable s task h (snaps name moment i idle allowed new early) = record {
  good = (good.0, good.1, new.good);
  timely = (early, (let zero_early : 0 < moment_limit = omega arith in zero_early));
  volume = tt;
  instance = tt;
  snapshot = fresh-snapshot s i.project i.name name new;
} where
  good : HasGoodKey (row.Instance i)
  good = (good_rows s h).instances.at i (idle-there s i idle)
claimable s task h (unsnaps i r idle found) = record { good = tt; timely = tt; volume = tt; instance = tt; snapshot = tt }
