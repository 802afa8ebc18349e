-- What each row of a state meets, kind by kind, and after rows were put and removed.
use Rattle.std.proofs.Common.{ℕ, Bool, ◌⊎◌, List, [], ◌∷◌, ◌++◌, map, inl, inr}
use Rattle.plain_lists.specs.Members.{Mem, Each}
use Rattle.plain_lists.specs.Edits.{replaced}
use Rattle.plain_lists.proofs.Elements.{Each-append, Each-left, Each-right, Each-from_map, Each-head, Each-tail}
use Rattle.plain_lists.proofs.EditLemmas.{replaced-is, Each-Replaces, Each-dropped}
use Rattle.size_values.specs.declared.kinds.ObjectKind.{ObjectKind}
use Rattle.size_values.specs.declared.kinds.ObjectKind.TheVariants as kind
use Rattle.records.specs.declared.rows.Row.{Row}
use Rattle.records.specs.declared.rows.Row.TheVariants as row
use Rattle.row_machine.specs.declared.changes.RowChange.{RowChange}
use Rattle.row_machine.specs.declared.changes.RowChange.TheVariants as change
use Rattle.row_machine.specs.machine.State.{State}
use Rattle.row_machine.specs.opening.Records.{rows_of}
use Rattle.row_machine.specs.machine.Changes.{with_row, without_row, applied, rows_put}
use Rattle.machine_laws.proofs.NamesLists.{Each-to_map}

-- a fact on each row, kind by kind
pub record EachRow (P : Row → Type 0) (s : State) : Type 0 where
  pub projects : Each (λ r. P (row.Project r)) s.projects
  pub profiles : Each (λ r. P (row.Profile r)) s.profiles
  pub networks : Each (λ r. P (row.Network r)) s.networks
  pub pools : Each (λ r. P (row.Pool r)) s.pools
  pub volumes : Each (λ r. P (row.Volume r)) s.volumes
  pub instances : Each (λ r. P (row.Instance r)) s.instances
  pub snapshots : Each (λ r. P (row.Snapshot r)) s.snapshots

pub rows-each : {P : Row → Type 0} (s : State) → EachRow P s → Each P (rows_of s)
rows-each {P} s e =
    Each-append (Each-append (Each-append (Each-append (Each-append (Each-append
    (Each-to_map row.Project P e.projects)
    (Each-to_map row.Profile P e.profiles))
    (Each-to_map row.Network P e.networks))
    (Each-to_map row.Pool P e.pools))
    (Each-to_map row.Volume P e.volumes))
    (Each-to_map row.Instance P e.instances))
    (Each-to_map row.Snapshot P e.snapshots)

pub each-row : {P : Row → Type 0} (s : State) → Each P (rows_of s) → EachRow P s
each-row {P} s e = record {
  projects = Each-from_map row.Project (Each-left (map row.Profile s.profiles) two);
  profiles = Each-from_map row.Profile (Each-right (map row.Project s.projects) two);
  networks = Each-from_map row.Network (Each-right (map row.Project s.projects ++ map row.Profile s.profiles) three);
  pools = Each-from_map row.Pool (Each-right (map row.Project s.projects ++ map row.Profile s.profiles ++ map row.Network s.networks) four);
  volumes = Each-from_map row.Volume
      (Each-right (map row.Project s.projects ++ map row.Profile s.profiles ++ map row.Network s.networks ++ map row.Pool s.pools) five);
  instances = Each-from_map row.Instance
      (Each-right (map row.Project s.projects ++ map row.Profile s.profiles ++ map row.Network s.networks ++ map row.Pool s.pools ++ map row.Volume s.volumes) six);
  snapshots = Each-from_map row.Snapshot
      (Each-right (map row.Project s.projects ++ map row.Profile s.profiles ++ map row.Network s.networks ++ map row.Pool s.pools ++ map row.Volume s.volumes ++ map row.Instance s.instances) e);
} where
  six : Each P (map row.Project s.projects ++ map row.Profile s.profiles ++ map row.Network s.networks ++ map row.Pool s.pools ++ map row.Volume s.volumes ++ map row.Instance s.instances)
  six = Each-left (map row.Snapshot s.snapshots) e

  five : Each P (map row.Project s.projects ++ map row.Profile s.profiles ++ map row.Network s.networks ++ map row.Pool s.pools ++ map row.Volume s.volumes)
  five = Each-left (map row.Instance s.instances) six

  four : Each P (map row.Project s.projects ++ map row.Profile s.profiles ++ map row.Network s.networks ++ map row.Pool s.pools)
  four = Each-left (map row.Volume s.volumes) five

  three : Each P (map row.Project s.projects ++ map row.Profile s.profiles ++ map row.Network s.networks)
  three = Each-left (map row.Pool s.pools) four

  two : Each P (map row.Project s.projects ++ map row.Profile s.profiles)
  two = Each-left (map row.Network s.networks) three

-- ---- a row is put

-- one element put into a list
put-each : {X : Type 0} (P : X → Type 0) (p before : X → Bool) (x : X) (xs : List X) → P x → Each P xs → Each P (replaced p before x xs)
put-each P p before x xs is e = Each-Replaces P (replaced-is p before x xs) is e

pub EachRow-with : {P : Row → Type 0} (r : Row) (s : State) → P r → EachRow P s → EachRow P (with_row r s)
EachRow-with {P} (row.Project r) s is e = record {
  projects = put-each (λ x. P (row.Project x)) _ _ r s.projects is e.projects;
  profiles = e.profiles;
  networks = e.networks;
  pools = e.pools;
  volumes = e.volumes;
  instances = e.instances;
  snapshots = e.snapshots;
}
EachRow-with {P} (row.Profile r) s is e = record {
  projects = e.projects;
  profiles = put-each (λ x. P (row.Profile x)) _ _ r s.profiles is e.profiles;
  networks = e.networks;
  pools = e.pools;
  volumes = e.volumes;
  instances = e.instances;
  snapshots = e.snapshots;
}
EachRow-with {P} (row.Network r) s is e = record {
  projects = e.projects;
  profiles = e.profiles;
  networks = put-each (λ x. P (row.Network x)) _ _ r s.networks is e.networks;
  pools = e.pools;
  volumes = e.volumes;
  instances = e.instances;
  snapshots = e.snapshots;
}
EachRow-with {P} (row.Pool r) s is e = record {
  projects = e.projects;
  profiles = e.profiles;
  networks = e.networks;
  pools = put-each (λ x. P (row.Pool x)) _ _ r s.pools is e.pools;
  volumes = e.volumes;
  instances = e.instances;
  snapshots = e.snapshots;
}
EachRow-with {P} (row.Volume r) s is e = record {
  projects = e.projects;
  profiles = e.profiles;
  networks = e.networks;
  pools = e.pools;
  volumes = put-each (λ x. P (row.Volume x)) _ _ r s.volumes is e.volumes;
  instances = e.instances;
  snapshots = e.snapshots;
}
EachRow-with {P} (row.Instance r) s is e = record {
  projects = e.projects;
  profiles = e.profiles;
  networks = e.networks;
  pools = e.pools;
  volumes = e.volumes;
  instances = put-each (λ x. P (row.Instance x)) _ _ r s.instances is e.instances;
  snapshots = e.snapshots;
}
EachRow-with {P} (row.Snapshot r) s is e = record {
  projects = e.projects;
  profiles = e.profiles;
  networks = e.networks;
  pools = e.pools;
  volumes = e.volumes;
  instances = e.instances;
  snapshots = put-each (λ x. P (row.Snapshot x)) _ _ r s.snapshots is e.snapshots;
}

pub rows-with : {P : Row → Type 0} (r : Row) (s : State) → P r → Each P (rows_of s) → Each P (rows_of (with_row r s))
rows-with r s is e = rows-each (with_row r s) (EachRow-with r s is (each-row s e))

-- ---- a row is removed

pub EachRow-without : {P : Row → Type 0} (of : ObjectKind) (key : List ℕ) (s : State) → EachRow P s → EachRow P (without_row of key s)
EachRow-without kind.Project key s e = record {
  projects = Each-dropped _ e.projects;
  profiles = e.profiles;
  networks = e.networks;
  pools = e.pools;
  volumes = e.volumes;
  instances = e.instances;
  snapshots = e.snapshots;
}
EachRow-without kind.Profile key s e = record {
  projects = e.projects;
  profiles = Each-dropped _ e.profiles;
  networks = e.networks;
  pools = e.pools;
  volumes = e.volumes;
  instances = e.instances;
  snapshots = e.snapshots;
}
EachRow-without kind.Network key s e = record {
  projects = e.projects;
  profiles = e.profiles;
  networks = Each-dropped _ e.networks;
  pools = e.pools;
  volumes = e.volumes;
  instances = e.instances;
  snapshots = e.snapshots;
}
EachRow-without kind.Pool key s e = record {
  projects = e.projects;
  profiles = e.profiles;
  networks = e.networks;
  pools = Each-dropped _ e.pools;
  volumes = e.volumes;
  instances = e.instances;
  snapshots = e.snapshots;
}
EachRow-without kind.Volume key s e = record {
  projects = e.projects;
  profiles = e.profiles;
  networks = e.networks;
  pools = e.pools;
  volumes = Each-dropped _ e.volumes;
  instances = e.instances;
  snapshots = e.snapshots;
}
EachRow-without kind.Instance key s e = record {
  projects = e.projects;
  profiles = e.profiles;
  networks = e.networks;
  pools = e.pools;
  volumes = e.volumes;
  instances = Each-dropped _ e.instances;
  snapshots = e.snapshots;
}
EachRow-without kind.Snapshot key s e = record {
  projects = e.projects;
  profiles = e.profiles;
  networks = e.networks;
  pools = e.pools;
  volumes = e.volumes;
  instances = e.instances;
  snapshots = Each-dropped _ e.snapshots;
}
EachRow-without kind.Operation key s e = e

pub rows-without : {P : Row → Type 0} (of : ObjectKind) (key : List ℕ) (s : State) → Each P (rows_of s) → Each P (rows_of (without_row of key s))
rows-without of key s e = rows-each (without_row of key s) (EachRow-without of key s (each-row s e))

-- ---- all changes

pub EachRow-applied : {P : Row → Type 0} (s : State) (cs : List RowChange) → EachRow P s → Each P (rows_put cs) → EachRow P (applied s cs)
EachRow-applied s [] e new = e
EachRow-applied s (change.Put r ∷ cs) e new = EachRow-applied (with_row r s) cs (EachRow-with r s (Each-head new) e) (Each-tail new)
EachRow-applied s (change.Remove of key ∷ cs) e new = EachRow-applied (without_row of key s) cs (EachRow-without of key s e) new

pub rows-applied : {P : Row → Type 0} (s : State) (cs : List RowChange) → Each P (rows_of s) → Each P (rows_put cs) → Each P (rows_of (applied s cs))
rows-applied s cs e new = rows-each (applied s cs) (EachRow-applied s cs (each-row s e) new)

-- a row after the changes was there, or was put
pub Mem-applied : (s : State) (cs : List RowChange) (r : Row) → Mem r (rows_of (applied s cs)) → Mem r (rows_of s) ⊎ Mem r (rows_put cs)
Mem-applied s cs r m = each.at r m where
  each : Each (λ x. Mem x (rows_of s) ⊎ Mem x (rows_put cs)) (rows_of (applied s cs))
  each = rows-applied s cs (record { at = λ x n. inl n }) (record { at = λ x n. inr n })
