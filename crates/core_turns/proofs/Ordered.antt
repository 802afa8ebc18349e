-- Rows whose settings and devices stand in order, list by list.
use Rattle.std.proofs.Common.{◌≡◌, ◌<◌, ◌≤◌, ℕ, ◌+◌, List, [], ◌∷◌, length, get_or, take, map, Option, subst}
use Rattle.std.specs.Prelude.{IfSome}
use Rattle.std.specs.List.{filter_map}
use Rattle.std.proofs.lemmas.List.{take_all, take_more}
use Rattle.plain_lists.specs.Members.{Each}
use Rattle.plain_lists.proofs.Elements.{Each-none, Each-cons, Each-head, Each-tail, Each-append, Each-push}
use Rattle.plain_lists.proofs.Readings.{Mem-from_read}
use Rattle.operations.specs.declared.operation.Operation.{Operation}
use Rattle.records.specs.declared.rows.Instance.{Instance}
use Rattle.records.specs.declared.rows.Profile.{Profile}
use Rattle.records.specs.declared.rows.Row.{Row}
use Rattle.records.specs.declared.rows.Row.TheVariants as row
use Rattle.records.specs.declared.rows.Snapshot.{Snapshot}
use Rattle.row_machine.specs.machine.State.{State}
use Rattle.row_machine.specs.machine.Task.{Task}
use Rattle.machine_laws.specs.Sorted.{AreSortedRows, IsSortedRow}

-- one more element
pub each-next : {X : Type 0} (P : X → Type 0) (xs : List X) (i : ℕ) (x : X) → i < length xs → x ≡ get_or xs i x → P x → Each P (take i xs)
    → Each P (take (i + 1) xs)
each-next P xs i x below is p e = rw (take_more xs i x below) (Each-push P e (subst P is p))

-- all of them
pub each-all : {X : Type 0} (P : X → Type 0) (xs : List X) (i : ℕ) → length xs ≤ i → Each P (take i xs) → Each P xs
each-all P xs i all e = subst (Each P) (take_all i xs all) e

-- rows of one kind
each-row : {X : Type 0} (P : Row → Type 0) (as_row : X → Row) (xs : List X) → Each (λ x. P (as_row x)) xs → Each P (map as_row xs)
each-row P as_row [] e = Each-none
each-row P as_row (x ∷ xs) e = Each-cons P (Each-head e) (each-row P as_row xs (Each-tail e))

-- of a kind without such settings
each-free : {X : Type 0} (P : Row → Type 0) (as_row : X → Row) (xs : List X) → ((x : X) → P (as_row x)) → Each P (map as_row xs)
each-free P as_row [] free = Each-none
each-free P as_row (x ∷ xs) free = Each-cons P (free x) (each-free P as_row xs free)

-- what is read of operations
each-read : {X Y : Type 0} (P : Y → Type 0) (read : X → Option Y) (xs : List X) → Each (λ x. IfSome (read x) P) xs → Each P (filter_map read xs)
each-read P read xs e = record {
  at = λ y m.
      let found = Mem-from_read read y xs m in
      subst (λ o. IfSome o P) found.1.1 (e.at found.0 found.1.0);
}

pub all-ordered : (s : State) → Each (λ (r : Profile). IsSortedRow (row.Profile r)) s.profiles → Each (λ (r : Instance). IsSortedRow (row.Instance r)) s.instances
    → Each (λ (r : Snapshot). IsSortedRow (row.Snapshot r)) s.snapshots → Each (λ (o : Operation Task). IfSome o.work.claim IsSortedRow) s.operations.live
    → AreSortedRows s
all-ordered s profiles instances snapshots claims =
    let networks = each-free IsSortedRow row.Network s.networks (λ r. tt) in
    let pools = each-free IsSortedRow row.Pool s.pools (λ r. tt) in
    let volumes = each-free IsSortedRow row.Volume s.volumes (λ r. tt) in
    let first = Each-append (each-free IsSortedRow row.Project s.projects (λ r. tt)) (each-row IsSortedRow row.Profile s.profiles profiles) in
    let without_instances = Each-append (Each-append (Each-append first networks) pools) volumes in
    let rows = Each-append (Each-append without_instances (each-row IsSortedRow row.Instance s.instances instances))
    (each-row IsSortedRow row.Snapshot s.snapshots snapshots) in
    Each-append rows (each-read IsSortedRow (λ (o : Operation Task). o.work.claim) s.operations.live claims)
