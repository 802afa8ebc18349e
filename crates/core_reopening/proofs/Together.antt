-- The rows of all kinds, kind by kind.
use Rattle.std.proofs.Common.{List, map, sym, subst}
use Rattle.plain_lists.specs.Members.{Each}
use Rattle.plain_lists.proofs.Elements.{Each-append, Mem-from_map}
use Rattle.records.specs.declared.rows.Instance.{Instance}
use Rattle.records.specs.declared.rows.Network.{Network}
use Rattle.records.specs.declared.rows.Pool.{Pool}
use Rattle.records.specs.declared.rows.Profile.{Profile}
use Rattle.records.specs.declared.rows.Project.{Project}
use Rattle.records.specs.declared.rows.Row.{Row}
use Rattle.records.specs.declared.rows.Row.TheVariants as row
use Rattle.records.specs.declared.rows.Snapshot.{Snapshot}
use Rattle.records.specs.declared.rows.Volume.{Volume}
use Rattle.row_codec.specs.Rows.{HasTypedParts}
use Rattle.row_machine.specs.machine.State.{State}
use Rattle.row_machine.specs.opening.Records.{rows_of}

-- rows of one kind
each-row : {X : Type 0} (as_row : X → Row) (xs : List X) → Each (λ x. HasTypedParts (as_row x)) xs → Each HasTypedParts (map as_row xs)
each-row as_row xs e = record {
  at = λ y m.
      let found = Mem-from_map as_row y xs m in
      subst HasTypedParts (sym found.1.1) (e.at found.0 found.1.0);
}

pub all-typed : (s : State)
    → Each (λ (r : Project). HasTypedParts (row.Project r)) s.projects → Each (λ (r : Profile). HasTypedParts (row.Profile r)) s.profiles
    → Each (λ (r : Network). HasTypedParts (row.Network r)) s.networks → Each (λ (r : Pool). HasTypedParts (row.Pool r)) s.pools
    → Each (λ (r : Volume). HasTypedParts (row.Volume r)) s.volumes → Each (λ (r : Instance). HasTypedParts (row.Instance r)) s.instances
    → Each (λ (r : Snapshot). HasTypedParts (row.Snapshot r)) s.snapshots → Each HasTypedParts (rows_of s)
all-typed s projects profiles networks pools volumes instances snapshots =
    let first = Each-append (each-row row.Project s.projects projects) (each-row row.Profile s.profiles profiles) in
    let second = Each-append first (each-row row.Network s.networks networks) in
    let third = Each-append second (each-row row.Pool s.pools pools) in
    let fourth = Each-append third (each-row row.Volume s.volumes volumes) in
    Each-append (Each-append fourth (each-row row.Instance s.instances instances)) (each-row row.Snapshot s.snapshots snapshots)
