-- The rows of a state in the order of their entries, put one after the other, make the state that is opened again.
use Rattle.std.proofs.Common.{◌≡◌, false, Ok, [], map, sym, ap, subst, ◌∙◌}
use Rattle.plain_lists.specs.Members.{Mem, Each}
use Rattle.plain_lists.proofs.Elements.{Mem-left, Mem-map, Mem-from_map}
use Rattle.operations.specs.OperationTable.{no_operations}
use Rattle.reservations.specs.Holdings.{no_books}
use Rattle.record_keeper.specs.Entries.{IsOrderedEntries}
use Rattle.records.specs.declared.rows.Row.{Row}
use Rattle.records.specs.declared.rows.Row.TheVariants as row
use Rattle.row_codec.specs.Rows.{HasTypedParts}
use Rattle.row_codec.specs.Spelling.{entry_of}
use Rattle.row_codec.specs.Reading.{row_of}
use Rattle.row_codec.proofs.Entries.{row_spelled}
use Rattle.row_codec.proofs.ShortParts.{short-parts}
use Rattle.row_machine.specs.machine.State.{State, empty_state}
use Rattle.row_machine.specs.machine.Rows.{project_names, profile_names, network_names, pool_names, volume_names, instance_names, snapshot_names}
use Rattle.row_machine.specs.opening.Records.{rows_of, records_of}
use Rattle.row_machine.specs.opening.Opening.{with_rows, rows_in}
use Rattle.row_machine.specs.facts.Whole.{IsWhole, AreNamed, claims_of}
use Rattle.machine_laws.proofs.NamesRows.{EachRow, rows-each, each-row}
use Rattle.machine_laws.proofs.RecordsOrdered.{records-ordered}
use Rattle.machine_laws.proofs.OpeningRows.{IsKeyed, with_all, with_rows-is, only-rows, rows-named, rows_alone, opened-alone}
use Rattle.machine_laws.proofs.OpeningKept.{records-all}
use Rattle.machine_laws.specs.Reopening.{stopped, reopened}
use Rattle.machine_laws.proofs.Rising.{rise-same}
use Rattle.machine_laws.proofs.Sections.{sorted_rows, records-spelled, to-rows, from-rows}
use Rattle.machine_laws.proofs.Reading.{ReadsBack, rows-back}
use Rattle.machine_laws.proofs.InstancePowers.{all-stopped, stopped-are}

-- ---- rows that are in a state

-- a row is one of its kind
abbrev pub IsIn : State → Row → Type 0
IsIn s (row.Project r) = Mem r s.projects
IsIn s (row.Profile r) = Mem r s.profiles
IsIn s (row.Network r) = Mem r s.networks
IsIn s (row.Pool r) = Mem r s.pools
IsIn s (row.Volume r) = Mem r s.volumes
IsIn s (row.Instance r) = Mem r s.instances
IsIn s (row.Snapshot r) = Mem r s.snapshots

rows-in : (s : State) → Each (IsIn s) (rows_of s)
rows-in s = rows-each s (record {
  projects = record { at = λ r m. m };
  profiles = record { at = λ r m. m };
  networks = record { at = λ r m. m };
  pools = record { at = λ r m. m };
  volumes = record { at = λ r m. m };
  instances = record { at = λ r m. m };
  snapshots = record { at = λ r m. m };
})

-- where each row of a state is one of another state's rows, it is one of its kind there
each-in : (s t : State) → ((r : Row) → Mem r (rows_of s) → Mem r (rows_of t)) → EachRow (IsIn t) s
each-in s t f = each-row s (record { at = λ r m. (rows-in t).at r (f r m) })

-- ---- the state

module _ (s : State) (whole : IsWhole s) (typed : Each HasTypedParts (rows_of s)) where
  keyed : (r : Row) → Mem r (rows_of s) → IsKeyed r
  keyed r m =
      let n = Mem-left r (rows_of s) (claims_of s) m in
      (whole.names.good.at r n, whole.names.moments.at r n)

  reads-back : (r : Row) → Mem r (rows_of s) → ReadsBack r
  reads-back r m =
      let key = keyed r m in
      row_spelled r (record {
        keyed = key.0;
        timely = key.1;
        short = short-parts r (whole.sizes.rows.at r (Mem-left r (rows_of s) (claims_of s) m));
        typed = typed.at r m;
      })

  -- the entries are read as these rows
  pub rows-read_back : rows_in (map entry_of (sorted_rows s)) ≡ Ok (sorted_rows s)
  rows-read_back = rows-back (sorted_rows s) (record { at = λ r m. reads-back r (from-rows s r m) })

  each-keyed : Each IsKeyed (sorted_rows s)
  each-keyed = record { at = λ r m. keyed r (from-rows s r m) }

  abbrev made : State
  made = with_all (sorted_rows s) empty_state

  named : AreNamed made
  named = rows-named (sorted_rows s) each-keyed

  same-records : records_of made ≡ records_of s
  same-records =
      records-all (sorted_rows s) each-keyed (subst IsOrderedEntries (records-spelled s) (records-ordered s whole.names))
      ∙ sym (records-spelled s)

  -- ---- the same rows

  down : (r : Row) → Mem r (rows_of made) → Mem r (rows_of s)
  down r m = from-rows s r (only-rows (sorted_rows s) r m)

  up : (r : Row) → Mem r (rows_of s) → Mem r (rows_of made)
  up r m = by (Mem-from_map entry_of (entry_of r) (sorted_rows made) spelled) where
    spelled : Mem (entry_of r) (map entry_of (sorted_rows made))
    spelled =
        subst (λ es. Mem (entry_of r) es) (sym (records-spelled s) ∙ sym same-records ∙ records-spelled made)
        (Mem-map entry_of r (sorted_rows s) (to-rows s r m))

    by : (x : Row) × (Mem x (sorted_rows made) × (entry_of r ≡ entry_of x)) → Mem r (rows_of made)
    by found =
        let x = found.0 in
        let there = from-rows made x found.1.0 in
        let read : Ok r ≡ Ok x = sym (reads-back r m) ∙ ap row_of found.1.1 ∙ reads-back x (down x there) in
        let same : x ≡ r = cc in
        subst (λ y. Mem y (rows_of made)) same there

  below : EachRow (IsIn s) made
  below = each-in made s down

  above : EachRow (IsIn made) s
  above = each-in s made up

  same-instances : made.instances ≡ s.instances
  same-instances = rise-same instance_names made.instances s.instances named.instances whole.names.instances below.instances above.instances

  same-powers : made.powers ≡ map stopped s.instances
  same-powers = stopped-are made.powers made.instances named.powers (all-stopped (sorted_rows s)) ∙ ap (map stopped) same-instances

  made-is : rows_alone made ≡ reopened s
  made-is = λ i. record {
    projects = rise-same project_names made.projects s.projects named.projects whole.names.projects below.projects above.projects i;
    profiles = rise-same profile_names made.profiles s.profiles named.profiles whole.names.profiles below.profiles above.profiles i;
    networks = rise-same network_names made.networks s.networks named.networks whole.names.networks below.networks above.networks i;
    pools = rise-same pool_names made.pools s.pools named.pools whole.names.pools below.pools above.pools i;
    volumes = rise-same volume_names made.volumes s.volumes named.volumes whole.names.volumes below.volumes above.volumes i;
    instances = same-instances i;
    snapshots = rise-same snapshot_names made.snapshots s.snapshots named.snapshots whole.names.snapshots below.snapshots above.snapshots i;
    powers = same-powers i;
    operations = no_operations;
    held = [];
    books = no_books;
    notices = [];
    next_notice = 1;
    closed = false;
  }

  pub rows-make : with_rows (sorted_rows s) ≡ reopened s
  rows-make = with_rows-is (sorted_rows s) ∙ opened-alone (sorted_rows s) ∙ made-is
