-- Each step keeps the settings and devices of all rows in order.
use Rattle.std.proofs.Common.{◌≡◌, ℕ, Bool, true, false, cond, filter, Option, Some, None, List, [], ◌∷◌, ◌++◌, map, refl, sym, ap, subst, ◌∙◌}
use Rattle.std.specs.List.{filter_map}
use Rattle.std.specs.Option.{option_map_or, option_to_list}
use Rattle.plain_lists.specs.Members.{Each}
use Rattle.plain_lists.specs.Edits.{dropped}
use Rattle.plain_lists.proofs.Elements.{Each-none, Each-cons, Each-head, Each-tail, Each-left, Each-right, Each-append}
use Rattle.plain_lists.proofs.EditLemmas.{Mem-dropped}
use Rattle.plain_lists.proofs.Readings.{Mem-read, Mem-from_read}
use Rattle.size_values.specs.declared.kinds.Action.{Action}
use Rattle.size_values.specs.declared.kinds.Action.TheVariants as action
use Rattle.size_values.specs.declared.kinds.Deed.{Deed}
use Rattle.size_values.specs.declared.kinds.Deed.TheVariants as deed
use Rattle.operations.specs.declared.operation.Operation.{Operation}
use Rattle.operations.specs.declared.operation.OpFault.{OpFault}
use Rattle.operations.specs.declared.status.Status.TheVariants.{Cancelling}
use Rattle.operations.specs.OperationTable.{has_number, live_at}
use Rattle.records.specs.declared.commands.Command.{Command}
use Rattle.records.specs.declared.notices.Untold.{Untold}
use Rattle.records.specs.declared.rows.Instance.{Instance}
use Rattle.records.specs.declared.rows.Snapshot.{Snapshot}
use Rattle.records.specs.declared.rows.Row.{Row}
use Rattle.records.specs.declared.rows.Row.TheVariants as row
use Rattle.row_machine.specs.declared.changes.RowChange.{RowChange}
use Rattle.row_machine.specs.declared.changes.RowChange.TheVariants as change
use Rattle.row_machine.specs.declared.events.Event.{Event}
use Rattle.row_machine.specs.declared.events.Event.TheVariants as event
use Rattle.row_machine.specs.machine.Task.{Task}
use Rattle.row_machine.specs.machine.State.{State}
use Rattle.row_machine.specs.machine.Rows.{instance_named, snapshot_named}
use Rattle.row_machine.specs.machine.Asked.{snapshots_of}
use Rattle.row_machine.specs.opening.Records.{rows_of}
use Rattle.row_machine.specs.machine.Changes.{applied, rows_put}
use Rattle.row_machine.specs.machine.Claims.{claimed_instance}
use Rattle.row_machine.specs.shown.Notices.{telling}
use Rattle.row_machine.specs.machine.Plans.{changes, starts}
use Rattle.row_machine.specs.machine.Operations.{entered, with_task, moved, one_more_done, undone, cancelled, failed, succeeded, success_changes, renames_instance, power_after, with_power_after}
use Rattle.row_machine.specs.facts.Whole.{IsWhole, claims_of}
use Rattle.machine_laws.specs.Sorted.{IsSortedRow, IsSortedRequest, IsSortedEvent, AreSortedRows, StepsKeepOrder}
use Rattle.machine_laws.proofs.Base.{live-mem, first-live, task-reads, moved-reads, taken-reads, taken_state, entered-reads}
use Rattle.machine_laws.proofs.BooksSteps.{applied-same, power-keeps, failure-keeps}
use Rattle.machine_laws.proofs.NamesRows.{EachRow, each-row, rows-applied}
use Rattle.machine_laws.proofs.NamesApplied.{puts-each, removals-each, removals-none}
use Rattle.machine_laws.proofs.EndsShares.{told-same, failed-left, succeeded-left}
use Rattle.machine_laws.proofs.CancelsBegin.{told-rows}
use Rattle.machine_laws.proofs.Steps.{AltersBy, AsksOnly, step-alters_by}
use Rattle.machine_laws.proofs.Steps.AltersBy.{stays, closes, rows, enters, hands_out, goes_on, takes_back, turns, cancels, fails, succeeds}
use Rattle.machine_laws.proofs.SortedPlans.{PutsSorted, plan-sorted}

-- ---- two parts

-- of rows and of claims
join : (s t : State) → rows_of t ≡ rows_of s → claims_of t ≡ claims_of s → AreSortedRows s → AreSortedRows t
join s t same claims h = subst (Each IsSortedRow) (ap (λ cs. rows_of s ++ cs) (sym claims) ∙ ap (λ rs. rs ++ claims_of t) (sym same)) h

both : (s : State) → Each IsSortedRow (rows_of s) → Each IsSortedRow (claims_of s) → AreSortedRows s
both s = Each-append

told : (s : State) (ns : List Untold) → AreSortedRows s → AreSortedRows (telling ns s)
told s ns h = join s (telling ns s) (told-rows s ns)
    (ap (λ k. filter_map (λ (o : Operation Task). o.work.claim) k.live) (told-same ns s).operations) h

-- what is read of fewer operations
read-fewer : {X Y : Type 0} (P : Y → Type 0) (read : X → Option Y) (p : X → Bool) (xs : List X) → Each P (filter_map read xs) → Each P (filter_map read (dropped p xs))
read-fewer P read p xs h = record {
  at = λ y m.
      let found = Mem-from_read read y (dropped p xs) m in
      h.at y (Mem-read read found.0 y xs (Mem-dropped found.0 p xs found.1.0) found.1.1);
}

-- the claims that are left
left-claims : (s t : State) (n : ℕ) → t.operations.live ≡ dropped (has_number n) s.operations.live → Each IsSortedRow (claims_of s) → Each IsSortedRow (claims_of t)
left-claims s t n left h =
    subst (λ os. Each IsSortedRow (filter_map (λ (o : Operation Task). o.work.claim) os)) (sym left)
    (read-fewer IsSortedRow (λ (o : Operation Task). o.work.claim) (has_number n) s.operations.live h)

-- ---- what a success puts

pub claim-is : (task : Task) (j : Instance) → claimed_instance task ≡ Some j → task.claim ≡ Some (row.Instance j)
claim-is task j is = by task.claim is where
  by : (c : Option Row) → claimed_instance (record task { claim = c }) ≡ Some j → c ≡ Some (row.Instance j)
  by None e = cc
  by (Some (row.Instance i)) e = cc
  by (Some (row.Project r)) e = cc
  by (Some (row.Profile r)) e = cc
  by (Some (row.Network r)) e = cc
  by (Some (row.Pool r)) e = cc
  by (Some (row.Volume r)) e = cc
  by (Some (row.Snapshot r)) e = cc

module _ (s : State) (h : EachRow IsSortedRow s) where
  claimed : (c : Option Row) → ((r : Row) → c ≡ Some r → IsSortedRow r) → Each IsSortedRow (rows_put (map change.Put (option_to_list c)))
  claimed None known = Each-none
  claimed (Some r) known = Each-cons IsSortedRow (known r refl) Each-none

  -- the snapshots of an instance, under another instance
  moved_snapshots : (i : Instance) (rs : List Snapshot) → Each (λ r. IsSortedRow (row.Snapshot r)) rs
      → Each IsSortedRow (map (λ r. row.Snapshot (record r { instance = i.name; project = i.project })) rs)
  moved_snapshots i [] known = Each-none
  moved_snapshots i (r ∷ rs) known =
      Each-cons IsSortedRow (record { config = (Each-head known).config; devices = (Each-head known).devices }) (moved_snapshots i rs (Each-tail known))

  filtered : (p : Snapshot → Bool) (rs : List Snapshot) → Each (λ r. IsSortedRow (row.Snapshot r)) rs → Each (λ r. IsSortedRow (row.Snapshot r)) (filter p rs)
  filtered p [] known = Each-none
  filtered p (r ∷ rs) known = at (p r) (filtered p rs (Each-tail known)) where
    at : (b : Bool) → Each (λ x. IsSortedRow (row.Snapshot x)) (filter p rs) → Each (λ x. IsSortedRow (row.Snapshot x)) (cond b (r ∷ filter p rs) (filter p rs))
    at true rest = Each-cons (λ x. IsSortedRow (row.Snapshot x)) (Each-head known) rest
    at false rest = rest

  renamed : (task : Task) (i : Option Instance) → ((j : Instance) → i ≡ Some j → IsSortedRow (row.Instance j))
      → Each IsSortedRow (rows_put (option_map_or (renames_instance s task) i []))
  renamed task None known = Each-none
  renamed task (Some i) known =
      removals-each (map row.Snapshot (snapshots_of s task.project task.target.name) ++ map row.Instance (option_to_list (instance_named s.instances task.project task.target.name))) _
      (puts-each (row.Instance i ∷ map (λ r. row.Snapshot (record r { instance = i.name; project = i.project })) (snapshots_of s task.project task.target.name))
      (Each-cons IsSortedRow (known i refl) (moved_snapshots i (snapshots_of s task.project task.target.name) (filtered _ s.snapshots h.snapshots))))

  acts : (task : Task) (does : Action) (ephemeral : Bool) → Each IsSortedRow (rows_put (success_changes s (record task { deed = deed.Act does ephemeral })))
  acts task action.Stop true =
      removals-none (map row.Snapshot (snapshots_of s task.project task.target.name) ++ map row.Instance (option_to_list (instance_named s.instances task.project task.target.name)))
  acts task action.Stop false = Each-none
  acts task action.Start ephemeral = Each-none
  acts task action.Restart ephemeral = Each-none
  acts task action.Freeze ephemeral = Each-none
  acts task action.Unfreeze ephemeral = Each-none

  by-deed : (task : Task) (d : Deed) → ((r : Row) → task.claim ≡ Some r → IsSortedRow r) → Each IsSortedRow (rows_put (success_changes s (record task { deed = d })))
  by-deed task deed.Create known = claimed task.claim known
  by-deed task deed.Copy known = claimed task.claim known
  by-deed task deed.Update known = claimed task.claim known
  by-deed task deed.Restore known = claimed task.claim known
  by-deed task deed.Rename known = renamed task (claimed_instance task) (λ j is. known (row.Instance j) (claim-is task j is))
  by-deed task deed.Delete known =
      removals-none (map row.Snapshot (snapshots_of s task.project task.target.name) ++ map row.Instance (option_to_list (instance_named s.instances task.project task.target.name)))
  by-deed task (deed.Act does ephemeral) known = acts task does ephemeral
  by-deed task deed.Snap known = claimed task.claim known
  by-deed task deed.Unsnap known =
      removals-none (map row.Snapshot (option_to_list (snapshot_named s.snapshots task.project task.target.instance task.target.name)))
  by-deed task deed.CopyVolume known = claimed task.claim known

-- ---- each kind of change

claim-sorted : (s : State) (o : Operation Task) → live_at s.operations o.number ≡ Some o → Each IsSortedRow (claims_of s) → (r : Row) → o.work.claim ≡ Some r → IsSortedRow r
claim-sorted s o live h r is = h.at r (Mem-read (λ (x : Operation Task). x.work.claim) o r s.operations.live (live-mem s o.number o live) is)

cancelled-sorted : (s : State) (n moment : ℕ) → AreSortedRows s → AreSortedRows (cancelled s n moment)
unfolding cancelled
cancelled-sorted s n moment h = both (cancelled s n moment) (Each-left (claims_of s) h) (left-claims s (cancelled s n moment) n refl (Each-right (rows_of s) h))

failed-sorted : (s : State) (o : Operation Task) (why : OpFault) (done moment : ℕ) → AreSortedRows s → AreSortedRows (failed s o why done moment)
unfolding failed
failed-sorted s o why done moment h = both (failed s o why done moment)
    (failure-keeps (λ t. Each IsSortedRow (rows_of t)) (λ t powers e. e) o.work done s (Each-left (claims_of s) h))
    (left-claims s (failed s o why done moment) o.number (failed-left s o why done moment) (Each-right (rows_of s) h))

succeeded-sorted : (s : State) (o : Operation Task) (moment : ℕ) → live_at s.operations o.number ≡ Some o → AreSortedRows s → AreSortedRows (succeeded s o moment)
unfolding succeeded
succeeded-sorted s o moment live h = both (succeeded s o moment)
    (rows-applied (with_power_after o.work (power_after s o.work) s) (success_changes s o.work)
    (power-keeps (λ t. Each IsSortedRow (rows_of t)) (λ t powers e. e) o.work (power_after s o.work) s (Each-left (claims_of s) h))
    (by-deed s (each-row s (Each-left (claims_of s) h)) o.work o.work.deed (claim-sorted s o live (Each-right (rows_of s) h))))
    (left-claims s (succeeded s o moment) o.number (succeeded-left s o moment) (Each-right (rows_of s) h))

entered-sorted : (s : State) (task : Task) (moment : ℕ) → PutsSorted (starts task) → AreSortedRows s → AreSortedRows (entered s task moment)
unfolding entered
entered-sorted s task moment puts h = both (entered s task moment) (Each-left (claims_of s) h)
    (subst (Each IsSortedRow) (sym (entered-reads (λ t. t.claim) s task moment)) (Each-append (Each-right (rows_of s) h) (one task.claim puts))) where
      one : (c : Option Row) → ((r : Row) → c ≡ Some r → IsSortedRow r) → Each IsSortedRow (option_to_list c)
      one None known = Each-none
      one (Some r) known = Each-cons IsSortedRow (known r refl) Each-none

applied-sorted : (s : State) (cs : List RowChange) → PutsSorted (changes cs) → AreSortedRows s → AreSortedRows (applied s cs)
applied-sorted s cs puts h = both (applied s cs) (rows-applied s cs (Each-left (claims_of s) h) puts)
    (subst (λ k. Each IsSortedRow (filter_map (λ (o : Operation Task). o.work.claim) k.live)) (sym (applied-same cs s).operations) (Each-right (rows_of s) h))

-- ---- all steps

abbrev pub AsksSorted : Command → Type 0
AsksSorted c = IsSortedRequest c.what

pub alters-sorted : {s t : State} → IsWhole s → AltersBy AsksSorted s t → AreSortedRows s → AreSortedRows t
alters-sorted w stays h = h
alters-sorted w closes h = h
alters-sorted {s} w (rows c moment cs ns known accepted) h =
    told (applied s cs) ns (applied-sorted s cs (subst PutsSorted accepted.plan (plan-sorted s (each-row s (Each-left (claims_of s) h)) c moment known)) h)
alters-sorted {s} w (enters c moment task ns known accepted) h =
    told (entered s task moment) ns (entered-sorted s task moment (subst PutsSorted accepted.plan (plan-sorted s (each-row s (Each-left (claims_of s) h)) c moment known)) h)
alters-sorted {s} w (hands_out o moment call rest ns early first calls) h =
    told (taken_state s o rest moment) ns (join s (taken_state s o rest moment) refl (taken-reads (λ t. t.claim) s o rest moment (first-live s o w first).0 refl) h)
alters-sorted {s} w (goes_on o call rest l calls) h =
    join s (with_task o.number (one_more_done o.work rest) s) refl (task-reads (λ t. t.claim) s o.number o (one_more_done o.work rest) l.live refl) h
alters-sorted {s} w (takes_back o call l undo) h =
    join s (with_task o.number (undone o.work) s) refl (task-reads (λ t. t.claim) s o.number o (undone o.work) l.live refl) h
alters-sorted {s} w (turns o moment ns early l may) h =
    told (moved o.number Cancelling moment s) ns (join s (moved o.number Cancelling moment s) refl (moved-reads (λ t. t.claim) s o.number Cancelling moment) h)
alters-sorted {s} w (cancels o moment ns early live why) h = told (cancelled s o.number moment) ns (cancelled-sorted s o.number moment h)
alters-sorted {s} w (fails o why done moment ns early l) h = told (failed s o why done moment) ns (failed-sorted s o why done moment h)
alters-sorted {s} w (succeeds o moment lives ns early l none) h =
    told (telling lives (succeeded s o moment)) ns (told (succeeded s o moment) lives (succeeded-sorted s o moment l.live h))

pub asks-sorted : (e : Event) → IsSortedEvent e → AsksOnly AsksSorted e
asks-sorted (event.Ask c moment) h = h
asks-sorted (event.Look n) h = tt
asks-sorted (event.Take moment) h = tt
asks-sorted (event.Done n r moment) h = tt
asks-sorted (event.Fetch cursor filter) h = tt
asks-sorted event.Close h = tt

pub steps-sorted : StepsKeepOrder
steps-sorted s e outcome after h possible sorted order is = alters-sorted h (step-alters_by AsksSorted s e outcome after (asks-sorted e sorted) h possible is) order
