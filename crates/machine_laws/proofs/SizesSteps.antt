-- Sizes after each kind of step.
use Rattle.std.proofs.Common.{◌≡◌, ℕ, ◌<◌, ◌≤◌, ◌^◌, Bool, true, false, cond, ◌&&◌, nat_lt, Option, Some, None, List, [], ◌∷◌, ◌++◌, length, refl, sym, ap, subst, ◌∙◌, arith}
use Rattle.std.specs.Prelude.{IfSome}
use Rattle.std.specs.Option.{option_to_list}
use Rattle.plain_lists.specs.Members.{Mem, Each}
use Rattle.plain_lists.specs.Puts.{Puts}
use Rattle.plain_lists.specs.Edits.{changed_first}
use Rattle.plain_lists.proofs.Elements.{Each-append, Each-left, Each-right, Each-head}
use Rattle.plain_lists.proofs.PutsLemmas.{Puts-push}
use Rattle.plain_lists.proofs.Readings.{Mem-read}
use Rattle.plain_lists.proofs.Searches.{find-some}
use Rattle.plain_lists.proofs.EditLemmas.{dropped-Puts}
use Rattle.size_values.specs.declared.kinds.ObjectKind.{ObjectKind}
use Rattle.size_values.specs.declared.kinds.ObjectKind.TheVariants as kind
use Rattle.size_values.specs.declared.kinds.Power.{Power}
use Rattle.size_values.specs.declared.kinds.Power.TheVariants.{Error}
use Rattle.operations.specs.declared.operation.Operation.{Operation}
use Rattle.operations.specs.declared.operation.OpFault.{OpFault}
use Rattle.operations.specs.declared.operation.OpFault.TheVariants as op_fault
use Rattle.operations.specs.declared.status.Status.{Status}
use Rattle.operations.specs.declared.status.Status.TheVariants as status
use Rattle.operations.specs.OperationTable.{OperationTable, has_number, live_at}
use Rattle.operations.specs.OperationTable as kept
use Rattle.reservations.specs.declared.books.Books.{Books}
use Rattle.records.specs.declared.notices.Notice.{Notice}
use Rattle.records.specs.declared.rows.Row.{Row}
use Rattle.records.specs.declared.rows.Row.TheVariants as row
use Rattle.row_machine.specs.declared.changes.RowChange.{RowChange}
use Rattle.row_machine.specs.declared.changes.RowChange.TheVariants as change
use Rattle.row_machine.specs.machine.Task.{Task}
use Rattle.reservations.specs.declared.books.Hold.{Hold}
use Rattle.row_machine.specs.machine.State.{State, InstancePower}
use Rattle.row_machine.specs.machine.Changes.{applied, with_row, without_row, rows_put}
use Rattle.row_machine.specs.machine.Claims.{of_live, claimed_instance, claimed_volume, claimed_snapshot}
use Rattle.row_machine.specs.opening.Records.{rows_of}
use Rattle.row_machine.specs.machine.Operations.{with_task, moved, claiming, entered, with_power, with_power_after, power_after, ended, returned, converted, cancelled, failed, succeeded, success_changes}
use Rattle.row_machine.specs.machine.Deeds.{breaks_instance}
use Rattle.row_machine.specs.shown.Notices.{kept_notices}
use Rattle.row_machine.specs.facts.Whole.{IsWhole, AreFew, AreCounted, claims_of}
use Rattle.machine_laws.proofs.NamesRows.{each-row, rows-applied}
use Rattle.machine_laws.proofs.NamesLive.{read_of, Each-fewer}
use Rattle.machine_laws.proofs.Base.{read-found}
use Rattle.machine_laws.proofs.NamesApplied.{applied-aside, applied-operations}
use Rattle.machine_laws.proofs.NamesBegin.{Each-more}
use Rattle.machine_laws.proofs.NamesDeeds.{succeeding}
use Rattle.machine_laws.proofs.NamesKeys.{distinct-keys}
use Rattle.machine_laws.proofs.SizesTables.{AreRoomy, IsSmall, HasNoMore, roomy-less, fewer-no-more}
use Rattle.machine_laws.proofs.SizesDeeds.{IsSized, with_operations, deed-small, deed-counts}

-- ---- operations that claim the same

few-live : (s : State) (k : OperationTable Task)
    → read_of (λ task. task.claim) k.live ≡ claims_of s
    → read_of claimed_volume k.live ≡ of_live claimed_volume s
    → read_of claimed_instance k.live ≡ of_live claimed_instance s
    → read_of claimed_snapshot k.live ≡ of_live claimed_snapshot s
    → AreFew s → AreFew (record s { operations = k })
few-live s k claims volumes instances snapshots h = record {
  tables = roomy-less (record s { operations = k }) s counts h.tables;
  rows = subst (λ cs. Each IsSmall (rows_of s ++ cs)) (sym claims) h.rows;
  notices = h.notices;
  few_notices = h.few_notices;
  from_one = h.from_one;
  last_number = h.last_number;
} where
  counts : HasNoMore (record s { operations = k }) s
  counts kind.Volume = let same : length (read_of claimed_volume k.live) ≡ length (of_live claimed_volume s) = ap length volumes in omega arith
  counts kind.Instance = let same : length (read_of claimed_instance k.live) ≡ length (of_live claimed_instance s) = ap length instances in omega arith
  counts kind.Snapshot = let same : length (read_of claimed_snapshot k.live) ≡ length (of_live claimed_snapshot s) = ap length snapshots in omega arith
  counts other = omega arith

few-going : (s : State) (f : Operation Task → Operation Task) (o : Operation Task)
    → live_at s.operations o.number ≡ Some o → (f o).work.claim ≡ o.work.claim → AreFew s
    → AreFew (record s { operations = record s.operations { live = changed_first (has_number o.number) f s.operations.live } })
few-going s f o live claim h =
    few-live s (record s.operations { live = changed_first (has_number o.number) f s.operations.live })
    (same (λ task. task.claim) claim)
    (same claimed_volume (λ i. claimed_volume (record task { claim = claim i })))
    (same claimed_instance (λ i. claimed_instance (record task { claim = claim i })))
    (same claimed_snapshot (λ i. claimed_snapshot (record task { claim = claim i })))
    h
  where
    task : Task
    task = o.work

    same : {X : Type 0} (read : Task → Option X) → read (f o).work ≡ read o.work
        → read_of read (changed_first (has_number o.number) f s.operations.live) ≡ of_live read s
    same read e = read-found (λ (x : Operation Task). read x.work) (has_number o.number) f o s.operations.live live e

pub few-task : (s : State) (o : Operation Task) (task : Task) → live_at s.operations o.number ≡ Some o → task.claim ≡ o.work.claim
    → AreFew s → AreFew (with_task o.number task s)
few-task s o task live claim h = few-going s (λ (x : Operation Task). record x { work = task }) o live claim h

pub few-moved : (s : State) (o : Operation Task) (now : Status) (moment : ℕ) → live_at s.operations o.number ≡ Some o → AreFew s → AreFew (moved o.number now moment s)
few-moved s o now moment live h = few-going s (λ (x : Operation Task). record x { status = now; updated = moment }) o live refl h

-- ---- one more

pub few-entered : (s : State) (task : Task) (moment : ℕ) → AreRoomy (claiming s task moment) → Each IsSmall (option_to_list task.claim) → AreFew s → AreFew (entered s task moment)
unfolding entered
few-entered s task moment roomy small h = record {
  tables = roomy;
  rows = Each-more (rows_of s) _ (Puts-push s.operations.live) (if_small task.claim small) h.rows;
  notices = h.notices;
  few_notices = h.few_notices;
  from_one = h.from_one;
  last_number = h.last_number;
} where
  if_small : (claim : Option Row) → Each IsSmall (option_to_list claim) → IfSome claim IsSmall
  if_small None e = tt
  if_small (Some r) e = Each-head e

-- ---- what sizes do not speak of

few-aside : (s : State) (powers : List InstancePower) (held : List Hold) (books : Books) → AreFew s → AreFew (record s { powers = powers; held = held; books = books })
few-aside s powers held books h = record {
  tables = h.tables;
  rows = h.rows;
  notices = h.notices;
  few_notices = h.few_notices;
  from_one = h.from_one;
  last_number = h.last_number;
}

-- ---- ends

few-ended : (s : State) (o : Operation Task) (now : Status) (why : OpFault) (moment : ℕ) → live_at s.operations o.number ≡ Some o → AreFew s
    → AreFew (ended o.number now why moment s)
few-ended s o now why moment live h = record {
  tables = roomy-less (ended o.number now why moment s) s (fewer-no-more s (kept.ends o.number now why moment s.operations) o gone) h.tables;
  rows = Each-fewer (rows_of s) o gone h.rows;
  notices = h.notices;
  few_notices = h.few_notices;
  from_one = h.from_one;
  last_number = h.last_number;
} where
  gone : Puts o (kept.ends o.number now why moment s.operations).live s.operations.live
  gone = dropped-Puts (has_number o.number) o s.operations.live live

few-returned : (number : ℕ) (s : State) → AreFew s → AreFew (returned number s)
few-returned number s h = few-aside s s.powers (returned number s).held (returned number s).books h

pub few-cancelled : (s : State) (o : Operation Task) (moment : ℕ) → live_at s.operations o.number ≡ Some o → AreFew s → AreFew (cancelled s o.number moment)
unfolding cancelled
few-cancelled s o moment live h =
    few-returned o.number (ended o.number status.Cancelled op_fault.None moment s) (few-ended s o status.Cancelled op_fault.None moment live h)

pub few-failed : (s : State) (o : Operation Task) (why : OpFault) (done moment : ℕ) → live_at s.operations o.number ≡ Some o → AreFew s → AreFew (failed s o why done moment)
unfolding failed
few-failed s o why done moment live h = at (nat_lt 0 done && breaks_instance o.work.deed) where
  finished : (t : State) → live_at t.operations o.number ≡ Some o → AreFew t → AreFew (returned o.number (ended o.number status.Failure why moment t))
  finished t there few = few-returned o.number (ended o.number status.Failure why moment t) (few-ended t o status.Failure why moment there few)

  broken : State
  broken = with_power s o.work.project o.work.target.name Error

  at : (b : Bool) → AreFew (returned o.number (ended o.number status.Failure why moment (cond b broken s)))
  at true = finished broken live (few-aside s broken.powers s.held s.books h)
  at false = finished s live h

-- ---- changes of rows leave notices

abbrev pub notices_in : State → List Notice × ℕ
notices_in s = (s.notices, s.next_notice)

with-notices : (r : Row) (s : State) → notices_in (with_row r s) ≡ notices_in s
with-notices (row.Project r) s = refl
with-notices (row.Profile r) s = refl
with-notices (row.Network r) s = refl
with-notices (row.Pool r) s = refl
with-notices (row.Volume r) s = refl
with-notices (row.Instance r) s = refl
with-notices (row.Snapshot r) s = refl

without-notices : (of : ObjectKind) (key : List ℕ) (s : State) → notices_in (without_row of key s) ≡ notices_in s
without-notices kind.Project key s = refl
without-notices kind.Profile key s = refl
without-notices kind.Network key s = refl
without-notices kind.Pool key s = refl
without-notices kind.Volume key s = refl
without-notices kind.Instance key s = refl
without-notices kind.Snapshot key s = refl
without-notices kind.Operation key s = refl

pub applied-notices : (cs : List RowChange) (s : State) → notices_in (applied s cs) ≡ notices_in s
applied-notices [] s = refl
applied-notices (change.Put r ∷ cs) s = applied-notices cs (with_row r s) ∙ with-notices r s
applied-notices (change.Remove of key ∷ cs) s = applied-notices cs (without_row of key s) ∙ without-notices of key s

-- sizes after changes of rows that leave the tables roomy and put small rows
pub few-applied : (s : State) (cs : List RowChange) → AreRoomy (applied s cs) → Each IsSmall (rows_put cs) → AreFew s → AreFew (applied s cs)
few-applied s cs roomy small h = record {
  tables = roomy;
  rows = Each-append
      (rows-applied s cs (Each-left (claims_of s) h.rows) small)
      (subst (λ (k : OperationTable Task). Each IsSmall (read_of (λ task. task.claim) k.live)) (sym (applied-operations cs s)) (Each-right (rows_of s) h.rows));
  notices = subst (λ (t : List Notice × ℕ). AreCounted t.1 t.0) (sym (applied-notices cs s)) h.notices;
  few_notices = subst (λ (t : List Notice × ℕ). length t.0 ≤ kept_notices) (sym (applied-notices cs s)) h.few_notices;
  from_one = subst (λ (t : List Notice × ℕ). 1 ≤ t.1) (sym (applied-notices cs s)) h.from_one;
  last_number = subst (λ (t : List Notice × ℕ). t.1 < 2 ^ 64) (sym (applied-notices cs s)) h.last_number;
}

-- ---- success

-- what a live operation's claim and the rows of the state are, for sizes
pub sized : (s : State) (o : Operation Task) → IsWhole s → live_at s.operations o.number ≡ Some o → IsSized s o.work
sized s o h live = record {
  small = λ r is. (Each-right (rows_of s) h.sizes.rows).at r (Mem-read (λ (x : Operation Task). x.work.claim) o r s.operations.live there is);
  kind = (h.operations.deeds.at o there).kind;
  rows = each-row s (Each-left (claims_of s) h.sizes.rows);
  keys = (distinct-keys s h.names).snapshots;
} where
  there : Mem o s.operations.live
  there = (find-some (has_number o.number) s.operations.live o live).0

-- the statuses after a change of state
power_after-is : (task : Task) (power : Option Power) (s : State) → with_power_after task power s ≡ record s { powers = (with_power_after task power s).powers }
power_after-is task None s = refl
power_after-is task (Some power) s = refl

success-few : (s : State) (o : Operation Task) (moment : ℕ) (powers : List InstancePower) → IsWhole s → live_at s.operations o.number ≡ Some o
    → AreFew (ended o.number status.Success op_fault.None moment (applied (record s { powers = powers }) (success_changes s o.work)))
success-few s o moment powers h live = subst AreFew (sym whole) after where
  acted : State
  acted = record s { powers = powers }

  later : OperationTable Task
  later = succeeding o.number moment s.operations

  whole : ended o.number status.Success op_fault.None moment (applied acted (success_changes s o.work)) ≡ applied (with_operations s later powers) (success_changes s o.work)
  whole =
      ap (λ k. record (applied acted (success_changes s o.work)) { operations = succeeding o.number moment k }) (applied-operations (success_changes s o.work) acted)
      ∙ sym (applied-aside (success_changes s o.work) acted later)

  gone : Puts o later.live s.operations.live
  gone = dropped-Puts (has_number o.number) o s.operations.live live

  before : AreFew (with_operations s later powers)
  before = few-ended acted o status.Success op_fault.None moment live (few-aside s powers s.held s.books h.sizes)

  after : AreFew (applied (with_operations s later powers) (success_changes s o.work))
  after = few-applied (with_operations s later powers) (success_changes s o.work)
      (roomy-less (applied (with_operations s later powers) (success_changes s o.work)) s (deed-counts s later powers o o.work.deed gone (sized s o h live)) h.sizes.tables)
      (deed-small s o.work o.work.deed (sized s o h live)) before

pub few-succeeded : (s : State) (o : Operation Task) (moment : ℕ) → IsWhole s → live_at s.operations o.number ≡ Some o → AreFew (succeeded s o moment)
unfolding succeeded
few-succeeded s o moment h live =
    few-aside ending ending.powers (converted o.number ending).held (converted o.number ending).books
    (subst (λ t. AreFew (ended o.number status.Success op_fault.None moment (applied t (success_changes s o.work))))
    (sym (power_after-is o.work (power_after s o.work) s))
    (success-few s o moment (with_power_after o.work (power_after s o.work) s).powers h live))
  where
    ending : State
    ending = ended o.number status.Success op_fault.None moment (applied (with_power_after o.work (power_after s o.work) s) (success_changes s o.work))
