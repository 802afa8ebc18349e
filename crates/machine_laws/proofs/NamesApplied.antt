-- Names after changes of rows, whatever their number; and that these leave operations.
use Rattle.std.proofs.Common.{◌≡◌, ℕ, List, [], ◌∷◌, ◌++◌, map, refl, sym, ap, subst, ◌∙◌}
use Rattle.plain_lists.specs.Members.{Each}
use Rattle.plain_lists.proofs.Elements.{Each-none, Each-cons, Each-head, Each-tail}
use Rattle.size_values.specs.declared.kinds.ObjectKind.{ObjectKind}
use Rattle.size_values.specs.declared.kinds.ObjectKind.TheVariants as kind
use Rattle.operations.specs.OperationTable.{OperationTable}
use Rattle.records.specs.declared.rows.Row.{Row}
use Rattle.records.specs.declared.rows.Row.TheVariants as row
use Rattle.row_codec.specs.Rows.{HasGoodKey, HasMoments}
use Rattle.row_machine.specs.declared.changes.RowChange.{RowChange}
use Rattle.row_machine.specs.declared.changes.RowChange.TheVariants as change
use Rattle.row_machine.specs.machine.Task.{Task}
use Rattle.row_machine.specs.machine.State.{State}
use Rattle.row_machine.specs.machine.Changes.{with_row, without_row, changed, applied, rows_put, removal}
use Rattle.row_machine.specs.facts.Whole.{AreNamed}
use Rattle.machine_laws.specs.Records.{StaysNamed}
use Rattle.machine_laws.proofs.NamesPut.{IsUnclaimed, AreNamed-with}
use Rattle.machine_laws.proofs.NamesDrop.{AreNamed-without}

-- ---- changes of rows leave operations

pub with-aside : (r : Row) (s : State) (k : OperationTable Task) → with_row r (record s { operations = k }) ≡ record (with_row r s) { operations = k }
with-aside (row.Project r) s k = refl
with-aside (row.Profile r) s k = refl
with-aside (row.Network r) s k = refl
with-aside (row.Pool r) s k = refl
with-aside (row.Volume r) s k = refl
with-aside (row.Instance r) s k = refl
with-aside (row.Snapshot r) s k = refl

pub without-aside : (of : ObjectKind) (key : List ℕ) (s : State) (k : OperationTable Task)
    → without_row of key (record s { operations = k }) ≡ record (without_row of key s) { operations = k }
without-aside kind.Project key s k = refl
without-aside kind.Profile key s k = refl
without-aside kind.Network key s k = refl
without-aside kind.Pool key s k = refl
without-aside kind.Volume key s k = refl
without-aside kind.Instance key s k = refl
without-aside kind.Snapshot key s k = refl
without-aside kind.Operation key s k = refl

pub changed-aside : (c : RowChange) (s : State) (k : OperationTable Task) → changed (record s { operations = k }) c ≡ record (changed s c) { operations = k }
changed-aside (change.Put r) s k = with-aside r s k
changed-aside (change.Remove of key) s k = without-aside of key s k

pub applied-aside : (cs : List RowChange) (s : State) (k : OperationTable Task) → applied (record s { operations = k }) cs ≡ record (applied s cs) { operations = k }
applied-aside [] s k = refl
applied-aside (c ∷ cs) s k = ap (λ t. applied t cs) (changed-aside c s k) ∙ applied-aside cs (changed s c) k

pub changed-operations : (c : RowChange) (s : State) → (changed s c).operations ≡ s.operations
changed-operations c s = ap (λ (t : State). t.operations) (changed-aside c s s.operations)

pub applied-operations : (cs : List RowChange) (s : State) → (applied s cs).operations ≡ s.operations
applied-operations cs s = ap (λ (t : State). t.operations) (applied-aside cs s s.operations)

-- ---- rows that are put

pub puts-each : {P : Row → Type 0} (rows : List Row) → Each P rows → Each P (rows_put (map change.Put rows))
puts-each [] e = e
puts-each {P} (r ∷ rows) e = Each-cons P (Each-head e) (puts-each rows (Each-tail e))

pub removals-each : {P : Row → Type 0} (rows : List Row) (cs : List RowChange) → Each P (rows_put cs) → Each P (rows_put (map removal rows ++ cs))
removals-each [] cs e = e
removals-each (r ∷ rows) cs e = removals-each rows cs e

pub removals-none : {P : Row → Type 0} (rows : List Row) → Each P (rows_put (map removal rows))
removals-none [] = Each-none
removals-none (r ∷ rows) = removals-none rows

-- ---- names after each change

-- a row that may be put: its names and moments are good, and no live operation claims its name
pub record IsReady (k : OperationTable Task) (r : Row) : Type 0 where
  pub good : HasGoodKey r
  pub timely : HasMoments r
  pub free : IsUnclaimed k r

changed-named : (s : State) (c : RowChange) → AreNamed s → Each (IsReady s.operations) (rows_put (c ∷ [])) → AreNamed (changed s c)
changed-named s (change.Put r) h ready = let first = Each-head ready in AreNamed-with s r h first.good first.timely first.free
changed-named s (change.Remove of key) h ready = AreNamed-without s of key h

first_put : {P : Row → Type 0} (c : RowChange) (cs : List RowChange) → Each P (rows_put (c ∷ cs)) → Each P (rows_put (c ∷ []))
first_put {P} (change.Put r) cs e = Each-cons P (Each-head e) Each-none
first_put (change.Remove of key) cs e = Each-none

more_put : {P : Row → Type 0} (c : RowChange) (cs : List RowChange) → Each P (rows_put (c ∷ cs)) → Each P (rows_put cs)
more_put (change.Put r) cs e = Each-tail e
more_put (change.Remove of key) cs e = e

pub stays-named : (s : State) (cs : List RowChange) → AreNamed s → Each (IsReady s.operations) (rows_put cs) → StaysNamed s cs
stays-named s [] h ready = tt
stays-named s (c ∷ cs) h ready =
    let next = changed-named s c h (first_put c cs ready) in
    (next, stays-named (changed s c) cs next (subst (λ k. Each (IsReady k) (rows_put cs)) (sym (changed-operations c s)) (more_put c cs ready)))

pub stays-last : (s : State) (cs : List RowChange) → AreNamed s → StaysNamed s cs → AreNamed (applied s cs)
stays-last s [] h stays = h
stays-last s (c ∷ cs) h stays = stays-last (changed s c) cs stays.0 stays.1

pub AreNamed-applied : (s : State) (cs : List RowChange) → AreNamed s → Each (IsReady s.operations) (rows_put cs) → AreNamed (applied s cs)
AreNamed-applied s cs h ready = stays-last s cs h (stays-named s cs h ready)
