-- What changes of rows, statuses and notices leave: operations, held shares and books.
use Rattle.std.proofs.Common.{◌≡◌, ℕ, Bool, true, false, cond, Option, Some, None, List, [], ◌∷◌, refl, ◌∙◌, ap}
use Rattle.size_values.specs.declared.kinds.ObjectKind.{ObjectKind}
use Rattle.size_values.specs.declared.kinds.ObjectKind.TheVariants as kind
use Rattle.size_values.specs.declared.kinds.Power.{Power}
use Rattle.operations.specs.OperationTable.{OperationTable}
use Rattle.reservations.specs.declared.books.Books.{Books}
use Rattle.records.specs.declared.notices.Untold.{Untold}
use Rattle.records.specs.declared.notices.Notice.{Notice}
use Rattle.records.specs.declared.rows.Row.{Row}
use Rattle.records.specs.declared.rows.Row.TheVariants as row
use Rattle.row_machine.specs.declared.changes.RowChange.{RowChange}
use Rattle.row_machine.specs.declared.changes.RowChange.TheVariants as change
use Rattle.row_machine.specs.machine.Task.{Task}
use Rattle.reservations.specs.declared.books.Hold.{Hold}
use Rattle.row_machine.specs.machine.State.{State}
use Rattle.row_machine.specs.machine.Changes.{with_row, without_row, applied}
use Rattle.row_machine.specs.shown.Notices.{telling, push_notice}
use Rattle.row_machine.specs.machine.Operations.{with_power_after, after_failure}

-- what is read off a state that neither a put nor a removal of a row changes, a list of them leaves
pub applied-read : {X : Type 0} (read : State → X) → ((r : Row) (s : State) → read (with_row r s) ≡ read s)
    → ((of : ObjectKind) (key : List ℕ) (s : State) → read (without_row of key s) ≡ read s)
    → (cs : List RowChange) (s : State) → read (applied s cs) ≡ read s
applied-read read put removed [] s = refl
applied-read read put removed (change.Put r ∷ cs) s = applied-read read put removed cs (with_row r s) ∙ put r s
applied-read read put removed (change.Remove of key ∷ cs) s = applied-read read put removed cs (without_row of key s) ∙ removed of key s

-- the live and ended operations, the held shares and the books
pub record HasSameBooking (s t : State) : Type 0 where
  pub operations : t.operations ≡ s.operations
  pub held : t.held ≡ s.held
  pub books : t.books ≡ s.books

pub record Booking : Type 0 where
  pub operations : OperationTable Task
  pub held : List Hold
  pub books : Books

abbrev pub booking_in : State → Booking
booking_in s = record { operations = s.operations; held = s.held; books = s.books }

pub put-booking : (r : Row) (s : State) → booking_in (with_row r s) ≡ booking_in s
put-booking (row.Project r) s = refl
put-booking (row.Profile r) s = refl
put-booking (row.Network r) s = refl
put-booking (row.Pool r) s = refl
put-booking (row.Volume r) s = refl
put-booking (row.Instance r) s = refl
put-booking (row.Snapshot r) s = refl

pub removed-booking : (of : ObjectKind) (key : List ℕ) (s : State) → booking_in (without_row of key s) ≡ booking_in s
removed-booking kind.Project key s = refl
removed-booking kind.Profile key s = refl
removed-booking kind.Network key s = refl
removed-booking kind.Pool key s = refl
removed-booking kind.Volume key s = refl
removed-booking kind.Instance key s = refl
removed-booking kind.Snapshot key s = refl
removed-booking kind.Operation key s = refl

pub applied-booking : (cs : List RowChange) (s : State) → booking_in (applied s cs) ≡ booking_in s
applied-booking cs s = applied-read booking_in put-booking removed-booking cs s

pub applied-same : (cs : List RowChange) (s : State) → HasSameBooking s (applied s cs)
applied-same cs s = record {
  operations = ap (λ (w : Booking). w.operations) (applied-booking cs s);
  held = ap (λ (w : Booking). w.held) (applied-booking cs s);
  books = ap (λ (w : Booking). w.books) (applied-booking cs s);
}

-- ---- statuses

-- either of two states meets the fact
pub either-keeps : (F : State → Type 0) (b : Bool) {s t : State} → F s → F t → F (cond b s t)
either-keeps F true left right = left
either-keeps F false left right = right

-- a fact that statuses leave holds after the success of a change of state, and after a failure
pub power-keeps : (F : State → Type 0) → ((s : State) (powers : List _) → F s → F (record s { powers = powers }))
    → (task : Task) (power : Option Power) (s : State) → F s → F (with_power_after task power s)
power-keeps F keeps task None s h = h
power-keeps F keeps task (Some power) s h = keeps s _ h

pub failure-keeps : (F : State → Type 0) → ((s : State) (powers : List _) → F s → F (record s { powers = powers }))
    → (task : Task) (done : ℕ) (s : State) → F s → F (after_failure task done s)
failure-keeps F keeps task done s h = either-keeps F _ (keeps s _ h) h

-- ---- notices

-- a fact that notices leave holds after some are told
pub telling-keeps : (F : State → Type 0) → ((s : State) (notices : List Notice) (next : ℕ) → F s → F (record s { notices = notices; next_notice = next }))
    → (ns : List Untold) (s : State) → F s → F (telling ns s)
telling-keeps F keeps [] s h = h
telling-keeps F keeps (n ∷ ns) s h = telling-keeps F keeps ns (push_notice n s) (either-keeps F _ h (keeps s _ _ h))
