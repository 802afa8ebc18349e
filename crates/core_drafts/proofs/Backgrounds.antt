-- Lists with other operations, as a state.
use Rattle.std.proofs.Common.{◌≡◌, Result, Ok, Err, OnOk}
use Rattle.operations.specs.OperationTable.{OperationTable}
use Rattle.core_drafts.specs.declared.lists.Lists.TheInside.{Inside}
use Rattle.core_drafts.specs.Background.{Background}
use Rattle.core_drafts.specs.Inside.{state_in}
use Rattle.row_machine.specs.machine.Task.{Task}

-- with other operations, and the same shares
pub other-operations : (l : Inside) (b : Background) (k : OperationTable Task)
    → b.operations ≡ k → b.held ≡ l.background.held → b.books ≡ l.background.books
    → state_in (record l { background = b }) ≡ record (state_in l) { operations = k }
other-operations l b k operations held books = λ i. record (state_in l) { operations = operations i; held = held i; books = books i }

-- what is so at all events
pub on-ok : {T E : Type 0} (r : Result T E) (P : Type 0) → P → OnOk r P
on-ok (Ok x) P is = is
on-ok (Err e) P is = tt
