use Rattle.std.proofs.Common.{◌∙◌, ap, unwrap_or, length, nat_lt, List}
use Rattle.std.specs.List.{position, insert}
use Rattle.operations.specs.declared.operation.Operation.{Operation}
use Rattle.row_machine.specs.machine.Task.{Task}
use Rattle.object_views.proofs.Numbered.{inserted-gap}
use Rattle.object_views.proofs.operations_shown.insert_operation.Goals as goal

pub returns : goal.returns
returns c =
    let o = c.args.operation.now in
    let items = c.args.all.now.items in
    c.in_ok-insert.ensures.items
    ∙ ap (λ i. insert items i o)
    (c.gap-place.ensures
    ∙ ap (λ (os : List (Operation Task)). unwrap_or (position (λ other. nat_lt o.number other.number) os) (length os)) c.deref.ensures.value)
    ∙ inserted-gap (λ other. nat_lt o.number other.number) o items
