use Rattle.std.proofs.Common.{set, ◌∙◌, ap}
use Rattle.std.specs.List.{position}
use Rattle.operations.specs.declared.operation.Operation.{Operation}
use Rattle.operations.specs.OperationTable.{has_number}
use Rattle.plain_lists.proofs.Places.{changed-at}
use Rattle.operations.proofs.lists.set_status.Goals as goal

pub returns-clause-items : goal.returns-clause-items
returns-clause-items g c =
    let items = c.args.operations.now.items in
    let index = c.known_place-place.result in
    let moved = λ (o : Operation g.row.W.Denot). record o { status = c.args.status; updated = c.args.moment } in
    let place = c.known_place-place.ensures.place ∙ ap (position (has_number c.args.number)) c.deref.ensures.value in
    ap (λ o. set items index (moved o)) c.index_mut-operation.ensures.value
    ∙ changed-at (has_number c.args.number) moved items index c.index_mut-operation.result.now place
