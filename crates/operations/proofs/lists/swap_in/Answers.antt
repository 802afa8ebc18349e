use Rattle.std.proofs.Common.{Some, set, sym, ◌∙◌, ap}
use Rattle.std.specs.List.{position}
use Rattle.std.specs.Option.{option_map}
use Rattle.operations.specs.declared.operation.Operation.{Operation}
use Rattle.operations.specs.OperationTable.{has_number}
use Rattle.plain_lists.proofs.Places.{find-at, changed-at}
use Rattle.operations.proofs.lists.swap_in.Goals as goal

pub returns-clause-old : goal.returns-clause-old
returns-clause-old g c =
    let items = c.args.operations.now.items in
    let place = c.known_place-place.ensures.place ∙ ap (position (has_number c.args.number)) c.deref.ensures.value in
    ap (option_map (λ (o : Operation g.row.W.Denot). o.work))
    (find-at (has_number c.args.number) items c.known_place-place.result c.index_mut-operation.result.now place)
    ∙ ap (λ (o : Operation g.row.W.Denot). Some o.work) (sym c.index_mut-operation.ensures.value)
    ∙ ap Some (sym c.replace.ensures.value)

pub returns-clause-items : goal.returns-clause-items
returns-clause-items g c =
    let items = c.args.operations.now.items in
    let index = c.known_place-place.result in
    let now = c.index_mut-operation.result.now in
    let given = λ (o : Operation g.row.W.Denot). record o { work = c.args.work } in
    let place = c.known_place-place.ensures.place ∙ ap (position (has_number c.args.number)) c.deref.ensures.value in
    ap (λ work. set items index (record now { work = work })) c.replace.ensures.after
    ∙ ap (λ o. set items index (given o)) c.index_mut-operation.ensures.value
    ∙ changed-at (has_number c.args.number) given items index now place
