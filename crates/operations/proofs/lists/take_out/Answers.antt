use Rattle.std.proofs.Common.{Some, sym, ◌∙◌, ap}
use Rattle.std.specs.List.{position}
use Rattle.operations.specs.OperationTable.{has_number}
use Rattle.plain_lists.proofs.Places.{find-at, dropped-at}
use Rattle.operations.proofs.lists.take_out.Goals as goal

pub returns-clause-taken : goal.returns-clause-taken
returns-clause-taken g c =
    let items = c.args.operations.now.items in
    let place = c.known_place-place.ensures.place ∙ ap (position (has_number c.args.number)) c.deref.ensures.value in
    find-at (has_number c.args.number) items c.known_place-place.result c.remove.result place ∙ ap Some (sym c.remove.ensures.value)

pub returns-clause-rest : goal.returns-clause-rest
returns-clause-rest g c =
    let items = c.args.operations.now.items in
    let place = c.known_place-place.ensures.place ∙ ap (position (has_number c.args.number)) c.deref.ensures.value in
    c.remove.ensures.items ∙ dropped-at (has_number c.args.number) items c.known_place-place.result c.remove.result place
