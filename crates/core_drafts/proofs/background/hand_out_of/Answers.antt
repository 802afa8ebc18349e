use Rattle.std.proofs.Common.{◌∙◌, Some, IsSome, IfSome, set, ap, sym, subst}
use Rattle.std.specs.List.{position}
use Rattle.operations.specs.OperationTable.{has_number}
use Rattle.operations.specs.declared.operation.Operation.{Operation}
use Rattle.plain_lists.proofs.Places.{find-at, changed-at}
use Rattle.core_drafts.specs.Background.{handed, HasCount}
use Rattle.core_drafts.proofs.Handed.{same-task, same-call}
use Rattle.row_machine.specs.machine.Task.{Task}
use Rattle.core_drafts.proofs.background.hand_out_of.Goals as goal

pub hand_out-requires-clause-call : goal.hand_out-requires-clause-call
hand_out-requires-clause-call c =
    let place = c.known_place-place.ensures.place ∙ ap (position (has_number c.args.number)) c.deref.ensures.value in
    let found = find-at (has_number c.args.number) c.args.operations.now.items c.known_place-place.result c.index_mut-operation.result.now place
    ∙ ap Some (sym c.index_mut-operation.ensures.value) in
    subst (λ x. IfSome x (λ (o : Operation Task). IsSome (handed c.args.which o.work))) found c.requires.call

pub hand_out-requires-clause-count : goal.hand_out-requires-clause-count
hand_out-requires-clause-count c =
    let place = c.known_place-place.ensures.place ∙ ap (position (has_number c.args.number)) c.deref.ensures.value in
    let found = find-at (has_number c.args.number) c.args.operations.now.items c.known_place-place.result c.index_mut-operation.result.now place
    ∙ ap Some (sym c.index_mut-operation.ensures.value) in
    subst (λ x. IfSome x (λ (o : Operation Task). HasCount c.args.which o.work)) found c.requires.count

pub returns-clause-items : goal.returns-clause-items
returns-clause-items c = λ o task is gives.
    let items = c.args.operations.now.items in
    let index = c.known_place-place.result in
    let now = c.index_mut-operation.result.now in
    let given = λ (x : Operation Task). record x { work = task } in
    let place = c.known_place-place.ensures.place ∙ ap (position (has_number c.args.number)) c.deref.ensures.value in
    let found = find-at (has_number c.args.number) items index now place ∙ ap Some (sym c.index_mut-operation.ensures.value) in
    ap (λ work. set items index (record now { work = work })) (same-task c.args.which now o _ _ _ _ (sym found ∙ is) c.hand_out.ensures gives)
    ∙ ap (λ x. set items index (given x)) c.index_mut-operation.ensures.value
    ∙ changed-at (has_number c.args.number) given items index now place

pub returns-clause-call : goal.returns-clause-call
returns-clause-call c = λ o call task is gives.
    let items = c.args.operations.now.items in
    let index = c.known_place-place.result in
    let now = c.index_mut-operation.result.now in
    let place = c.known_place-place.ensures.place ∙ ap (position (has_number c.args.number)) c.deref.ensures.value in
    let found = find-at (has_number c.args.number) items index now place ∙ ap Some (sym c.index_mut-operation.ensures.value) in
    same-call c.args.which now o _ _ _ _ (sym found ∙ is) c.hand_out.ensures gives
