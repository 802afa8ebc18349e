use Rattle.std.proofs.Common.{Some, IsSome, sym, ◌∙◌, ap, subst}
use Rattle.std.specs.List.{find, position}
use Rattle.plain_lists.proofs.Places.{find-at, dropped-at}
use Rattle.reservations.specs.declared.books.Hold.{Hold}
use Rattle.reservations.specs.Holdings.{has_op}
use Rattle.reservations.proofs.ledger.take_out.Goals as goal

pub index_of-place-requires : goal.index_of-place-requires
index_of-place-requires c = subst (λ holds. IsSome (find (has_op c.args.op) holds)) (sym c.deref.ensures.value) c.requires

pub returns-clause-hold : goal.returns-clause-hold
returns-clause-hold c =
    let items = c.args.holds.now.items in
    let place = c.index_of-place.ensures.place ∙ ap (position (has_op c.args.op)) c.deref.ensures.value in
    find-at (has_op c.args.op) items c.index_of-place.result c.remove.result place
    ∙ ap (λ (h : Hold). Some h) (sym c.remove.ensures.value)

pub returns-clause-rest : goal.returns-clause-rest
returns-clause-rest c =
    let items = c.args.holds.now.items in
    let place = c.index_of-place.ensures.place ∙ ap (position (has_op c.args.op)) c.deref.ensures.value in
    c.remove.ensures.items ∙ dropped-at (has_op c.args.op) items c.index_of-place.result c.remove.result place
