use Rattle.std.proofs.Common.{Some, sym, ◌∙◌, ap}
use Rattle.std.specs.List.{position}
use Rattle.operations.specs.OperationTable.{has_number, live_at}
use Rattle.plain_lists.proofs.Places.{find-at}
use Rattle.core_drafts.specs.Background.{Background}
use Rattle.core_drafts.proofs.background.Background.at.Goals as goal

pub returns : goal.returns
returns c =
    let place = c.known_place.ensures.place ∙ ap (position (has_number c.args.number)) c.deref.ensures.value in
    ap (λ (b : Background). live_at b.operations c.args.number) (sym c.self.view_is)
    ∙ find-at (has_number c.args.number) c.self.inside.live.items c.known_place.result c.index.result.now place
    ∙ ap Some (sym c.index.ensures)
