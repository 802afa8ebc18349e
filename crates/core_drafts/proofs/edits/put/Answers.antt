use Rattle.std.proofs.Common.{◌≤◌, Ok, Err, ◌∙◌, ap, subst, length}
use Rattle.std.specs.List.{remove}
use Rattle.row_readings.specs.Rising.{FindsPlace}
use Rattle.core_drafts.proofs.Backs.{insert-back}
use Rattle.core_drafts.proofs.Orders.{put-found, put-between}
use Rattle.core_drafts.proofs.edits.put.Goals as goal

pub returns-in-Ok-clause-rows : goal.returns-in-Ok-clause-rows
returns-in-Ok-clause-rows g c =
    let names = g.T.Named.names in
    let row = c.args.row in
    c.replace_at.ensures.items
    ∙ put-found names row c.args.rows.now.items c.in-Ok.place
    (subst (λ rows. FindsPlace names (names row) rows (Ok c.in-Ok.place)) c.deref.ensures.value c.in-Ok.ensures.place)

pub returns-in-Err-clause-rows : goal.returns-in-Err-clause-rows
returns-in-Err-clause-rows g c =
    let names = g.T.Named.names in
    let row = c.args.row in
    c.insert_reserved.ensures.items
    ∙ put-between names row c.args.rows.now.items c.in-Err.place
    (subst (λ rows. FindsPlace names (names row) rows (Err c.in-Err.place)) c.deref.ensures.value c.in-Err.ensures.place)

pub returns-in-Err-clause-back : goal.returns-in-Err-clause-back
returns-in-Err-clause-back g c =
    ap (λ xs. remove xs c.in-Err.place) c.insert_reserved.ensures.items
    ∙ insert-back c.args.rows.now.items c.in-Err.place c.args.row
    (subst (λ rows. c.in-Err.place ≤ length rows) c.deref.ensures.value c.in-Err.ensures.bound)
