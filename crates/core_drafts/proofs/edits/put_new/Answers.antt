use Rattle.std.proofs.Common.{◌≤◌, Ok, Err, ◌∙◌, ap, sym, subst, cond, length}
use Rattle.std.specs.List.{remove}
use Rattle.row_machine.specs.machine.Rows.{put_by}
use Rattle.row_readings.specs.Rising.{FindsPlace}
use Rattle.core_drafts.proofs.Backs.{insert-back}
use Rattle.core_drafts.proofs.Orders.{put-between, like-found, like-none}
use Rattle.core_drafts.proofs.edits.put_new.Goals as goal

pub returns-in-Ok-clause-rows : goal.returns-in-Ok-clause-rows
returns-in-Ok-clause-rows g c =
    let names = g.T.Named.names in
    let row = c.args.row in
    let items = c.args.rows.now.items in
    sym
    (ap (λ b. cond b items (put_by names row items))
    (like-found names row items c.in-Ok.field-0
    (subst (λ rows. FindsPlace names (names row) rows (Ok c.in-Ok.field-0)) c.deref.ensures.value c.in-Ok.ensures.place)))

pub returns-in-Err-clause-rows : goal.returns-in-Err-clause-rows
returns-in-Err-clause-rows g c =
    let names = g.T.Named.names in
    let row = c.args.row in
    let items = c.args.rows.now.items in
    let found : FindsPlace names (names row) items (Err c.in-Err.place) =
    subst (λ rows. FindsPlace names (names row) rows (Err c.in-Err.place)) c.deref.ensures.value c.in-Err.ensures.place in
    c.insert_reserved.ensures.items
    ∙ put-between names row items c.in-Err.place found
    ∙ sym (ap (λ b. cond b items (put_by names row items)) (like-none names row items c.in-Err.place found))

pub returns-in-Err-clause-back : goal.returns-in-Err-clause-back
returns-in-Err-clause-back g c =
    ap (λ xs. remove xs c.in-Err.place) c.insert_reserved.ensures.items
    ∙ insert-back c.args.rows.now.items c.in-Err.place c.args.row
    (subst (λ rows. c.in-Err.place ≤ length rows) c.deref.ensures.value c.in-Err.ensures.bound)
