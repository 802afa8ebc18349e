use Rattle.std.proofs.Common.{◌∙◌, ap}
use Rattle.std.specs.List.{position}
use Rattle.plain_lists.proofs.Places.{dropped-at, dropped-nothing}
use Rattle.core_drafts.proofs.edits.remove.Goals as goal

pub returns-in-Some-clause-rows : goal.returns-in-Some-clause-rows
returns-in-Some-clause-rows g c =
    c.remove.ensures.items
    ∙ dropped-at (g.T.Placed.keyed c.args.key.now) c.args.rows.now.items c.in-Some.place c.remove.result
    (c.in-Some.ensures ∙ ap (position (g.T.Placed.keyed c.args.key.now)) c.deref.ensures.value)

pub returns-in-None-clause-rows : goal.returns-in-None-clause-rows
returns-in-None-clause-rows g c =
    dropped-nothing (g.T.Placed.keyed c.args.key.now) c.args.rows.now.items (c.in-None.ensures ∙ ap (position (g.T.Placed.keyed c.args.key.now)) c.deref.ensures.value)
