use Rattle.std.proofs.Common.{◌∙◌, ap}
use Rattle.std.specs.List.{position}
use Rattle.plain_lists.proofs.Places.{dropped-at, dropped-nothing}
use Rattle.host_model.specs.Roots.{is_at}
use Rattle.host_model.proofs.effects.clear.Goals as goal

pub returns-in-Some-clause-items : goal.returns-in-Some-clause-items
returns-in-Some-clause-items c =
    let there = c.in-Some.ensures ∙ ap (position (is_at c.args.at.now)) c.deref.ensures.value in
    c.remove.ensures.items ∙ dropped-at (is_at c.args.at.now) c.args.roots.now.items c.in-Some.place c.remove.result there

pub returns-in-None-clause-items : goal.returns-in-None-clause-items
returns-in-None-clause-items c =
    dropped-nothing (is_at c.args.at.now) c.args.roots.now.items (c.in-None.ensures ∙ ap (position (is_at c.args.at.now)) c.deref.ensures.value)
