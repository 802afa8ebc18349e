use Rattle.std.proofs.Common.{false, ◌∙◌, ap}
use Rattle.std.specs.List.{position}
use Rattle.host_model.proofs.AtEnd.{replaced-end}
use Rattle.plain_lists.proofs.Places.{replaced-at}
use Rattle.host_model.specs.Roots.{is_at}
use Rattle.host_model.proofs.effects.put_reserved.Goals as goal

pub returns-in-Some : goal.returns-in-Some
returns-in-Some c =
    let there = c.in-Some.ensures ∙ ap (position (is_at c.args.root.place)) c.deref.ensures.value in
    replaced-at (is_at c.args.root.place) (λ _. false) c.args.root c.args.roots.now.items c.in-Some.place there

pub returns-in-None : goal.returns-in-None
returns-in-None c =
    c.push_reserved.ensures.items
    ∙ replaced-end (is_at c.args.root.place) c.args.root c.args.roots.now.items (c.in-None.ensures ∙ ap (position (is_at c.args.root.place)) c.deref.ensures.value)
