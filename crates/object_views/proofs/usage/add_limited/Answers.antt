use Rattle.std.proofs.Common.{◌≤◌, ◌∷◌, [], ◌++◌, get_or, length, sym, ap, ap₂, ◌∙◌, arith}
use Rattle.std.proofs.lemmas.List.{append-nil, take_all}
use Rattle.object_views.specs.Limited.{limited_line, limited_lines}
use Rattle.object_views.proofs.Limited.{lines-more}
use Rattle.object_views.proofs.usage.add_limited.Goals as goal

pub loop-place-init : goal.loop-place-init
loop-place-init c = sym (append-nil c.args.lines.now)

pub loop-place-preserved : goal.loop-place-preserved
loop-place-preserved c =
    let limits = c.args.limits.now in
    let uses = c.args.uses.now in
    let place = c.loop-place.place in
    let limit = c.index-limits-place.result in
    c.in_ok-push.ensures.ok
    ∙ ap (λ shown. c.loop-place.lines ++ shown ∷ []) c.in_ok-limited_line.ensures
    ∙ ap (λ lines. lines ++ limited_line limit (get_or uses place 0) ∷ []) c.loop-place.invariant
    ∙ lines-more c.args.lines.now limits uses place limit c.loop-place-test.true (omega (arith, c.loop-place-test.true, c.requires)) c.index-limits-place.is

pub returns : goal.returns
returns c =
    let limits = c.args.limits.now in
    let uses = c.args.uses.now in
    let place = c.loop-place.place in
    let past : length limits ≤ place = omega (arith, c.loop-place-test.false) in
    let past_uses : length uses ≤ place = omega (arith, c.loop-place-test.false, c.requires) in
    c.loop-place.invariant
    ∙ ap₂ (λ ls us. c.args.lines.now ++ limited_lines ls us) (take_all place limits past) (take_all place uses past_uses)
