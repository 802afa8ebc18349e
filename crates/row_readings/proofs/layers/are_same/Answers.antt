use Rattle.std.proofs.Common.{◌<◌, length, ◌∷◌, [], ◌++◌, sym, ap₂, ◌∙◌, arith}
use Rattle.std.proofs.lemmas.List.{take_more}
use Rattle.std.proofs.lemmas.Slice.Eq.{bytes_eq-Decides}
use Rattle.row_readings.proofs.layers.are_same.Goals as goal

pub loop-place-preserved : goal.loop-place-preserved
loop-place-preserved c =
    let texts = c.args.texts.now in
    let others = c.args.others.now in
    let place = c.loop-place.place in
    let text = c.index-texts-place.result in
    let other = c.index-others-place.result in
    let within : place < length others = omega (arith, c.loop-place-test.true, c.if-texts-others.false) in
    let same = (bytes_eq-Decides text other).0 (sym c.if-not-is.ensures) in
    take_more texts place text c.loop-place-test.true
    ∙ ap₂ (λ front t. front ++ t ∷ []) c.loop-place.invariant (sym c.index-texts-place.is ∙ same ∙ c.index-others-place.is)
    ∙ sym (take_more others place other within)
