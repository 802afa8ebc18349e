use Rattle.std.proofs.Common.{List, ℕ, [], ◌∷◌, ◌++◌, take, length, ap, sym, ◌∙◌, arith}
use Rattle.std.proofs.lemmas.List.{take_more}
use Rattle.row_codec.specs.Spelling.{text_bytes}
use Rattle.row_codec.specs.Sizes.{capped}
use Rattle.row_codec.proofs.Sums.{capped-fits, sum-more, sum-all}
use Rattle.row_codec.proofs.sizes.texts_size.Goals as goal

pub loop-text-init : goal.loop-text-init
loop-text-init c = capped-fits 4 (omega arith)

pub loop-text-preserved : goal.loop-text-preserved
loop-text-preserved c =
    let texts = c.args.texts.now in
    let place = c.loop-text.text-index in
    let text = c.text-item.result in
    sum-more text_bytes texts place text c.loop-text.size c.text_size.result c.add_capped-size.result
    (take_more texts place text c.loop-text-test.true ∙ ap (λ (y : List ℕ). take place texts ++ y ∷ []) (sym c.text-item.is))
    c.loop-text.invariant
    (c.text_size.ensures ∙ ap (λ (t : List ℕ). capped (length (text_bytes t))) c.view.ensures.value)
    c.add_capped-size.ensures

pub returns : goal.returns
returns c = sum-all text_bytes c.args.texts.now c.loop-text.text-index c.loop-text.size (omega arith) c.loop-text.invariant
