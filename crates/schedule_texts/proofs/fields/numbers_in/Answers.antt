use Rattle.std.proofs.Common.{◌∙◌, sym, ap, lit<, map, Bor, List, ℕ, length}
use Rattle.std.proofs.lemmas.Simd.{map-map}
use Rattle.std.proofs.lemmas.Iterator.Consumers.{YieldsList-at, YieldsList-end, YieldsList-turn}
use Rattle.std.proofs.lemmas.Iterator.Splits.{YieldsList-from_str_split}
use Rattle.schedule_texts.specs.Parts.{part_of}
use Rattle.schedule_texts.proofs.Parts.{field_none, field_is}
use Rattle.schedule_texts.proofs.fields.numbers_in.Goals as goal

pub returns-in_err-read : goal.returns-in_err-read
returns-in_err-read c =
    let parts = YieldsList-at c.into_iter-part-iterator.ensures.into_iter_gives
    (YieldsList-from_str_split 44 c.args.text.now (lit< tt) c.split-part-items.ensures.text
    c.split-part-items.ensures.has_more c.split-part-items.ensures.pattern) in
    let turn = YieldsList-turn parts c.loop-part.yielded _ c.loop-part.yielded_by _ _ c.in-Some.part c.in-Some.is c.next.ensures.steps in
    c.from_residual.ensures
    ∙ field_none c.args.least c.args.most c.args.text.now (length c.loop-part.yielded) c.in-Some.part.now turn.0 turn.1 (sym c.in_err-read.ensures.part)

pub returns : goal.returns
returns c =
    let parts = YieldsList-at c.into_iter-part-iterator.ensures.into_iter_gives
    (YieldsList-from_str_split 44 c.args.text.now (lit< tt) c.split-part-items.ensures.text
    c.split-part-items.ensures.has_more c.split-part-items.ensures.pattern) in
    let all = YieldsList-end parts c.loop-part.yielded _ c.loop-part.yielded_by _ _ c.in-None.is c.next.ensures.steps in
    field_is c.args.least c.args.most c.args.text.now c.loop-part.numbers
    (map (λ (part : Bor (List ℕ)). part_of c.args.least c.args.most part.now) c.loop-part.yielded)
    (sym (map-map (part_of c.args.least c.args.most) (λ (part : Bor (List ℕ)). part.now) c.loop-part.yielded)
    ∙ ap (λ (texts : List (List ℕ)). map (part_of c.args.least c.args.most) texts) all.0)
    c.loop-part.invariant.all c.loop-part.invariant.named c.loop-part.invariant.few
