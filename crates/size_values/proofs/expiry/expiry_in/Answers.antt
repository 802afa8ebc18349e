use Rattle.std.proofs.Common.{◌∙◌, sym}
use Rattle.std.proofs.lemmas.Result.{err_from_is_err_and}
use Rattle.size_values.proofs.Expiries.{expiry-empty, expiry-misses-first, expiry-misses, expiry-says, first-front, next-front}
use Rattle.size_values.proofs.expiry.expiry_in.Goals as goal

pub returns-then-is_empty : goal.returns-then-is_empty
returns-then-is_empty c = expiry-empty c.args.text.now (sym c.is_empty.ensures ∙ c.if-is_empty.true)

pub returns-in_err-first : goal.returns-in_err-first
returns-in_err-first c =
    let p = err_from_is_err_and c.from_residual.result c.from_residual.ensures.1 in
    rw (p.1, p.2) (expiry-misses-first c.args.text.now c.in_err-first.field-0.0.place (sym c.is_empty.ensures ∙ c.if-is_empty.false) c.in_err-first.ensures.err)

pub loop-front-init : goal.loop-front-init
loop-front-init c = first-front c.args.text.now c.in_ok-first.first c.with_part.result c.in_ok-first.ensures.ok c.with_part.ensures

pub returns-in_err-part : goal.returns-in_err-part
returns-in_err-part c =
    let p = err_from_is_err_and c.from_residual-in_err-part.result c.from_residual-in_err-part.ensures.1 in
    rw (p.1, p.2)
    (expiry-misses c.args.text.now c.loop-front.front c.loop-front.invariant (sym c.is_empty.ensures ∙ c.if-is_empty.false)
    c.in_err-part.field-0.0.place c.loop-front-test.true c.in_err-part.ensures.err)

pub loop-front-preserved : goal.loop-front-preserved
loop-front-preserved c =
    next-front c.args.text.now c.loop-front.front c.loop-front.invariant c.in_ok-part.part c.with_part-front.result c.in_ok-part.ensures.ok
    c.with_part-front.ensures.end c.with_part-front.ensures.expiry

pub returns : goal.returns
returns c =
    c.ok_or.ensures.value
    ∙ expiry-says c.args.text.now c.loop-front.front c.loop-front.invariant (sym c.is_empty.ensures ∙ c.if-is_empty.false) c.loop-front-test.false
