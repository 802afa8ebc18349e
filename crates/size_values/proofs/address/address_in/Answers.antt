use Rattle.std.proofs.Common.{◌∙◌, sym}
use Rattle.std.proofs.lemmas.Result.{err_from_is_err_and}
use Rattle.size_values.proofs.Addresses.{address-empty, address-astray, address-more, address-value}
use Rattle.size_values.proofs.address.address_in.Goals as goal

pub returns-then-is_empty : goal.returns-then-is_empty
returns-then-is_empty c = address-empty c.args.text.now (sym c.is_empty.ensures ∙ c.if-is_empty.true)

pub returns-in_err-quad : goal.returns-in_err-quad
returns-in_err-quad c =
    let p = err_from_is_err_and c.from_residual.result c.from_residual.ensures.1 in
    rw (p.1, p.2) (address-astray c.args.text.now (sym c.is_empty.ensures ∙ c.if-is_empty.false) c.in_err-quad.field-0.0.place c.in_err-quad.ensures.err)

pub returns-then-quad-text : goal.returns-then-quad-text
returns-then-quad-text c =
    address-more c.args.text.now (sym c.is_empty.ensures ∙ c.if-is_empty.false) c.in_ok-quad.quad c.in_ok-quad.ensures.ok c.if-quad-text.true

pub returns : goal.returns
returns c =
    c.ok_or.ensures.value
    ∙ address-value c.args.text.now (sym c.is_empty.ensures ∙ c.if-is_empty.false) c.in_ok-quad.quad c.in_ok-quad.ensures.ok c.if-quad-text.false
