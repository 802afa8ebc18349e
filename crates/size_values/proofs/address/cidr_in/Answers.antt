use Rattle.std.proofs.Common.{◌∙◌, sym, ap}
use Rattle.std.specs.Option.{ok_or}
use Rattle.size_values.specs.declared.fault.ValueFault.TheVariants.{OutOfRange}
use Rattle.std.proofs.lemmas.Result.{err_from_is_err_and}
use Rattle.size_values.proofs.Addresses.{cidr-empty, cidr-astray, cidr-misses, cidr-more, cidr-value}
use Rattle.size_values.proofs.address.cidr_in.Goals as goal

pub returns-then-is_empty : goal.returns-then-is_empty
returns-then-is_empty c = cidr-empty c.args.text.now (sym c.is_empty.ensures ∙ c.if-is_empty.true)

pub returns-in_err-quad : goal.returns-in_err-quad
returns-in_err-quad c =
    let p = err_from_is_err_and c.from_residual.result c.from_residual.ensures.1 in
    rw (p.1, p.2) (cidr-astray c.args.text.now (sym c.is_empty.ensures ∙ c.if-is_empty.false) c.in_err-quad.field-0.0.place c.in_err-quad.ensures.err)

pub returns-in_err-bits : goal.returns-in_err-bits
returns-in_err-bits c =
    let p = err_from_is_err_and c.from_residual-in_err-bits.result c.from_residual-in_err-bits.ensures.1 in
    rw (p.1, p.2)
    (cidr-misses c.args.text.now (sym c.is_empty.ensures ∙ c.if-is_empty.false) c.in_ok-quad.quad c.in_ok-quad.ensures.ok c.in_err-bits.field-0.0.place c.in_err-bits.ensures.err)

pub returns-then-bits-text : goal.returns-then-bits-text
returns-then-bits-text c =
    cidr-more c.args.text.now (sym c.is_empty.ensures ∙ c.if-is_empty.false) c.in_ok-quad.quad c.in_ok-quad.ensures.ok
    c.in_ok-bits.ensures.ok.separates c.in_ok-bits.bits c.in_ok-bits.ensures.ok.number_is c.if-bits-text.true

pub returns : goal.returns
returns c =
    c.ok_or.ensures.value ∙ ap (λ p. ok_or p OutOfRange) c.zip.ensures
    ∙ cidr-value c.args.text.now (sym c.is_empty.ensures ∙ c.if-is_empty.false) c.in_ok-quad.quad c.in_ok-quad.ensures.ok
    c.in_ok-bits.ensures.ok.separates c.in_ok-bits.bits c.in_ok-bits.ensures.ok.number_is c.if-bits-text.false
