use Rattle.std.proofs.Common.{◌∙◌}
use Rattle.std.proofs.lemmas.Result.{err_from_is_err_and}
use Rattle.size_values.proofs.Cpus.{cpu-set, cpu-fault, cpu-count}
use Rattle.size_values.proofs.cpu.cpu_in.Goals as goal

pub returns-then-number-text : goal.returns-then-number-text
returns-then-number-text c = c.set_in.ensures ∙ cpu-set c.args.text.now c.at_front-number.result c.at_front-number.ensures.number c.if-number-text.true

pub returns-in_err-count : goal.returns-in_err-count
returns-in_err-count c =
    let p = err_from_is_err_and c.from_residual.result c.from_residual.ensures.1 in
    rw (p.1, p.2)
    (cpu-fault c.args.text.now c.at_front-number.result c.at_front-number.ensures.number c.if-number-text.false c.in_err-count.field-0.0 c.in_err-count.ensures.count)

pub returns : goal.returns
returns c =
    cpu-count c.args.text.now c.at_front-number.result c.at_front-number.ensures.number c.if-number-text.false c.in_ok-count.count c.in_ok-count.ensures.count
