use Rattle.std.proofs.lemmas.Result.{err_from_is_err_and}
use Rattle.size_values.proofs.Quads.{second-astray, third-astray, fourth-astray, quad-read}
use Rattle.size_values.proofs.address.read_quad.Goals as goal

pub returns-in_err-second-clause-err : goal.returns-in_err-second-clause-err
returns-in_err-second-clause-err c =
    let p = err_from_is_err_and c.from_residual-in_err-second.result c.from_residual-in_err-second.ensures.1 in
    let first = rw c.in_ok-first.ensures.ok_part at c.number_from.ensures.some in
    rw (p.1, p.2) (second-astray c.args.text.now c.in_ok-first.first first c.in_err-second.field-0.0.place c.in_err-second.ensures.err)

pub returns-in_err-third-clause-err : goal.returns-in_err-third-clause-err
returns-in_err-third-clause-err c =
    let p = err_from_is_err_and c.from_residual-in_err-third.result c.from_residual-in_err-third.ensures.1 in
    let first = rw c.in_ok-first.ensures.ok_part at c.number_from.ensures.some in
    rw (p.1, p.2) (third-astray c.args.text.now c.in_ok-first.first first c.in_ok-second.second c.in_ok-second.ensures.ok c.in_err-third.field-0.0.place c.in_err-third.ensures.err)

pub returns-in_err-fourth-clause-err : goal.returns-in_err-fourth-clause-err
returns-in_err-fourth-clause-err c =
    let p = err_from_is_err_and c.from_residual-in_err-fourth.result c.from_residual-in_err-fourth.ensures.1 in
    let first = rw c.in_ok-first.ensures.ok_part at c.number_from.ensures.some in
    rw (p.1, p.2)
    (fourth-astray c.args.text.now c.in_ok-first.first first c.in_ok-second.second c.in_ok-second.ensures.ok c.in_ok-third.third c.in_ok-third.ensures.ok
    c.in_err-fourth.field-0.0.place c.in_err-fourth.ensures.err)

pub returns-clause-ok : goal.returns-clause-ok
returns-clause-ok c =
    let first = rw c.in_ok-first.ensures.ok_part at c.number_from.ensures.some in
    quad-read c.args.text.now c.in_ok-first.first first c.in_ok-second.second c.in_ok-second.ensures.ok c.in_ok-third.third c.in_ok-third.ensures.ok
    c.in_ok-fourth.fourth c.in_ok-fourth.ensures.ok c.quad_value.result c.quad_value.ensures
