use Rattle.std.proofs.Common.{◌≡◌, subst}
use Rattle.std.proofs.lemmas.Result.{err_from_is_err_and}
use Rattle.size_values.specs.Set.{BeginsSet}
use Rattle.size_values.specs.declared.number.Number.{Number}
use Rattle.size_values.proofs.Sets.{first-front, next-front, set-none, set-breaks, set-large, set-unfit, set-fit}
use Rattle.size_values.proofs.cpu.set_in.Goals as goal

pub returns-in_err-front : goal.returns-in_err-front
returns-in_err-front c =
    let p = err_from_is_err_and c.from_residual.result c.from_residual.ensures.1 in
    let none = subst (λ (n : Number). n.len ≡ 0) c.requires c.in_err-front.ensures.err.0 in
    rw (p.1, p.2) (set-none c.args.text.now c.in_err-front.field-0.0.place none c.in_err-front.ensures.err.1)

pub loop-front-init : goal.loop-front-init
loop-front-init c =
    first-front c.args.text.now c.in_ok-front.front (subst (λ (n : Number). BeginsSet n c.in_ok-front.front) c.requires c.in_ok-front.ensures.ok)

pub returns-in_err-front-2 : goal.returns-in_err-front-2
returns-in_err-front-2 c =
    let p = err_from_is_err_and c.from_residual-in_err-front-2.result c.from_residual-in_err-front-2.ensures.1 in
    rw (p.1, p.2)
    (set-breaks c.args.text.now c.loop-front.front c.loop-front.invariant c.in_err-front-2.field-0.0.place c.loop-front-test.true c.in_err-front-2.ensures.err)

pub loop-front-preserved : goal.loop-front-preserved
loop-front-preserved c = next-front c.args.text.now c.loop-front.front c.loop-front.invariant c.in_ok-front-2.front c.in_ok-front-2.ensures.ok

pub returns-then-front : goal.returns-then-front
returns-then-front c = set-large c.args.text.now c.loop-front.front c.loop-front.invariant c.loop-front-test.false c.if-front.true

pub returns-then-front-2 : goal.returns-then-front-2
returns-then-front-2 c = set-unfit c.args.text.now c.loop-front.front c.loop-front.invariant c.loop-front-test.false c.if-front.false c.if-front-2.true

pub returns : goal.returns
returns c = set-fit c.args.text.now c.loop-front.front c.loop-front.invariant c.loop-front-test.false c.if-front.false c.if-front-2.false
