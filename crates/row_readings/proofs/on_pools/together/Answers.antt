use Rattle.std.proofs.Common.{◌≤◌, ◌+◌, ◌∷◌, [], ◌++◌, get_or, length, ap, ◌∙◌, arith}
use Rattle.std.proofs.lemmas.List.{take_all}
use Rattle.row_readings.specs.PoolLimits.{together}
use Rattle.row_readings.proofs.OwnPools.{together-next}
use Rattle.row_readings.proofs.on_pools.together.Goals as goal

pub bounds-some-place : goal.bounds-some-place
bounds-some-place c = omega (arith, c.loop-place-test.true, c.requires.some.lines)

pub bounds-more-place : goal.bounds-more-place
bounds-more-place c = omega (arith, c.loop-place-test.true, c.requires.more.lines)

pub bounds-others-place : goal.bounds-others-place
bounds-others-place c = omega (arith, c.loop-place-test.true, c.requires.others.lines)

pub overflow_add-of_rows : goal.overflow_add-of_rows
overflow_add-of_rows c =
    let place = c.loop-place.place in
    let a = c.requires.some.low place 0 (omega (arith, c.loop-place-test.true, c.requires.some.lines)) in
    let b = c.requires.more.low place 0 (omega (arith, c.loop-place-test.true, c.requires.more.lines)) in
    omega (arith, a, b)

pub overflow_add-all : goal.overflow_add-all
overflow_add-all c =
    let place = c.loop-place.place in
    let a = c.requires.some.low place 0 (omega (arith, c.loop-place-test.true, c.requires.some.lines)) in
    let b = c.requires.more.low place 0 (omega (arith, c.loop-place-test.true, c.requires.more.lines)) in
    let d = c.requires.others.low place 0 (omega (arith, c.loop-place-test.true, c.requires.others.lines)) in
    omega (arith, a, b, d)

pub loop-place-preserved : goal.loop-place-preserved
loop-place-preserved c =
    let some = c.args.some.now in
    let more = c.args.more.now in
    let others = c.args.others.now in
    let place = c.loop-place.place in
    c.in_ok-push.ensures.items ∙ ap (λ sums. sums ++ (get_or some place 0 + get_or more place 0 + get_or others place 0) ∷ []) c.loop-place.invariant
    ∙ together-next some more others place (omega (arith, c.loop-place-test.true, c.requires.some.lines))
    (omega (arith, c.loop-place-test.true, c.requires.more.lines)) (omega (arith, c.loop-place-test.true, c.requires.others.lines))

pub returns : goal.returns
returns c =
    let past_some : length c.args.some.now ≤ c.loop-place.place = omega (arith, c.loop-place-test.false, c.requires.some.lines) in
    let past_more : length c.args.more.now ≤ c.loop-place.place = omega (arith, c.loop-place-test.false, c.requires.more.lines) in
    let past_others : length c.args.others.now ≤ c.loop-place.place = omega (arith, c.loop-place-test.false, c.requires.others.lines) in
    c.from_vec.ensures ∙ c.loop-place.invariant
    ∙ (λ i. together (take_all c.loop-place.place c.args.some.now past_some i) (take_all c.loop-place.place c.args.more.now past_more i)
    (take_all c.loop-place.place c.args.others.now past_others i))
