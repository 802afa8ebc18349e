use Rattle.std.proofs.Common.{ℕ, ◌+◌, ◌<◌, cond, List, get_or, position, length, set, sym, ap, ne_eqb, ◌∙◌, arith}
use Rattle.std.specs.Option.{option_map_or}
use Rattle.std.proofs.lemmas.List.{get_or_default}
use Rattle.row_readings.specs.PoolLimits.{is_limit}
use Rattle.row_readings.proofs.on_pools.add_to_line.Goals as goal

pub overflow_add-sum : goal.overflow_add-sum
overflow_add-sum c =
    let sums = c.args.sums.now.items in
    let place = c.in-Ok.place in
    let within : place < length sums = omega (arith, c.in-Ok.ensures.bound, c.requires.sums.lines) in
    let here = c.index_mut-sum.ensures.value ∙ get_or_default sums place c.index_mut-sum.result.now 0 within in
    omega (arith, here, c.requires.sums.low place 0 within, c.requires.small)

pub returns-in_default : goal.returns-in_default
returns-in_default c =
    let sums = c.args.sums.now.items in
    let disk = c.args.disk in
    let test = is_limit c.args.project.now c.args.pool.now in
    let grown : ℕ → List ℕ = λ place. set sums place (get_or sums place 0 + disk) in
    ap (λ o. option_map_or grown o sums) (sym c.in_default.ensures.place.0)
    ∙ ap (λ b. cond b sums (option_map_or grown (position test c.args.limits.now) sums)) (sym (ne_eqb disk 0 c.if-disk-eq0.false))

pub returns : goal.returns
returns c =
    let sums = c.args.sums.now.items in
    let disk = c.args.disk in
    let place = c.in-Ok.place in
    let test = is_limit c.args.project.now c.args.pool.now in
    let grown : ℕ → List ℕ = λ i. set sums i (get_or sums i 0 + disk) in
    let within : place < length sums = omega (arith, c.in-Ok.ensures.bound, c.requires.sums.lines) in
    ap (λ n. set sums place (n + disk)) (c.index_mut-sum.ensures.value ∙ get_or_default sums place c.index_mut-sum.result.now 0 within)
    ∙ ap (λ o. option_map_or grown o sums) (sym c.in-Ok.ensures.place)
    ∙ ap (λ b. cond b sums (option_map_or grown (position test c.args.limits.now) sums)) (sym (ne_eqb disk 0 c.if-disk-eq0.false))
