use Rattle.std.proofs.Common.{◌≤◌, [], ◌++◌, get_or, length, sym, ap, ◌∙◌, arith}
use Rattle.std.specs.List.{filter_map}
use Rattle.std.specs.Map.{keys_of}
use Rattle.std.specs.Option.{option_to_list}
use Rattle.std.proofs.lemmas.List.{append-nil, length-map, take_all}
use Rattle.std.proofs.lemmas.Option.{slice_get-get_or}
use Rattle.row_readings.specs.PoolLimits.{limit_at, limit_of_key}
use Rattle.row_readings.proofs.LimitedPools.{limits-next, limits-walked}
use Rattle.row_readings.proofs.pool_limits.add_limits.Goals as goal

pub loop-place-init : goal.loop-place-init
loop-place-init c = sym (append-nil c.args.limits.now.items)

pub add_limit-requires-clause-rising : goal.add_limit-requires-clause-rising
add_limit-requires-clause-rising c = c.len-place-end.ensures.config.rising

pub loop-place-preserved : goal.loop-place-preserved
loop-place-preserved c =
    let project = c.args.project.now in
    let keys = keys_of project.config in
    let place = c.loop-place.place in
    c.in_ok-add_limit.ensures
    ∙ ap (λ all. all ++ option_to_list (limit_at project place)) c.loop-place.invariant
    ∙ limits-next project c.args.limits.now.items place (get_or keys place []) (slice_get-get_or keys place [] (omega (arith, c.loop-place-test.true, c.len-place-end.ensures.len, length-map project.config (λ e. e.0))))

pub returns-clause-limits : goal.returns-clause-limits
returns-clause-limits c =
    let project = c.args.project.now in
    let keys = keys_of project.config in
    let all : length keys ≤ c.loop-place.place = omega (arith, c.loop-place-test.false, c.len-place-end.ensures.len, length-map project.config (λ e. e.0)) in
    c.loop-place.invariant
    ∙ ap (λ ks. c.args.limits.now.items ++ filter_map (limit_of_key project) ks) (take_all c.loop-place.place keys all)
    ∙ ap (λ own. c.args.limits.now.items ++ own) (limits-walked project)

pub returns-clause-rising : goal.returns-clause-rising
returns-clause-rising c = c.len-place-end.ensures.config.rising
