use Rattle.std.proofs.Common.{◌≡◌, ◌++◌, ◌∷◌, [], Some, None, option_and_then, sym, ap, ◌∙◌}
use Rattle.std.specs.Option.{option_map, option_to_list}
use Rattle.std.specs.Result.{result_ok}
use Rattle.std.proofs.lemmas.List.{append-nil}
use Rattle.project_limits.specs.Pools.{pool_limit}
use Rattle.project_limits.proofs.PoolKeys.{key-is, pool_limit-read}
use Rattle.row_readings.specs.PoolLimits.{limit_of, limit_of_key, limit_at}
use Rattle.row_readings.specs.declared.pool_limits.PoolLimit.{PoolLimit}
use Rattle.row_readings.proofs.pool_limits.add_limit.Goals as goal

pub returns-in_default : goal.returns-in_default
returns-in_default c =
    let project = c.args.project.now in
    let none : limit_at project c.args.place ≡ None =
    ap (option_and_then (limit_of_key project)) c.key_at.ensures ∙ ap (option_map (limit_of project)) (sym c.in_default.ensures) in
    sym (append-nil c.args.limits.now.items) ∙ ap (λ o. c.args.limits.now.items ++ option_to_list o) (sym none)

pub returns : goal.returns
returns c =
    let project = c.args.project.now in
    let pool = c.in-Some.pool.now in
    let key = c.key_at.result.now in
    let is = key-is key pool (sym c.in-Some.ensures) in
    let some : limit_at project c.args.place ≡ Some (limit_of project pool) =
    ap (option_and_then (limit_of_key project)) c.key_at.ensures ∙ ap (option_map (limit_of project)) (sym c.in-Some.ensures) in
    let limit : c.ok-limit.result ≡ pool_limit project.config pool =
    c.ok-limit.ensures.value ∙ ap result_ok c.read_size.ensures
    ∙ sym (pool_limit-read project.config c.args.place pool c.value_at.result.now c.requires.rising (c.key_at.ensures ∙ ap Some is) c.value_at.ensures) in
    let made : record { project = c.in_ok-project.project; pool = c.in_ok-pool.pool; limit = c.ok-limit.result } ≡ limit_of project pool =
    (λ i. record { project = c.in_ok-project.ensures i; pool = c.in_ok-pool.ensures i; limit = limit i }) in
    c.in_ok-push.ensures.items ∙ ap (λ (l : PoolLimit). c.args.limits.now.items ++ l ∷ []) made
    ∙ ap (λ o. c.args.limits.now.items ++ option_to_list o) (sym some)
