use Rattle.std.proofs.Common.{sym, ap, ◌∙◌, arith}
use Rattle.std.proofs.lemmas.List.{take_all}
use Rattle.plain_lists.specs.Firsts.{first_of}
use Rattle.rules_policy.specs.Within.{own_claim}
use Rattle.rules_policy.proofs.Below.{below-next}
use Rattle.rules_policy.proofs.lowest.lowest_of_claims.Goals as goal

pub loop-operation-preserved : goal.loop-operation-preserved
loop-operation-preserved c =
    below-next (λ n. (λ o. own_claim c.args.view.now c.args.project.now n o.work)) c.args.live.now c.loop-operation.operation-index c.operation-item.result
    c.loop-operation-test.true c.operation-item.is c.loop-operation.invariant c.in_ok-found.ensures c.min-lowest.ensures

pub returns : goal.returns
returns c = λ n less.
    ap (first_of (λ o. own_claim c.args.view.now c.args.project.now n o.work)) (sym (take_all c.loop-operation.operation-index c.args.live.now (omega arith)))
    ∙ c.loop-operation.invariant n less
