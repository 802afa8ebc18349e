use Rattle.std.proofs.Common.{sym, ap, ◌∙◌, arith}
use Rattle.std.proofs.lemmas.List.{take_all}
use Rattle.plain_lists.specs.Firsts.{first_of}
use Rattle.rules_policy.specs.Within.{own_claim}
use Rattle.rules_policy.proofs.Below.{below-next}
use Rattle.rules_policy.proofs.alone.lowest_in_all.Goals as goal

pub loop-project-preserved : goal.loop-project-preserved
loop-project-preserved c =
    below-next (λ n. (λ p. own_claim c.args.view.now p n c.args.work.now)) c.args.projects.now c.loop-project.project-index c.project-item.result
    c.loop-project-test.true c.project-item.is c.loop-project.invariant c.in_ok-found.ensures c.min-lowest.ensures

pub returns : goal.returns
returns c = λ n less.
    ap (first_of (λ p. own_claim c.args.view.now p n c.args.work.now)) (sym (take_all c.loop-project.project-index c.args.projects.now (omega arith)))
    ∙ c.loop-project.invariant n less
