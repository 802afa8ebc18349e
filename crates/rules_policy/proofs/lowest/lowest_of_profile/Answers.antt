use Rattle.std.proofs.Common.{None, cond, sym, ap, ◌∙◌}
use Rattle.std.specs.Str.{bytes_eq}
use Rattle.row_machine.specs.machine.PolicyRules.{forbids_profile}
use Rattle.rules_policy.proofs.Below.{none-if}
use Rattle.rules_policy.proofs.lowest.lowest_of_profile.Goals as goal

pub returns-then-not-has : goal.returns-then-not-has
returns-then-not-has c = λ n less.
    ap (λ b. cond b (forbids_profile c.args.project.now n c.args.profile.now) None) (sym c.has.ensures ∙ c.if-not-has.true)

pub returns : goal.returns
unfolding forbids_profile
returns c = λ n less. none-if (bytes_eq c.args.profile.now.project c.args.project.now.name) (c.lowest_rule.ensures c.args.profile.now.name n less)
