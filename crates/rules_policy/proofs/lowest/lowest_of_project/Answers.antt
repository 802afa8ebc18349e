use Rattle.std.proofs.Common.{refl, sym, ap, ◌∙◌}
use Rattle.row_machine.specs.machine.State.{State}
use Rattle.rules_policy.proofs.Below.{below-all}
use Rattle.rules_policy.proofs.Unrestricted.{unrestricted-free}
use Rattle.rules_policy.proofs.lowest.lowest_of_project.Goals as goal

pub returns-then-not-is_restricted : goal.returns-then-not-is_restricted
returns-then-not-is_restricted c = λ n less.
    unrestricted-free c.args.project.now n (sym c.is_restricted.ensures ∙ c.if-not-is_restricted.true) c.args.view.now

pub returns : goal.returns
returns c =
    below-all c.args.view.now c.new-project.ensures refl refl
    (ap (λ (s : State). s.operations.live) c.view.view_is) c.min.ensures c.min-2.ensures
    c.lowest_of_own_profiles-profiles.ensures c.in_ok-instances.ensures c.in_ok-claims.ensures
