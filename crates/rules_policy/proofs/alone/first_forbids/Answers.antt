use Rattle.std.proofs.Common.{sym, ap, ◌∙◌, option_and_then}
use Rattle.restrictions.specs.Policies.{policy_of}
use Rattle.restrictions.specs.declared.forbidden.Forbidden.{Forbidden}
use Rattle.restrictions.specs.declared.rows.Subject.TheVariants as subject
use Rattle.row_machine.specs.machine.PolicyRules.{forbids_profile}
use Rattle.rules_policy.proofs.Unrestricted.{nothing-forbidden}
use Rattle.rules_policy.proofs.alone.first_forbids.Goals as goal

pub returns-then-not-is_restricted : goal.returns-then-not-is_restricted
returns-then-not-is_restricted c =
    ap (option_and_then (λ (f : Forbidden). forbids_profile c.args.project.now f.rule c.args.profile.now))
    (nothing-forbidden (policy_of c.args.project.now.config) subject.Profile c.args.profile.now.config c.args.profile.now.devices
    (sym c.is_restricted.ensures ∙ c.if-not-is_restricted.true))
