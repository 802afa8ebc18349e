use Rattle.std.proofs.Common.{sym, ◌∙◌}
use Rattle.row_machine.specs.machine.Expansions.{expanded_of}
use Rattle.row_machine.specs.machine.PolicyRules.{forbids_instance, subject_of}
use Rattle.rules_opening.proofs.Refused.{forbids_told, unrestricted_told}
use Rattle.rules_opening.proofs.policies.forbids_instance.Goals as goal

pub returns-then-not-is_restricted : goal.returns-then-not-is_restricted
unfolding forbids_instance
returns-then-not-is_restricted c =
    let has = expanded_of c.args.view.now.projects c.args.view.now.profiles c.args.row.now in
    unrestricted_told c.args.project.now c.args.number (subject_of c.args.row.now.kind) has.config has.devices
    (sym c.is_restricted.ensures ∙ c.if-not-is_restricted.true)
    ∙ forbids_told c.args.project.now c.args.number (subject_of c.args.row.now.kind) c.args.row.now.name has.config has.devices
