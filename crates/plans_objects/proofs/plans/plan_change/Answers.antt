use Rattle.std.proofs.Common.{IfOk}
use Rattle.plans_objects.specs.Planning.{IsPlanOf}
use Rattle.plans_objects.proofs.Silent.{of-its-command, other-silent}
use Rattle.plans_objects.proofs.plans.plan_change.Goals as goal

pub returns-in_default : goal.returns-in_default
returns-in_default c =
    other-silent c.args.view.now c.args.command.now c.args.moment
    c.in_default.not-Create c.in_default.not-Put c.in_default.not-Patch c.in_default.not-Move c.in_default.not-Delete

pub returns-in-Create : goal.returns-in-Create
returns-in-Create c =
    of-its-command (λ command. IfOk c.plan_creation.result (λ p. IsPlanOf p c.args.view.now command c.args.moment))
    c.args.command.now c.view-project.ensures.value c.in-Create.is (c.plan_creation.ensures c.args.command.now.expects)

pub returns-in-Put : goal.returns-in-Put
returns-in-Put c =
    of-its-command (λ command. IfOk c.plan_put.result (λ p. IsPlanOf p c.args.view.now command c.args.moment))
    c.args.command.now c.view-project.ensures.value c.in-Put.is (c.plan_put.ensures c.args.command.now.expects)

pub returns-in-Patch : goal.returns-in-Patch
returns-in-Patch c =
    of-its-command (λ command. IfOk c.plan_patch.result (λ p. IsPlanOf p c.args.view.now command c.args.moment))
    c.args.command.now c.view-project.ensures.value c.in-Patch.is (c.plan_patch.ensures c.args.command.now.expects)

pub returns-in-Move : goal.returns-in-Move
returns-in-Move c =
    of-its-command (λ command. IfOk c.plan_move.result (λ p. IsPlanOf p c.args.view.now command c.args.moment))
    c.args.command.now c.view-project.ensures.value c.in-Move.is (c.plan_move.ensures c.args.command.now.expects)

pub returns-in-Delete : goal.returns-in-Delete
returns-in-Delete c =
    of-its-command (λ command. IfOk c.plan_deletion.result (λ p. IsPlanOf p c.args.view.now command c.args.moment))
    c.args.command.now c.view-project.ensures.value c.in-Delete.is (c.plan_deletion.ensures c.args.command.now.expects)
