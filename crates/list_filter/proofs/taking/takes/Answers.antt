use Rattle.rest_json.specs.Views.{view_data}
use Rattle.list_filter.specs.Taking.{holds}
use Rattle.list_filter.proofs.Steps.{went, stuck, over}
use Rattle.list_filter.proofs.taking.takes.Goals as goal

pub returns-then-not-branch : goal.returns-then-not-branch
returns-then-not-branch c =
    stuck (holds c.args.terms.dialect (view_data c.args.terms c.args.shown.now)) c.steps-step-items.result.now c.args.choice.now c.loop-step.step-index c.loop-step.truths c.loop-step.invariant
    c.step-item.result c.take_step.new.truths c.in_ok-take_step.field-0 c.loop-step-test.true c.step-item.is c.in_ok-take_step.ensures c.if-not-branch.true c.steps-step-items.ensures

pub loop-step-preserved : goal.loop-step-preserved
loop-step-preserved c =
    went (holds c.args.terms.dialect (view_data c.args.terms c.args.shown.now)) c.steps-step-items.result.now c.args.choice.now c.loop-step.step-index c.loop-step.truths c.loop-step.invariant
    c.step-item.result c.take_step.new.truths c.in_ok-take_step.field-0 c.loop-step-test.true c.step-item.is c.in_ok-take_step.ensures c.if-not-branch.false

pub returns : goal.returns
returns c =
    over (holds c.args.terms.dialect (view_data c.args.terms c.args.shown.now)) c.steps-step-items.result.now c.args.choice.now c.loop-step.step-index c.loop-step.truths c.loop-step.invariant
    c.only.result c.loop-step-test.false c.only.ensures c.steps-step-items.ensures
