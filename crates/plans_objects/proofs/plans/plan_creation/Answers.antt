use Rattle.records.specs.declared.commands.What.TheVariants as what
use Rattle.row_machine.specs.machine.Homes.{home_of}
use Rattle.row_machine.specs.shown.Notices.{life_notice, made_life}
use Rattle.row_machine.specs.machine.Plans.{plan_of}
use Rattle.plans_objects.proofs.Silent.{command_of, creation-silent}
use Rattle.plans_objects.proofs.Noted.{noted}
use Rattle.plans_objects.proofs.plans.plan_creation.Goals as goal

pub returns-in_default : goal.returns-in_default
returns-in_default c expects = creation-silent c.args.view.now c.args.project.now expects c.args.of.now c.args.body.now c.args.moment c.in_default.ensures

pub returns : goal.returns
unfolding plan_of
returns c expects =
    let s = c.args.view.now in
    let project = c.args.project.now in
    let of = c.args.of.now in
    let plan = plan_of s (command_of project expects (what.Create of c.args.body.now)) c.args.moment in
    noted plan (life_notice c.args.moment (home_of s.projects project of.kind) of)
    c.in-Some.action (made_life of.kind) c.with_notice.result c.in-Some.ensures
    (c.with_notice.ensures plan c.in_ok-changes.ensures)
