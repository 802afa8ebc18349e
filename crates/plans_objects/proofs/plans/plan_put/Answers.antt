use Rattle.records.specs.declared.commands.What.TheVariants as what
use Rattle.row_machine.specs.machine.Homes.{home_of}
use Rattle.row_machine.specs.shown.Notices.{life_notice, changed_life}
use Rattle.row_machine.specs.machine.Plans.{plan_of, row_of, plan_put}
use Rattle.records.specs.AnyRows.{row_in}
use Rattle.plans_objects.proofs.Silent.{command_of, put-silent}
use Rattle.plans_objects.proofs.Noted.{noted, changes-there, changes-gone}
use Rattle.plans_objects.proofs.plans.plan_put.Goals as goal

pub returns-in_default : goal.returns-in_default
returns-in_default c expects = put-silent c.args.view.now c.args.project.now expects c.args.of.now c.args.body.now c.args.moment c.in_default.ensures

pub returns-in_default-row_of : goal.returns-in_default-row_of
unfolding plan_of
returns-in_default-row_of c expects =
    let s = c.args.view.now in
    let project = c.args.project.now in
    let of = c.args.of.now in
    changes-gone (plan_put s project of c.args.body.now) (row_of s project of) c.in_default-row_of.ensures

pub returns : goal.returns
unfolding plan_of
returns c expects =
    let s = c.args.view.now in
    let project = c.args.project.now in
    let of = c.args.of.now in
    let plan = plan_of s (command_of project expects (what.Put of c.args.body.now)) c.args.moment in
    noted plan (life_notice c.args.moment (home_of s.projects project of.kind) of)
    c.in-Some.action (changed_life of.kind) c.with_notice.result c.in-Some.ensures
    (c.with_notice.ensures plan
    (changes-there (plan_put s project of c.args.body.now) (row_in c.in-Some-row_of.old) (row_of s project of)
    c.in_ok-changes.changes c.in-Some-row_of.ensures (c.in_ok-changes.ensures s project of)))
