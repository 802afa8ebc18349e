use Rattle.records.specs.declared.commands.What.TheVariants as what
use Rattle.std.proofs.Common.{subst}
use Rattle.std.specs.Result.{IfOk}
use Rattle.std.specs.Option.{option_map, option_to_list}
use Rattle.records.specs.declared.commands.Target.{Target}
use Rattle.row_machine.specs.machine.Homes.{home_of}
use Rattle.row_machine.specs.shown.Notices.{life_notice, moved_life}
use Rattle.row_machine.specs.machine.Plans.{plan_of, row_of, plan_move}
use Rattle.plans_objects.specs.Planning.{IsPlanned}
use Rattle.records.specs.AnyRows.{row_in}
use Rattle.plans_objects.proofs.Silent.{command_of, move-silent}
use Rattle.plans_objects.proofs.Noted.{noted, changes-there, changes-gone}
use Rattle.plans_objects.proofs.plans.plan_move.Goals as goal

pub returns-in_default : goal.returns-in_default
returns-in_default c expects = move-silent c.args.view.now c.args.project.now expects c.args.of.now c.args.to.now c.args.moment c.in_default.ensures

pub returns-in_default-row_of : goal.returns-in_default-row_of
unfolding plan_of
returns-in_default-row_of c expects =
    let s = c.args.view.now in
    let project = c.args.project.now in
    let of = c.args.of.now in
    changes-gone (plan_move s project of c.args.to.now) (row_of s project of) c.in_default-row_of.ensures

pub returns : goal.returns
unfolding plan_of
returns c expects =
    let s = c.args.view.now in
    let project = c.args.project.now in
    let of = c.args.of.now in
    let renamed = c.in_ok-renamed.renamed in
    let plan = plan_of s (command_of project expects (what.Move of c.args.to.now)) c.args.moment in
    subst
    (λ (t : Target). IfOk c.with_notice-planned.result (λ p. IsPlanned p plan
    (option_to_list (option_map (life_notice c.args.moment (home_of s.projects project t.kind) t) (moved_life of.kind)))))
    c.in_ok-renamed.ensures
    (noted plan (life_notice c.args.moment (home_of s.projects project renamed.kind) renamed)
    c.in-Some.action (moved_life of.kind) c.with_notice-planned.result c.in-Some.ensures
    (c.with_notice-planned.ensures plan
    (changes-there (plan_move s project of c.args.to.now) (row_in c.in-Some-row_of.old) (row_of s project of)
    c.in_ok-changes.changes c.in-Some-row_of.ensures (c.in_ok-changes.ensures project of))))
