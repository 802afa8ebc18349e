use Rattle.std.proofs.Common.{◌≡◌, sym, subst, ap, ◌∙◌}
use Rattle.size_values.specs.declared.memory.Or.TheVariants as or
use Rattle.row_machine.specs.machine.Plans.{plan_of}
use Rattle.plans_tasks.specs.Begun.{task_in}
use Rattle.core_objects.specs.core_rows.proofs.Following.{follows-why}
use Rattle.core_objects.proofs.FirstRules.{both-free}
use Rattle.core_instances.proofs.Planned.{is-planned, plan-starts}
use Rattle.core_instances.proofs.Records.{begun-follows, to-start}
use Rattle.core_instances.proofs.beginning.begin_task.Goals as goal

pub returns-in_default : goal.returns-in_default
returns-in_default c = λ store.
    follows-why c.args.estate.now.state c.args.command.now c.args.moment c.args.estate.now.untold or.NoMemory store tt c.requires.quiet

pub unreachable-requires : goal.unreachable-requires
unreachable-requires c =
    let s = c.args.estate.now.state in
    let command = c.args.command.now in
    let none = sym (subst (λ w. w ≡ task_in (plan_of c.view.result command c.args.moment)) c.in-None.is c.in-Ok.ensures) in
    absurd (is-planned s command c.args.moment c.requires.formed c.requires.command c.requires.begins (both-free s command c.requires.free).0
    (ap (λ t. task_in (plan_of t command c.args.moment)) (sym c.view.ensures.state) ∙ none))

pub start-requires : goal.start-requires
start-requires c =
    let s = c.args.estate.now.state in
    let command = c.args.command.now in
    let some = sym (subst (λ w. w ≡ task_in (plan_of c.view.result command c.args.moment)) c.in-Some.is c.in-Ok.ensures) in
    let plan = plan-starts (plan_of s command c.args.moment) c.in-Some.work (ap (λ t. task_in (plan_of t command c.args.moment)) (sym c.view.ensures.state) ∙ some) in
    record {
      quiet = c.requires.quiet;
      planned = to-start s command c.args.moment c.in-Some.work c.requires.formed c.requires.moment c.requires.free plan;
    }

pub returns : goal.returns
returns c = λ store.
    let s = c.args.estate.now.state in
    let command = c.args.command.now in
    let some = sym (subst (λ w. w ≡ task_in (plan_of c.view.result command c.args.moment)) c.in-Some.is c.in-Ok.ensures) in
    let plan = plan-starts (plan_of s command c.args.moment) c.in-Some.work (ap (λ t. task_in (plan_of t command c.args.moment)) (sym c.view.ensures.state) ∙ some) in
    begun-follows s command c.args.moment c.in-Some.work plan c.start.new.self.state c.start.new.self.untold c.start.result store (c.start.ensures store)
