use Rattle.std.proofs.Common.{◌≡◌, subst, sym, ap, ◌∙◌, None}
use Rattle.size_values.specs.declared.memory.Or.TheVariants as or
use Rattle.row_machine.specs.shown.Notices.{change_notices}
use Rattle.row_machine.specs.machine.Plans.{plan_of}
use Rattle.plans_objects.specs.Planning.{IsPlanned, changes_in}
use Rattle.core_rows.proofs.Following.{follows-why}
use Rattle.core_objects.proofs.FirstRules.{both-free}
use Rattle.core_objects.proofs.objects.change_at_once.Goals as goal

pub returns-in_default : goal.returns-in_default
returns-in_default g c =
    follows-why c.args.estate.now.state c.args.command.now c.args.moment c.args.estate.now.untold or.NoMemory (g.R.Keeper.store c.args.keeper.now) tt c.requires.quiet

pub unreachable-requires : goal.unreachable-requires
unreachable-requires g c =
    let command = c.args.command.now in
    let planned = subst (λ p. IsPlanned p (plan_of c.view.result command c.args.moment) (change_notices c.view.result command c.args.moment)) c.in-None.is c.in-Ok.ensures in
    absurd (c.requires.changes (subst (λ t. changes_in (plan_of t command c.args.moment) ≡ None) c.view.ensures.state planned))

pub change_rows-requires : goal.change_rows-requires
change_rows-requires g c =
    let s = c.args.estate.now.state in
    let command = c.args.command.now in
    let free = both-free s command c.requires.free in
    let planned = subst (λ p. IsPlanned p (plan_of c.view.result command c.args.moment) (change_notices c.view.result command c.args.moment)) c.in-Some.is c.in-Ok.ensures in
    record {
      quiet = c.requires.quiet;
      planned = record {
        formed = c.requires.formed;
        early = c.requires.moment;
        names = free.0;
        standing = free.1;
        plan = ap (λ t. plan_of t command c.args.moment) (sym c.view.ensures.state) ∙ planned.0;
        notice = ap (λ t. change_notices t command c.args.moment) (sym c.view.ensures.state) ∙ planned.1;
      };
    }
