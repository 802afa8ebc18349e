use Rattle.std.proofs.Common.{◌≡◌, ◌∷◌, [], ◌∙◌, sym, subst, None}
use Rattle.plain_lists.specs.Firsts.{first}
use Rattle.size_values.specs.Causes.{Refuses}
use Rattle.row_machine.specs.machine.Rules.{names_broken}
use Rattle.row_machine.specs.machine.Rules.{standing_broken}
use Rattle.row_machine.specs.shown.Views.{read}
use Rattle.core_rows.specs.Planned.{Follows}
use Rattle.core_rows.proofs.Following.{follows-why}
use Rattle.core_objects.specs.Answers.{IsAnswer}
use Rattle.core_objects.proofs.ObjectChanges.{object-changes}
use Rattle.core_objects.proofs.FirstRules.{refuses-first, both-free}
use Rattle.core_objects.proofs.ReadSteps.{reads, read-free, read-follows}
use Rattle.core_objects.proofs.objects.do_object.Goals as goal

pub returns-in-Err : goal.returns-in-Err
returns-in-Err g c =
    let s = c.args.estate.now.state in
    let command = c.args.command.now in
    let store = g.R.Keeper.store c.args.keeper.now in
    subst (λ r. Follows s command c.args.moment s c.args.estate.now.untold r store store) (sym c.refused_reply.ensures)
    (follows-why s command c.args.moment c.args.estate.now.untold c.in-Err.why store
    (refuses-first s command c.args.moment c.in-Err.why
    (subst (λ t. Refuses c.in-Err.why (first (names_broken t command ∷ standing_broken t command ∷ []))) c.view.ensures.state c.in-Err.ensures))
    c.requires.quiet)

pub returns-then-is_read : goal.returns-then-is_read
returns-then-is_read g c =
    let s = c.args.estate.now.state in
    let command = c.args.command.now in
    let only = reads s command c.args.moment (sym c.is_read.ensures ∙ c.if-is_read.true) in
    let free = both-free s command (subst (λ t. first (names_broken t command ∷ standing_broken t command ∷ []) ≡ None) c.view.ensures.state c.in_default.ensures) in
    read-follows s command c.args.moment c.args.estate.now.untold (g.R.Keeper.store c.args.keeper.now) only (read-free s command c.args.moment only free)
    c.requires.quiet c.answer_read.result
    (subst (λ t. IsAnswer c.answer_read.result (read t command.project command.what)) c.view-then-is_read.ensures.state c.answer_read.ensures)

pub change_at_once-requires : goal.change_at_once-requires
change_at_once-requires g c =
    let s = c.args.estate.now.state in
    let command = c.args.command.now in
    let free = subst (λ t. first (names_broken t command ∷ standing_broken t command ∷ []) ≡ None) c.view.ensures.state c.in_default.ensures in
    record {
      quiet = c.requires.quiet;
      formed = c.requires.formed;
      moment = c.requires.moment;
      free = free;
      changes = object-changes s command c.args.moment c.requires.formed c.requires.command (sym c.is_read.ensures ∙ c.if-is_read.false) (both-free s command free).0;
    }
