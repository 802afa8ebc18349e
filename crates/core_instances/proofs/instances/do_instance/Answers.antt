use Rattle.std.proofs.Common.{◌≡◌, ◌∷◌, [], ◌∙◌, sym, subst, None}
use Rattle.plain_lists.specs.Firsts.{first}
use Rattle.size_values.specs.Causes.{Refuses}
use Rattle.row_machine.specs.machine.Rules.{names_broken, standing_broken}
use Rattle.row_machine.specs.shown.Views.{read}
use Rattle.core_objects.specs.core_rows.specs.Planned.{Follows}
use Rattle.core_objects.specs.core_rows.proofs.Following.{follows-why}
use Rattle.core_objects.specs.Answers.{IsAnswer}
use Rattle.core_objects.proofs.FirstRules.{refuses-first, both-free}
use Rattle.core_objects.proofs.ReadSteps.{read-free, read-follows}
use Rattle.core_instances.proofs.Reading.{reads}
use Rattle.core_instances.proofs.Changes.{cancels, changes-some}
use Rattle.core_instances.proofs.instances.do_instance.Goals as goal

pub returns-in-Err : goal.returns-in-Err
returns-in-Err g c =
    let s = c.args.estate.now.state in
    let command = c.args.command.now in
    let store = g.R.Keeper.store c.args.keeper.now in
    subst (λ r. Follows s command c.args.moment s c.args.estate.now.untold r store store) (sym c.refused_reply.ensures)
    (follows-why s command c.args.moment c.args.estate.now.untold c.in-Err.why store
    (refuses-first s command c.args.moment c.in-Err.why
    (subst (λ t. Refuses c.in-Err.why (first (names_broken t command ∷ standing_broken t command ∷ []))) c.view.ensures.state c.in-Err.ensures))
    c.requires.quiet)

pub returns-in-Read : goal.returns-in-Read
returns-in-Read g c =
    let s = c.args.estate.now.state in
    let command = c.args.command.now in
    let only = reads s command c.args.moment (sym c.way_of.ensures ∙ c.in-Read.is) c.requires.answered in
    let free = both-free s command (subst (λ t. first (names_broken t command ∷ standing_broken t command ∷ []) ≡ None) c.view.ensures.state c.in_default.ensures) in
    read-follows s command c.args.moment c.args.estate.now.untold (g.R.Keeper.store c.args.keeper.now) only (read-free s command c.args.moment only free)
    c.requires.quiet c.answer_read.result
    (subst (λ t. IsAnswer c.answer_read.result (read t command.project command.what)) c.view-in-Read.ensures.state c.answer_read.ensures)

pub cancel_operation-requires : goal.cancel_operation-requires
cancel_operation-requires g c =
    let command = c.args.command.now in
    let free = both-free c.args.estate.now.state command (subst (λ t. first (names_broken t command ∷ standing_broken t command ∷ []) ≡ None) c.view.ensures.state c.in_default.ensures) in
    record {
      quiet = c.requires.quiet;
      early = c.requires.moment;
      asked = cancels command.what c.in-Cancel.number (sym c.way_of.ensures ∙ c.in-Cancel.is);
      names = free.0;
      standing = free.1;
    }

pub returns-in-Cancel : goal.returns-in-Cancel
returns-in-Cancel g c = c.cancel_operation.ensures (g.R.Keeper.store c.args.keeper.now)

pub change_at_once-requires : goal.change_at_once-requires
change_at_once-requires g c =
    let s = c.args.estate.now.state in
    let command = c.args.command.now in
    let free = subst (λ t. first (names_broken t command ∷ standing_broken t command ∷ []) ≡ None) c.view.ensures.state c.in_default.ensures in
    record {
      quiet = c.requires.quiet;
      formed = c.requires.formed;
      moment = c.requires.moment;
      free = free;
      changes = changes-some s command c.args.moment c.requires.formed c.requires.command (sym c.way_of.ensures ∙ c.in-Change.is) (both-free s command free).0;
    }

pub begin_task-requires : goal.begin_task-requires
begin_task-requires g c =
    let command = c.args.command.now in
    record {
      quiet = c.requires.quiet;
      formed = c.requires.formed;
      moment = c.requires.moment;
      command = c.requires.command;
      begins = sym c.way_of.ensures ∙ c.in-Begin.is;
      free = subst (λ t. first (names_broken t command ∷ standing_broken t command ∷ []) ≡ None) c.view.ensures.state c.in_default.ensures;
    }

pub returns-in-Begin : goal.returns-in-Begin
returns-in-Begin g c = c.begin_task.ensures (g.R.Keeper.store c.args.keeper.now)
