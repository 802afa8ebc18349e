use Rattle.std.proofs.Common.{◌∙◌, ap}
use Rattle.core_drafts.specs.Background.{handed_at}
use Rattle.core_drafts.specs.Drafted.{Listed}
use Rattle.core_drafts.proofs.Backgrounds.{other-operations}
use Rattle.row_machine.specs.machine.Operations.{with_task}
use Rattle.core_drafts.proofs.lists.Lists.hand_out.Goals as goal

pub returns-clause-state : goal.returns-clause-state
returns-clause-state c = λ call task gives.
    let handed = c.hand_out.ensures.operations call task (ap (λ (x : Listed). handed_at c.args.which x.state.operations c.args.number) c.self.view_is ∙ gives) in (
      handed.0,
      other-operations c.self.inside c.hand_out.new.self _ handed.1 c.hand_out.ensures.held c.hand_out.ensures.books
          ∙ ap (λ (x : Listed). with_task c.args.number task x.state) c.self.view_is,
    )
