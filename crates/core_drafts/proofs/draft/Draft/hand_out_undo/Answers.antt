use Rattle.std.proofs.Common.{◌∙◌, ap}
use Rattle.core_drafts.specs.Background.{handed_at}
use Rattle.core_drafts.specs.Drafted.{Drafted}
use Rattle.core_drafts.specs.declared.calls.Handing.TheVariants as handing
use Rattle.row_machine.specs.machine.Operations.{with_task}
use Rattle.core_drafts.proofs.Settled.{settled_is}
use Rattle.core_drafts.proofs.draft.Draft.hand_out_undo.Goals as goal

pub returns-clause-state : goal.returns-clause-state
returns-clause-state c = λ call task gives.
    let handed = c.hand_out.ensures.state call task (ap (λ (d : Drafted). handed_at handing.Undo d.state.operations c.args.number) c.self.view_is ∙ gives) in
    (handed.0, handed.1 ∙ ap (λ (d : Drafted). with_task c.args.number task d.state) c.self.view_is)

pub invariant_of-self : goal.invariant_of-self
invariant_of-self c =
    settled_is _ (ap (λ (d : Drafted). d.log) c.self.view_is ∙ c.requires.settled)
    (c.hand_out.ensures.rises c.self.invariant.rises)
