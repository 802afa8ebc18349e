use Rattle.std.proofs.Common.{IsSome, find, ◌∙◌, ap, sym, subst}
use Rattle.operations.specs.OperationTable.{live_at}
use Rattle.row_machine.specs.machine.State.{State}
use Rattle.row_machine.specs.machine.Operations.{is_held_by}
use Rattle.machine_laws.proofs.BooksSteps.{applied-same}
use Rattle.core_reports.proofs.success.make_success.Goals as goal

pub end-requires-clause-live : goal.end-requires-clause-live
end-requires-clause-live c =
    subst (λ k. IsSome (live_at k c.args.number))
    (sym
    (ap (λ (t : State). t.operations) (c.keep_changes.ensures.state ∙ c.apply.ensures.state)
    ∙ (applied-same c.args.changes c.args.draft.now.state).operations)) c.requires.live

pub convert-requires-clause-held : goal.convert-requires-clause-held
convert-requires-clause-held c =
    subst (λ held. IsSome (find (is_held_by c.args.number) held))
    (sym
    (ap (λ (t : State). t.held) c.end.ensures.state
    ∙ ap (λ (t : State). t.held) (c.keep_changes.ensures.state ∙ c.apply.ensures.state)
    ∙ (applied-same c.args.changes c.args.draft.now.state).held)) c.requires.held
