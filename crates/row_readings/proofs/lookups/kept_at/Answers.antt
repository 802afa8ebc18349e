use Rattle.std.proofs.Common.{sym, ap, ◌∙◌}
use Rattle.std.specs.List.{find}
use Rattle.std.specs.Option.{option_copied, option_or}
use Rattle.std.proofs.lemmas.List.Folds.{find-append}
use Rattle.operations.specs.OperationTable.{has_number}
use Rattle.row_machine.specs.machine.State.{State}
use Rattle.row_readings.proofs.lookups.kept_at.Goals as goal

pub returns-in-Some : goal.returns-in-Some
returns-in-Some c =
    let s = c.args.view.now in
    ap (λ o. option_or o (find (has_number c.args.number) s.operations.ended)) (ap option_copied (sym c.in-Some.is) ∙ c.operation_numbered.ensures ∙ ap (λ (t : State). find (has_number c.args.number) t.operations.live) c.view.view_is)
    ∙ sym (find-append (has_number c.args.number) s.operations.live s.operations.ended)

pub returns-in-None : goal.returns-in-None
returns-in-None c =
    let s = c.args.view.now in
    c.operation_numbered-in-None.ensures ∙ ap (λ (t : State). find (has_number c.args.number) t.operations.ended) c.view.view_is
    ∙ ap (λ o. option_or o (find (has_number c.args.number) s.operations.ended)) (ap option_copied (sym c.in-None.is) ∙ c.operation_numbered.ensures ∙ ap (λ (t : State). find (has_number c.args.number) t.operations.live) c.view.view_is)
    ∙ sym (find-append (has_number c.args.number) s.operations.live s.operations.ended)
