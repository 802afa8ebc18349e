use Rattle.std.proofs.Common.{◌∙◌, List, ap, sym, Option}
use Rattle.serde_json.specs.View.{members_view, view}
use Rattle.client_steps.specs.Rows.{before, both_as, limit_row, limit_rows}
use Rattle.client_steps.specs.declared.cells.Cells.{Cells}
use Rattle.client_steps.proofs.RowLemmas.{prepended, prepended-next}
use Rattle.client_steps.proofs.rows.limit_rows.Goals as goal

pub loop-key-preserved : goal.loop-key-preserved
loop-key-preserved c =
    let more : Option (List Cells) = limit_rows (members_view c.next.new.self) in
    let said = sym c.in-Some-2.is ∙ c.in_ok-row.ensures
    ∙ ap (λ key. limit_row key (view c.in-Some.value.now)) c.deref.ensures in
    ap (λ rows. prepended rows more) c.in_ok-push-in-Some-2.ensures.ok
    ∙ prepended-next c.loop-key.rows c.in-Some-2.row more
    ∙ ap (λ (row : Option Cells). prepended c.loop-key.rows (both_as before row more)) said
    ∙ ap (λ entries. prepended c.loop-key.rows (limit_rows (members_view entries))) (sym c.in-Some.ensures.steps)
    ∙ c.loop-key.invariant
