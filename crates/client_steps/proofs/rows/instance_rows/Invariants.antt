use Rattle.std.proofs.Common.{◌≡◌, drop}
use Rattle.serde_json.specs.View.{items_view}
use Rattle.client_steps.specs.Rows.{instance_rows}
use Rattle.client_steps.proofs.RowLemmas.{prepended}
use Rattle.client_steps.proofs.rows.instance_rows.Given as goal

-- the rows so far, and those that are left
abbrev pub invariant-loop-value : goal.invariant-loop-value
invariant-loop-value l =
    prepended l.rows (instance_rows (items_view (drop l.value-index l.values))) ≡ instance_rows (items_view l.values)
