use Rattle.std.proofs.Common.{◌≡◌}
use Rattle.serde_json.specs.View.{members_view}
use Rattle.client_steps.specs.Rows.{limit_rows}
use Rattle.client_steps.proofs.RowLemmas.{prepended}
use Rattle.client_steps.proofs.rows.limit_rows.Given as goal

-- the rows so far, and those that are left
abbrev pub invariant-loop-key : goal.invariant-loop-key
invariant-loop-key l =
    prepended l.rows (limit_rows (members_view l.key-iterator)) ≡ limit_rows (members_view l.members.entries)
