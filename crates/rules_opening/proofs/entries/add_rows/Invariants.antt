use Rattle.std.proofs.Common.{◌≡◌, drop}
use Rattle.row_machine.specs.opening.Opening.{rows_in}
use Rattle.rules_opening.proofs.Spelled.{after_rows}
use Rattle.rules_opening.proofs.entries.add_rows.Given as goal

-- the rows so far go before those of the entries that are left
abbrev pub invariant-loop-place : goal.invariant-loop-place
invariant-loop-place l = rows_in l.entries ≡ after_rows l.rows (rows_in (drop l.place l.entries))
