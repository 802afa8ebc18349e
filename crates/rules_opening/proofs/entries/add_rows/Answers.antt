use Rattle.rules_opening.proofs.Spelled.{spelled-first}
use Rattle.rules_opening.proofs.entries.add_rows.Goals as goal

pub returns-in-Err-Why : goal.returns-in-Err-Why
returns-in-Err-Why c =
    spelled-first c.loop-place.rows c.args.entries.now c.loop-place.place c.index-entries-place.result c.in-Err-Why.field-0-0
    c.loop-place-test.true c.index-entries-place.is c.loop-place.invariant (rw c.in-Err-Why.field-0-is at c.in-Err-Why.ensures)
