use Rattle.std.proofs.Common.{rules, of_calls}
use Rattle.std.proofs.lemmas.Fn.{always_returns_same}
use Rattle.row_readings.specs.Rising.{begins_with}
use Rattle.row_readings.proofs.Ranges.{all-left, rows-found}
use Rattle.row_readings.proofs.places.rows_of.Goals as goal

pub returns : goal.returns
returns g c =
    let names = g.T.Named.names in
    let project = c.args.project.now in
    let rows = c.args.rows.now in
    let from = c.first_at_or_after.result in
    rows-found names project rows c.requires from c.first_at_or_after.ensures.bound c.first_at_or_after.ensures.parts
    c.partition_point-count.result _ (all-left from rows) c.partition_point-count.ensures.bound
    (c.partition_point-count.ensures.partitioned (λ row. begins_with project (names row))
    (always_returns_same _ _ _ (λ a r f called. search (rules, of_calls))))
