use Rattle.std.proofs.Common.{rules, of_calls}
use Rattle.std.proofs.lemmas.Fn.{always_returns_same}
use Rattle.row_readings.specs.Rising.{comes_before}
use Rattle.row_readings.proofs.Ranges.{rows-before}
use Rattle.row_readings.proofs.places.first_at_or_after.Goals as goal

pub returns-clause-parts : goal.returns-clause-parts
returns-clause-parts g c =
    let names = g.T.Named.names in
    c.partition_point.ensures.partitioned (λ row. comes_before c.args.project.now (names row))
    (always_returns_same _ _ _ (λ a r f called. search (rules, of_calls)))
    (rows-before names c.args.project.now c.args.rows.now c.requires)
