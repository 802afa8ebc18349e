use Rattle.std.proofs.Common.{rules, of_calls}
use Rattle.std.specs.Ordering.{is_lt}
use Rattle.std.proofs.lemmas.Fn.{always_returns_same}
use Rattle.row_readings.proofs.Risen.{rises-by}
use Rattle.row_readings.proofs.SameNames.{order}
use Rattle.row_readings.proofs.places.rises.Goals as goal

pub returns : goal.returns
returns g c =
    let names = g.T.Named.names in
    rises-by names c.args.rows.now c.is_sorted_by.result
    (c.is_sorted_by.ensures.cases (λ row next. is_lt (order (names row) (names next)))
    (always_returns_same _ _ _ (λ a r f called. search (rules, of_calls))))
