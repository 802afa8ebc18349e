use Rattle.std.proofs.Common.{rules, of_calls}
use Rattle.std.proofs.lemmas.Fn.{always_returns_same}
use Rattle.row_readings.specs.Rising.{names_in}
use Rattle.row_readings.proofs.Risen.{found}
use Rattle.row_readings.proofs.SameNames.{order}
use Rattle.row_readings.proofs.places.place_named.Goals as goal

pub returns-clause-place : goal.returns-clause-place
returns-clause-place g c =
    let names = g.T.Named.names in
    let wanted = names_in c.args.names in
    found names wanted c.args.rows.now c.requires c.binary_search_by.result c.binary_search_by.ensures.bound
    (c.binary_search_by.ensures.position (λ row. order (names row) wanted) (always_returns_same _ _ _ (λ a r f called. search (rules, of_calls))))
