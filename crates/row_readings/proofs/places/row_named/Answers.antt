use Rattle.std.proofs.Common.{sym, ap, ◌∙◌, Some}
use Rattle.plain_lists.proofs.Places.{find-at, none-position}
use Rattle.row_machine.specs.machine.Rows.{same_names}
use Rattle.row_readings.specs.Rising.{names_in}
use Rattle.row_readings.proofs.places.row_named.Goals as goal

pub returns-in-Ok : goal.returns-in-Ok
returns-in-Ok g c =
    let wanted = names_in c.args.names in
    let row = c.index-rows-place.result in
    ap (λ x. Some x) c.index-rows-place.is
    ∙ sym (find-at (λ other. same_names (g.T.Named.names other) wanted) c.args.rows.now c.in-Ok.place row (sym c.in-Ok.ensures.place))

pub returns-in-Err : goal.returns-in-Err
returns-in-Err g c =
    let wanted = names_in c.args.names in
    sym (none-position (λ other. same_names (g.T.Named.names other) wanted) c.args.rows.now (sym c.in-Err.ensures.place.0))
