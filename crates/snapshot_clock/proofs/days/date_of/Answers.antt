use Rattle.std.proofs.Common.{pos, arith, ◌∙◌}
use Rattle.std.specs.Int.{w64}
use Rattle.std.proofs.lemmas.Int.{to_z_pos}
use Rattle.jiff.proofs.SpanFacts.{can_add-days}
use Rattle.snapshot_clock.proofs.Calendar.{day_fits, days_after}
use Rattle.snapshot_clock.proofs.days.date_of.Goals as goal

pub unreachable-requires : goal.unreachable-requires
unreachable-requires c =
    let only = rw (to_z_pos w64 c.args.day (omega (arith, c.requires))) at c.days.ensures in
    let can = can_add-days c.first_date.result (pos c.args.day) c.days.result only in
    let bad = c.in_default.ensures.succeeds.1 (can.1 (day_fits c.first_date.result c.args.day c.first_date.ensures c.requires)) in
    cc

pub returns : goal.returns
returns c =
    let only = rw (to_z_pos w64 c.args.day (omega (arith, c.requires))) at c.days.ensures in
    c.in-Ok.ensures.value ∙ days_after c.first_date.result c.args.day c.days.result c.first_date.ensures only
