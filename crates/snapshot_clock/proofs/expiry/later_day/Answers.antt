use Rattle.std.proofs.Common.{◌∙◌, arith}
use Rattle.std.specs.Int.{w64}
use Rattle.std.proofs.lemmas.Int.{to_z_pos}
use Rattle.jiff_core.proofs.SignedLemmas.{signed_arith}
use Rattle.snapshot_clock.proofs.Calendar.{no_day, too_many, later_missed, later_found, later_same}
use Rattle.schedule_texts.specs.Expires.{later_day}
use Rattle.snapshot_clock.proofs.expiry.later_day.Goals as goal

pub returns-then-months-gt-MOST_MONTHS : goal.returns-then-months-gt-MOST_MONTHS
returns-then-months-gt-MOST_MONTHS c =
    no_day (later_day c.args.months c.args.day) (too_many c.args.day c.args.months c.if-months-gt-MOST_MONTHS.true)

pub returns-in_default : goal.returns-in_default
returns-in_default c =
    let only = rw (to_z_pos w64 c.args.months (omega arith)) at c.months.ensures in
    later_missed c.date_of.result c.args.day c.args.months c.months.result c.date_of.ensures only
    (λ can. let bad = c.in_default.ensures.succeeds.1 can in cc)

pub day_of-requires : goal.day_of-requires
day_of-requires c =
    let only = rw (to_z_pos w64 c.args.months (omega arith)) at c.months.ensures in
    let later = c.in-Ok.ensures.value ∙ later_same c.date_of.result c.args.day c.args.months c.months.result c.date_of.ensures only in
    omega (arith, signed_arith, later)

pub returns : goal.returns
returns c =
    let only = rw (to_z_pos w64 c.args.months (omega arith)) at c.months.ensures in
    later_found c.date_of.result c.in-Ok.date c.args.day c.args.months c.day_of.result c.months.result c.date_of.ensures only c.in-Ok.ensures.value c.day_of.ensures
