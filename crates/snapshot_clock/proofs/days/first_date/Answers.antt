use Rattle.snapshot_clock.proofs.Calendar.{epoch}
use Rattle.snapshot_clock.proofs.days.first_date.Goals as goal

pub returns : goal.returns
returns c = epoch c.in-Ok.date c.in-Ok.ensures.value
