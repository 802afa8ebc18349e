use Rattle.std.proofs.Common.{sym, subst}
use Rattle.row_readings.specs.Rising.{AreRising}
use Rattle.core_drafts.proofs.Risen.{rising-empty}
use Rattle.core_drafts.proofs.lists.Lists.of_rows.Goals as goal

pub fill_rows-requires : goal.fill_rows-requires
fill_rows-requires c = record { rises = subst AreRising (sym c.in_ok-lists.ensures.state) rising-empty }
