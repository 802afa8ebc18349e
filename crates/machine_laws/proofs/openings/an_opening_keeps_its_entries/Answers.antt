use Rattle.machine_laws.proofs.OpeningKept.{opening-entries}
use Rattle.machine_laws.proofs.openings.an_opening_keeps_its_entries.Goals as goal

pub returns : goal.returns
returns c = opening-entries
