use Rattle.machine_laws.proofs.OpeningKept.{opening-whole}
use Rattle.machine_laws.proofs.openings.an_accepted_opening_is_whole.Goals as goal

pub returns : goal.returns
returns c = opening-whole
