use Rattle.machine_laws.proofs.Opening.{kept-open}
use Rattle.machine_laws.proofs.reopening.kept_rows_open.Goals as goal

pub returns : goal.returns
returns c = kept-open
