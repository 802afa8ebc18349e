use Rattle.client_run.proofs.RunLaws.{ends_well}
use Rattle.client_run.proofs.laws.good_runs_end_well.Goals as goal

pub returns : goal.returns
returns c = ends_well
