use Rattle.core_totals.proofs.Renamed.{projects-alone}
use Rattle.core_totals.proofs.laws.projects_are_judged_alone.Goals as goal

pub returns : goal.returns
returns c = projects-alone
