use Rattle.gates.proofs.Answering.{for_reporter}
use Rattle.gates.proofs.laws.reports_are_answered.Goals as goal

pub returns : goal.returns
returns c = for_reporter
