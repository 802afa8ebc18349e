use Rattle.serving.proofs.Beginning.{ended_then}
use Rattle.serving.proofs.links.admit.Goals as goal

pub returns-clause-begun : goal.returns-clause-begun
returns-clause-begun g c = ended_then c.take_ended.ensures.counts c.begin_or_turn_away.ensures.begun
