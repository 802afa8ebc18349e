use Rattle.gates.proofs.Telling.{may-answer-alone, turn-contents}
use Rattle.gates.proofs.alone.AloneGateGate.turn.Goals as goal

pub returns-clause-contents : goal.returns-clause-contents
returns-clause-contents g c = turn-contents c.turn-answer.ensures

pub returns-clause-may : goal.returns-clause-may
returns-clause-may g c = may-answer-alone c.facts_hold.ensures c.turn-answer.ensures
