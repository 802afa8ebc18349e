use Rattle.gates.proofs.Idling.{step-idles}
use Rattle.gates.proofs.alone.AloneGateGate.idle.Goals as goal

pub returns-clause-contents : goal.returns-clause-contents
returns-clause-contents g c = step-idles _ _ c.go_on-next.ensures.0 c.go_on-next.ensures.1
