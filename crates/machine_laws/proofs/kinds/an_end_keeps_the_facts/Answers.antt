use Rattle.machine_laws.proofs.ChangeKinds.{cancelled-keeps, failure-keeps, success-keeps}
use Rattle.machine_laws.proofs.kinds.an_end_keeps_the_facts.Goals as goal

pub returns-clause-cancelled : goal.returns-clause-cancelled
returns-clause-cancelled c = cancelled-keeps

pub returns-clause-failure : goal.returns-clause-failure
returns-clause-failure c = failure-keeps

pub returns-clause-success : goal.returns-clause-success
returns-clause-success c = success-keeps
