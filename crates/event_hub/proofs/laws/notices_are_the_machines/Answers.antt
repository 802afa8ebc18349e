use Rattle.event_hub.proofs.Machines.{push-recent, since-recent}
use Rattle.event_hub.proofs.laws.notices_are_the_machines.Goals as goal

pub returns-clause-push : goal.returns-clause-push
returns-clause-push c = push-recent

pub returns-clause-since : goal.returns-clause-since
returns-clause-since c = since-recent
