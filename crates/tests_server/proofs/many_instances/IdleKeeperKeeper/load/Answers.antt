use Rattle.record_keeper.proofs.Ordered.{ordered-none}
use Rattle.tests_server.proofs.many_instances.IdleKeeperKeeper.load.Goals as goal

pub returns-clause-ordered : goal.returns-clause-ordered
returns-clause-ordered c = ordered-none c.new.result c.new.ensures
