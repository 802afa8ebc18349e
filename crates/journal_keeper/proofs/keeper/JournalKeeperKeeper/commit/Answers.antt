use Rattle.journal_keeper.proofs.keeper.JournalKeeperKeeper.commit.Goals as goal

pub returns-clause-failures : goal.returns-clause-failures
returns-clause-failures g c = rw (← c.self.view_is) (c.take_commit.ensures.failures c.self.inside.bad_loads)
