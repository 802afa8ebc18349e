use Rattle.std.proofs.lemmas.Result.{IfOk-from_err}
use Rattle.sqlite_keeper.proofs.keeper.SqliteKeeperKeeper.load.Goals as goal

pub returns-in-Err-clause-ordered : goal.returns-in-Err-clause-ordered
returns-in-Err-clause-ordered c = IfOk-from_err c.refused.result _ c.refused.ensures.err

pub returns-in-Err-clause-opens : goal.returns-in-Err-clause-opens
returns-in-Err-clause-opens c = IfOk-from_err c.refused.result _ c.refused.ensures.err
