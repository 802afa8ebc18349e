use Rattle.record_keeper.proofs.Ordered.{ordered-put, ordered-remove}
use Rattle.record_keeper.proofs.laws.order_of_changes.Goals as goal

pub returns-clause-put : goal.returns-clause-put
returns-clause-put c = ordered-put

pub returns-clause-removal : goal.returns-clause-removal
returns-clause-removal c = ordered-remove
