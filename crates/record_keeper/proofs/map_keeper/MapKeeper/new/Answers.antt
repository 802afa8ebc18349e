use Rattle.record_keeper.proofs.Ordered.{ordered-none}
use Rattle.record_keeper.proofs.map_keeper.MapKeeper.new.Goals as goal

pub invariant_of-result : goal.invariant_of-result
invariant_of-result c = ordered-none c.new.result.items c.new.ensures.items
