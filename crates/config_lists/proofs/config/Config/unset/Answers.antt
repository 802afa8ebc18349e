use Rattle.config_lists.specs.Settings.{IsFull}
use Rattle.config_lists.proofs.Puts.{All-without}
use Rattle.config_lists.proofs.config.Config.unset.Goals as goal

pub invariant_of-self : goal.invariant_of-self
invariant_of-self c = rw c.remove.ensures.after (All-without IsFull _ _ c.self.invariant)
