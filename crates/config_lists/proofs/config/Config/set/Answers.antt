use Rattle.config_lists.specs.Settings.{IsFull}
use Rattle.config_lists.proofs.Puts.{All-tried_put}
use Rattle.config_lists.proofs.config.Config.set.Goals as goal

pub invariant_of-self : goal.invariant_of-self
invariant_of-self c =
    All-tried_put IsFull c.put.result _ _ c.args.key.now c.in_ok-value.value c.put.ensures.ok c.put.ensures.err c.self.invariant (c.requires.key, rw c.in_ok-value.ensures c.requires.value)
