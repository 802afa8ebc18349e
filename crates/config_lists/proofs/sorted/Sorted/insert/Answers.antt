use Rattle.config_lists.proofs.Places.{put-gap}
use Rattle.config_lists.proofs.Puts.{KeysRise-put}
use Rattle.config_lists.proofs.sorted.Sorted.insert.Goals as goal

pub invariant_of-self-2 : goal.invariant_of-self-2
invariant_of-self-2 g c =
    rw (c.in_ok-insert.ensures.items, c.self.view_is, c.in_ok-key.ensures, put-gap c.args.key.now _ _ c.args.value c.requires)
    (KeysRise-put c.args.key.now c.args.value c.args.self.now (rw c.self.view_is at c.self.invariant))

pub returns-clause-ok : goal.returns-clause-ok
returns-clause-ok g c =
    rw (c.in_ok-insert.ensures.items, c.self.view_is, c.in_ok-key.ensures) (put-gap c.args.key.now _ _ c.args.value c.requires)
