use Rattle.std.proofs.Common.{sym, ap, is_some}
use Rattle.config_lists.proofs.Places.{value_of-at, value_of-gap, without-at, without-gap}
use Rattle.config_lists.proofs.Puts.{KeysRise-without}
use Rattle.config_lists.proofs.sorted.Sorted.remove.Goals as goal

pub returns-in_default-clause-after : goal.returns-in_default-clause-after
returns-in_default-clause-after g c = sym (without-gap c.args.key.now _ _ c.in_default.ensures.absent)

pub returns-in_default-clause-found : goal.returns-in_default-clause-found
returns-in_default-clause-found g c = ap is_some (sym (value_of-gap c.args.key.now _ _ c.in_default.ensures.absent))

pub invariant_of-self : goal.invariant_of-self
invariant_of-self g c =
    rw (c.remove.ensures.items, c.self.view_is, without-at c.args.key.now _ _ c.remove.result (rw c.self.view_is at c.self.invariant) c.in-Ok.ensures.found)
    (KeysRise-without c.args.key.now c.args.self.now (rw c.self.view_is at c.self.invariant))

pub returns-clause-after : goal.returns-clause-after
returns-clause-after g c =
    rw (c.remove.ensures.items, c.self.view_is) (without-at c.args.key.now _ _ c.remove.result (rw c.self.view_is at c.self.invariant) c.in-Ok.ensures.found)

pub returns-clause-found : goal.returns-clause-found
returns-clause-found g c =
    ap is_some (sym (value_of-at c.args.key.now _ _ c.remove.result (rw c.self.view_is at c.self.invariant) c.in-Ok.ensures.found))
