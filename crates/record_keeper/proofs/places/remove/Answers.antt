use Rattle.std.proofs.Common.{◌≡◌, subst, sym, ◌∙◌}
use Rattle.record_keeper.specs.Entries.{IsOrderedEntries, remove_entry}
use Rattle.record_keeper.proofs.Ordered.{removed-found, removed-none, ordered-remove}
use Rattle.record_keeper.proofs.places.remove.Goals as goal
use Rattle.record_keeper.proofs.places.remove.Goals.{After-remove-removed}

removed-is : (c : After-remove-removed) → c.remove-removed.new.self.items ≡ remove_entry c.args.kind c.args.key.now c.args.entries.now.items
removed-is c =
    c.remove-removed.ensures.items
    ∙ removed-found c.args.kind c.args.key.now c.args.entries.now.items c.in-Ok.index (rw c.deref.ensures.value at c.in-Ok.ensures)

pub returns-in-Ok-clause-items : goal.returns-in-Ok-clause-items
returns-in-Ok-clause-items c = removed-is (goal.at.returns-in-Ok-clause-items c).After-remove-removed

pub returns-in-Ok-clause-order : goal.returns-in-Ok-clause-order
returns-in-Ok-clause-order c =
    subst IsOrderedEntries (sym (removed-is (goal.at.returns-in-Ok-clause-order c).After-remove-removed)) (ordered-remove c.args.kind c.args.key.now c.args.entries.now.items c.requires)

pub returns-in-Err-clause-items : goal.returns-in-Err-clause-items
returns-in-Err-clause-items c =
    removed-none c.args.kind c.args.key.now c.args.entries.now.items c.in-Err.field-0 (rw c.deref.ensures.value at c.in-Err.ensures)
