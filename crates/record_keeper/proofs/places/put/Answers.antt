use Rattle.std.proofs.Common.{◌≡◌, subst, sym, ◌∙◌}
use Rattle.std.specs.List.{insert}
use Rattle.record_keeper.specs.Entries.{IsOrderedEntries, put_entry}
use Rattle.record_keeper.proofs.Ordered.{put-found, put-new, ordered-put}
use Rattle.record_keeper.proofs.places.put.Goals as goal

pub returns-in-Ok-clause-items : goal.returns-in-Ok-clause-items
returns-in-Ok-clause-items c = put-found c.args.entry c.args.entries.now.items c.in-Ok.index (rw (c.deref.ensures.value, c.deref-2.ensures, c.deref-3.ensures) at c.in-Ok.ensures)

pub returns-in-Ok-clause-order : goal.returns-in-Ok-clause-order
returns-in-Ok-clause-order c =
    subst IsOrderedEntries (sym (put-found c.args.entry c.args.entries.now.items c.in-Ok.index (rw (c.deref.ensures.value, c.deref-2.ensures, c.deref-3.ensures) at c.in-Ok.ensures)))
    (ordered-put c.args.entry c.args.entries.now.items c.requires.order)

put-is : (c : goal.Else-is_err) → c.insert.new.self.items ≡ put_entry c.args.entry c.args.entries.now.items
put-is c =
    let placed : insert c.args.entries.now.items c.in-Err.index c.args.entry ≡ put_entry c.args.entry c.args.entries.now.items =
    put-new c.args.entry c.args.entries.now.items c.in-Err.index (rw (c.deref.ensures.value, c.deref-2.ensures, c.deref-3.ensures) at c.in-Err.ensures) in
    let inserted : c.insert.new.self.items ≡ insert c.args.entries.now.items c.in-Err.index c.args.entry =
    simp (c.is_err.ensures.negation, c.if-is_err.false) at c.insert.ensures.items in
    inserted ∙ placed

pub returns-else-is_err-clause-items : goal.returns-else-is_err-clause-items
returns-else-is_err-clause-items c = put-is c

pub returns-else-is_err-clause-order : goal.returns-else-is_err-clause-order
returns-else-is_err-clause-order c = subst IsOrderedEntries (sym (put-is c)) (ordered-put c.args.entry c.args.entries.now.items c.requires.order)
