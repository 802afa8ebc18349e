use Rattle.std.proofs.Common.{ap, ◌∙◌, sym, arith, length-append}
use Rattle.record_keeper.specs.Entries.{after_change}
use Rattle.record_keeper.proofs.Ordered.{after_changes-push}
use Rattle.record_keeper.proofs.map_keeper.change_all.Goals as goal

pub loop-change-preserved : goal.loop-change-preserved
loop-change-preserved c =
    record {
      order = c.apply_change.ensures.order;
      items = c.apply_change.ensures.items ∙ ap (after_change c.in-Some.change) c.loop-change.invariant.items
          ∙ sym (after_changes-push c.loop-change.yielded c.in-Some.change c.args.entries.now.items);
      len = simp length-append (omega arith);
      capacity = omega arith;
    }
