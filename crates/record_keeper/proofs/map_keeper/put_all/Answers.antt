use Rattle.std.proofs.Common.{[]}
use Rattle.record_keeper.proofs.Ordered.{ordered-none, entries_put-more}
use Rattle.record_keeper.proofs.map_keeper.put_all.Goals as goal

pub loop-entry-init : goal.loop-entry-init
loop-entry-init c = record { order = ordered-none c.new-kept.result.items c.new-kept.ensures.items; items = c.new-kept.ensures.items }

pub loop-entry-preserved : goal.loop-entry-preserved
loop-entry-preserved c =
    let more = entries_put-more c.args.entries.now c.loop-entry.entry-index c.entry-item.result [] c.loop-entry-test.true in
    record { order = c.put.ensures.order; items = cc (more, c.in_ok-copy.ensures, c.in_ok-new.ensures, c.in_ok-reserve.ensures.items) }
