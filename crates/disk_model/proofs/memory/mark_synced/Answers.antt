use Rattle.std.proofs.Common.{◌≡◌, ◌<◌, Option, ℕ, length, ◌∙◌, ap, arith, get_or}
use Rattle.disk_model.specs.Memory.{synced_at}
use Rattle.disk_model.specs.declared.memory.Write.{Write}
use Rattle.disk_model.proofs.Mapped.{set_next}
use Rattle.disk_model.proofs.memory.mark_synced.Goals as goal

pub loop-write-preserved : goal.loop-write-preserved
loop-write-preserved c =
    let within : c.loop-write.write-index < length c.args.writes.now.items = omega (arith, c.loop-write-test.true, ap length c.deref_mut-write-items.ensures.value) in
    let old : Write = get_or c.loop-write.write-items c.loop-write.write-index c.write-item.result in
    set_next (synced_at c.args.moment) c.args.writes.now.items c.loop-write.write-items c.loop-write.write-index _ c.write-item.result within c.loop-write.invariant (ap (λ (s : Option ℕ). record old { synced = s }) c.or-write.ensures)
