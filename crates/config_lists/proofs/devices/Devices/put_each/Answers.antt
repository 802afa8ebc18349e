use Rattle.std.proofs.Common.{◌+◌, drop, ap, sym, ◌∙◌, arith}
use Rattle.config_lists.specs.Entries.{put, replaced}
use Rattle.config_lists.proofs.Walks.{replaced-next, replaced-all}
use Rattle.config_lists.proofs.devices.Devices.put_each.Goals as goal

pub loop-place-preserved : goal.loop-place-preserved
loop-place-preserved c =
    ap (λ es. replaced es (drop (c.loop-place.place + 1) c.args.by.now)) (c.in_ok-put.ensures.ok ∙ ap (put c.loop-place.self c.name_at-name.result.now) c.in_ok-device.ensures)
    ∙ sym (replaced-next c.loop-place.self c.args.by.now c.loop-place.place _ _ c.name_at-name.ensures c.device_at.ensures) ∙ c.loop-place.invariant

pub returns-clause-after : goal.returns-clause-after
returns-clause-after c = sym (replaced-all c.loop-place.self c.args.by.now c.loop-place.place (omega arith)) ∙ c.loop-place.invariant
