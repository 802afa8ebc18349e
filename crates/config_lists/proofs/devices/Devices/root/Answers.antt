use Rattle.std.proofs.Common.{ap, sym, ◌∙◌}
use Rattle.config_lists.specs.Devices.{and_one}
use Rattle.config_lists.proofs.Roots.{root_of-nil, root_of-next_root, root_of-next_other}
use Rattle.config_lists.proofs.devices.Devices.root.Goals as goal
use Rattle.config_lists.proofs.devices.Devices.root.Goals.{then-is_root_disk, else-is_root_disk}

pub loop-place-init : goal.loop-place-init
loop-place-init c = sym root_of-nil

pub loop-place-preserved : goal.loop-place-preserved
loop-place-preserved c = elim c.if-is_root_disk.branch [
  | then-is_root_disk w ↦
      w.root-is ∙ w.and_one-root.ensures ∙ ap (λ r. and_one r c.loop-place.place) c.loop-place.invariant
      ∙ sym (root_of-next_root c.args.self.now c.loop-place.place _ c.device_at.ensures (sym c.is_root_disk.ensures ∙ w.if-is_root_disk.true))
  | else-is_root_disk w ↦
      w.root-is ∙ c.loop-place.invariant
      ∙ sym (root_of-next_other c.args.self.now c.loop-place.place _ c.device_at.ensures (sym c.is_root_disk.ensures ∙ w.if-is_root_disk.false))
]
