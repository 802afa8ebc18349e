use Rattle.std.specs.Str.{IsUtf8}
use Rattle.config_lists.proofs.Walks.{take-read}
use Rattle.row_codec.specs.Parts.{AreTypedSettings}
use Rattle.core_reopening.proofs.Typed.{all-next}
use Rattle.core_reopening.proofs.parts.devices_are_typed.Goals as goal

pub loop-place-preserved : goal.loop-place-preserved
loop-place-preserved c =
    let name = c.name_at.result.now in
    let config = c.device_at.result.now in
    all-next (λ d. IsUtf8 d.0 × AreTypedSettings d.1) c.args.devices.now c.loop-place.place (name, config)
    (take-read c.args.devices.now c.loop-place.place name config c.name_at.ensures c.device_at.ensures)
    (c.string_is_utf8.ensures, c.settings_are_typed.ensures) c.loop-place.invariant
