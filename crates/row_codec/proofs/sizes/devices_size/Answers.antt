use Rattle.std.proofs.Common.{length, ap, sym, ◌∙◌, arith, length-append}
use Rattle.config_lists.proofs.Walks.{take-read}
use Rattle.row_codec.specs.Spelling.{text_bytes, settings_bytes, device_bytes}
use Rattle.row_codec.specs.Sizes.{capped}
use Rattle.row_codec.proofs.Sums.{capped-fits, sum-more, sum-all}
use Rattle.row_codec.proofs.sizes.devices_size.Goals as goal

pub loop-place-init : goal.loop-place-init
loop-place-init c = capped-fits 4 (omega arith)

pub loop-place-preserved : goal.loop-place-preserved
loop-place-preserved c =
    let key = c.name_at.result.now in
    let value = c.device_at.result.now in
    sum-more device_bytes c.args.devices.now c.loop-place.place (key, value) c.loop-place.size c.add_capped-device.result c.add_capped-size.result
    (take-read c.args.devices.now c.loop-place.place key value c.name_at.ensures c.device_at.ensures)
    c.loop-place.invariant
    (c.add_capped-device.ensures (length (text_bytes key)) (length (settings_bytes value)) c.text_size.ensures c.settings_size.ensures ∙ ap capped (sym (length-append (text_bytes key) (settings_bytes value))))
    c.add_capped-size.ensures

pub returns : goal.returns
returns c = sum-all device_bytes c.args.devices.now c.loop-place.place c.loop-place.size (omega arith) c.loop-place.invariant
