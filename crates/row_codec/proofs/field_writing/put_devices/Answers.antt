use Rattle.std.proofs.Common.{List, ℕ, ◌++◌, ap, ◌∙◌, append_assoc, arith}
use Rattle.std.specs.Str.{IsUtf8}
use Rattle.config_lists.proofs.Walks.{take-read}
use Rattle.row_codec.specs.Parts.{IsShort, AreShortSettings, AreTypedSettings}
use Rattle.row_codec.specs.FieldSpelling.{text_bytes, settings_bytes, device_bytes}
use Rattle.row_codec.proofs.Written.{one_more, all_bytes, each_key, each_value}
use Rattle.row_codec.proofs.field_writing.put_devices.Goals as goal

pub put_text-requires : goal.put_text-requires
put_text-requires c = each_key (λ d. IsShort d.0 × AreShortSettings d.1) IsShort (λ d short. short.0) c.args.devices.now c.loop-place.place c.name_at.result.now c.requires.1 c.name_at.ensures

pub put_settings-requires : goal.put_settings-requires
put_settings-requires c = each_value (λ d. IsShort d.0 × AreShortSettings d.1) AreShortSettings (λ d short. short.1) c.args.devices.now c.loop-place.place c.device_at.result.now c.requires.1 c.device_at.ensures

pub loop-place-preserved : goal.loop-place-preserved
loop-place-preserved c =
    let name = c.name_at.result.now in
    let config = c.device_at.result.now in
    one_more device_bytes (λ d. IsUtf8 d.0 × AreTypedSettings d.1) c.args.out.now.items c.loop-place.out.items c.put_settings.new.out.items c.args.devices.now c.loop-place.place (name, config) c.loop-place.invariant
    (c.in_ok-put_settings.ensures.bytes ∙ ap (λ (t : List ℕ). t ++ settings_bytes config) c.in_ok-put_text.ensures.bytes ∙ append_assoc c.loop-place.out.items (text_bytes name) (settings_bytes config))
    (c.put_text.ensures.utf8, c.in_ok-put_settings.ensures.typed)
    (take-read c.args.devices.now c.loop-place.place name config c.name_at.ensures c.device_at.ensures)

pub returns-clause-bytes : goal.returns-clause-bytes
returns-clause-bytes c = all_bytes device_bytes (λ d. IsUtf8 d.0 × AreTypedSettings d.1) c.args.out.now.items c.loop-place.out.items c.args.devices.now c.loop-place.place (omega arith) c.loop-place.invariant
