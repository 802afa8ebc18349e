use Rattle.std.proofs.Common.{List, ℕ, ◌++◌, ap, ◌∙◌, append_assoc, arith}
use Rattle.std.specs.Str.{IsUtf8}
use Rattle.config_lists.proofs.Walks.{take-read}
use Rattle.row_codec.specs.Parts.{IsShort}
use Rattle.row_codec.specs.FieldSpelling.{text_bytes, setting_bytes}
use Rattle.row_codec.proofs.Written.{one_more, all_bytes, each_key, each_value}
use Rattle.row_codec.proofs.field_writing.put_settings.Goals as goal

pub put_text-requires : goal.put_text-requires
put_text-requires c = each_key (λ s. IsShort s.0 × IsShort s.1) IsShort (λ s short. short.0) c.args.config.now c.loop-place.place c.key_at.result.now c.requires.1 c.key_at.ensures

pub put_text-requires-in-loop-place : goal.put_text-requires-in-loop-place
put_text-requires-in-loop-place c = each_value (λ s. IsShort s.0 × IsShort s.1) IsShort (λ s short. short.1) c.args.config.now c.loop-place.place c.value_at.result.now c.requires.1 c.value_at.ensures

pub loop-place-preserved : goal.loop-place-preserved
loop-place-preserved c =
    let key = c.key_at.result.now in
    let value = c.value_at.result.now in
    one_more setting_bytes (λ s. IsUtf8 s.0 × IsUtf8 s.1) c.args.out.now.items c.loop-place.out.items c.put_text-in-loop-place.new.out.items c.args.config.now c.loop-place.place (key, value) c.loop-place.invariant
    (c.in_ok-put_text-2.ensures.bytes ∙ ap (λ (t : List ℕ). t ++ text_bytes value) c.in_ok-put_text.ensures.bytes ∙ append_assoc c.loop-place.out.items (text_bytes key) (text_bytes value))
    (c.put_text.ensures.utf8, c.put_text-in-loop-place.ensures.utf8)
    (take-read c.args.config.now c.loop-place.place key value c.key_at.ensures c.value_at.ensures)

pub returns-clause-bytes : goal.returns-clause-bytes
returns-clause-bytes c = all_bytes setting_bytes (λ s. IsUtf8 s.0 × IsUtf8 s.1) c.args.out.now.items c.loop-place.out.items c.args.config.now c.loop-place.place (omega arith) c.loop-place.invariant
