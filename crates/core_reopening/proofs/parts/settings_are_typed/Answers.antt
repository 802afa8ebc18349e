use Rattle.std.specs.Str.{IsUtf8}
use Rattle.config_lists.proofs.Walks.{take-read}
use Rattle.core_reopening.proofs.Typed.{all-next}
use Rattle.core_reopening.proofs.parts.settings_are_typed.Goals as goal

pub loop-place-preserved : goal.loop-place-preserved
loop-place-preserved c =
    let key = c.key_at.result.now in
    let value = c.value_at.result.now in
    all-next (λ s. IsUtf8 s.0 × IsUtf8 s.1) c.args.config.now c.loop-place.place (key, value)
    (take-read c.args.config.now c.loop-place.place key value c.key_at.ensures c.value_at.ensures)
    (c.string_is_utf8.ensures, c.string_is_utf8-in-loop-place.ensures) c.loop-place.invariant
