-- The test of UTF-8 answers what UTF-8 is.
use Rattle.std.proofs.Common.{◌≡◌, ℕ, Bool, true, false, List, refl}
use Rattle.std.specs.Str.{IsUtf8, is_utf8}
use Rattle.std.proofs.lemmas.Str.{IsUtf8-from_is_utf8, is_utf8-from_IsUtf8}

pub utf8_passes : (bytes : List ℕ) → IsUtf8 bytes → is_utf8 bytes ≡ true
utf8_passes = is_utf8-from_IsUtf8

pub other_fails : (bytes : List ℕ) → ¬ (IsUtf8 bytes) → is_utf8 bytes ≡ false
other_fails bytes other = by (is_utf8 bytes) refl
  where
    by : (b : Bool) → is_utf8 bytes ≡ b → b ≡ false
    by true is = absurd (other (IsUtf8-from_is_utf8 bytes is))
    by false is = refl
