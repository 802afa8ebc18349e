use Rattle.std.proofs.Common.{◌≡◌, ℕ, ◌<◌, true, get_or}
use Rattle.filter_texts.specs.Tokens.{is_word_byte}
use Rattle.filter_texts.proofs.token.word_len.Given as goal

-- the bytes so far are of the word
abbrev pub invariant-loop-place : goal.invariant-loop-place
invariant-loop-place l = (k : ℕ) → k < l.place → is_word_byte (get_or l.text k 0) ≡ true
