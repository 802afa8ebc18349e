use Rattle.std.proofs.Common.{sym, arith}
use Rattle.std.proofs.lemmas.List.Sums.{prefix_len_is}
use Rattle.filter_texts.specs.Tokens.{is_word_byte}
use Rattle.filter_texts.proofs.token.word_len.Goals as goal

pub returns-then-not-is_word_byte : goal.returns-then-not-is_word_byte
returns-then-not-is_word_byte c =
    let stops = sym c.if-not-is_word_byte.ensures in
    sym (prefix_len_is is_word_byte c.args.text.now c.loop-place.place 0 (omega arith) c.loop-place.invariant (λ less. stops))

pub returns : goal.returns
returns c =
    sym (prefix_len_is is_word_byte c.args.text.now _ 0 (omega arith) (λ k less. c.loop-place.invariant k (omega arith)) (λ less. absurd (omega arith)))
