use Rattle.std.proofs.Common.{◌∙◌, ap, List, ℕ}
use Rattle.std.specs.List.{prefix_len}
use Rattle.filter_texts.specs.Tokens.{is_word_byte}
use Rattle.filter_texts.proofs.Texts.{word_boundary}
use Rattle.filter_texts.proofs.token.front.Goals as goal

pub split_at-requires : goal.split_at-requires
split_at-requires c =
    word_boundary c.args.text.now c.word_len.result
    (c.word_len.ensures ∙ ap (λ (bytes : List ℕ). prefix_len is_word_byte bytes) c.as_bytes-in_default.ensures.value)
