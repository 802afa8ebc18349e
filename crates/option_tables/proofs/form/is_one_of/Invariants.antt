use Rattle.std.proofs.Common.{◌≡◌, map, drop}
use Rattle.option_tables.specs.Forms.{is_word}
use Rattle.option_tables.proofs.form.is_one_of.Given as goal

-- the word is among those that are left
abbrev pub invariant-loop-word : goal.invariant-loop-word
invariant-loop-word l = is_word (map (λ word. word.now) (drop l.word-index l.words)) l.value ≡ is_word (map (λ word. word.now) l.words) l.value
