use Rattle.std.proofs.Common.{◌≡◌, ◌-◌, ◌≤◌, length}
use denote.Shadow.{shadow}
use denote.Text.{Utf8}
use Rattle.filter_texts.specs.Tokens.{tokens_from}
use Rattle.filter_texts.specs.Reading.{read_tokens, choice_read}
use Rattle.filter_texts.specs.Views.{state_of}
use Rattle.filter_texts.proofs.reading.read_choice.Given as goal

-- what is left of the text, read on from here, gives what the whole text gives
abbrev pub invariant-loop-rest : goal.invariant-loop-rest
invariant-loop-rest l = record {
  utf8 : shadow (Utf8 l.rest);
  within : length l.rest ≤ length l.text;
  same : read_tokens (length l.text) (state_of l.reader) (tokens_from 0 (length l.text - length l.rest) l.rest) ≡ choice_read l.text;
}

abbrev pub decreases-loop-rest : goal.decreases-loop-rest
decreases-loop-rest l = length l.rest
