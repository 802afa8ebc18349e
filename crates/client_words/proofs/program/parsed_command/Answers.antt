use Rattle.std.proofs.Common.{◌∙◌, ap}
use Rattle.clap.specs.Words.{is_simple_and_free}
use Rattle.client_words.proofs.Given.{client_given_any, free}
use Rattle.client_words.proofs.program.parsed_command.Goals as goal

pub parse_words-requires : goal.parse_words-requires
parse_words-requires c = ap is_simple_and_free c.in_ok-program.ensures ∙ free

pub returns : goal.returns
returns c = client_given_any _ _ c.parse_words.result c.in_ok-program.ensures c.parse_words.ensures.taken c.parse_words.ensures.given
