use Rattle.command_words.proofs.Digits.{parsed_is, not_parsed}
use Rattle.command_words.proofs.numbers.parsed.Goals as goal

pub returns-in-Ok-clause-some : goal.returns-in-Ok-clause-some
returns-in-Ok-clause-some c =
    parsed_is c.args.text.now c.requires c.parse.result c.in-Ok.number c.in-Ok.is c.parse.ensures.value.0

pub returns-in-Err-clause-none : goal.returns-in-Err-clause-none
returns-in-Err-clause-none c = not_parsed c.args.text.now c.requires c.in-Err.field-0 c.in-Err.ensures.value.0
