use Rattle.std.proofs.Common.{rules}
use Rattle.command_words.proofs.Making.{adds_rule}
use Rattle.client_words.proofs.program.with_optional.Goals as goal

pub returns : goal.returns
returns c = adds_rule _ _ _ _ c.in_ok-arg.ensures (search rules) (search rules)
