use Rattle.std.proofs.Common.{◌∙◌}
use Rattle.std.proofs.lemmas.Str.{IsUtf8-from_ascii}
use Rattle.http_heads.proofs.HeadLemmas.{taken-ascii}
use Rattle.http_heads.proofs.head.ascii_or_empty.Goals as goal

pub str_of-requires : goal.str_of-requires
str_of-requires c = IsUtf8-from_ascii c.args.value.now c.if-is_ascii.ensures.cases

pub returns-then-is_ascii : goal.returns-then-is_ascii
returns-then-is_ascii c = c.str_of.ensures ∙ taken-ascii c.args.value.now c.if-is_ascii.ensures.cases
