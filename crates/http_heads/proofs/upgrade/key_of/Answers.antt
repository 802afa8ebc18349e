use Rattle.std.proofs.Common.{sym, ◌∙◌}
use Rattle.http_heads.proofs.KeyLemmas.{IsUtf8-key}
use Rattle.http_heads.proofs.upgrade.key_of.Goals as goal

pub returns-then-is_key-clause-utf8 : goal.returns-then-is_key-clause-utf8
returns-then-is_key-clause-utf8 c = IsUtf8-key c.in-Some.value.now (sym c.is_key.ensures ∙ c.if-is_key.true)
