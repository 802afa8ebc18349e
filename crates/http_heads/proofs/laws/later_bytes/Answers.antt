use Rattle.http_heads.proofs.MessageLemmas.{IsMessage-append, IsMalformed-append}
use Rattle.http_heads.proofs.laws.later_bytes.Goals as goal

pub returns-clause-message : goal.returns-clause-message
returns-clause-message c = λ bytes m rest more h. IsMessage-append more h

pub returns-clause-malformed : goal.returns-clause-malformed
returns-clause-malformed c = IsMalformed-append
