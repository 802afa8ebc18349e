use Rattle.http_heads.proofs.MessageLemmas.{message_unique}
use Rattle.http_heads.proofs.laws.one_next_message.Goals as goal

pub returns : goal.returns
returns c = λ bytes m n rest other h k. message_unique h k
