use Rattle.client_replies.proofs.ReplyLemmas.{IsReply-append, IsMalformed-append}
use Rattle.client_replies.proofs.laws.bytes_behind_replies.Goals as goal

pub returns-clause-reply : goal.returns-clause-reply
returns-clause-reply c = λ bytes more t n a. IsReply-append more a

pub returns-clause-malformed : goal.returns-clause-malformed
returns-clause-malformed c = λ bytes more a. IsMalformed-append bytes more a
