use Rattle.client_replies.proofs.ReplyLemmas.{one_reply, begun_reply, malformed_reply, begun_malformed}
use Rattle.client_replies.proofs.laws.one_reading_of_replies.Goals as goal

pub returns-clause-reply : goal.returns-clause-reply
returns-clause-reply c = λ bytes t u m n a b. one_reply a b

pub returns-clause-begun : goal.returns-clause-begun
returns-clause-begun c = λ bytes t n a b. begun_reply a b

pub returns-clause-malformed : goal.returns-clause-malformed
returns-clause-malformed c = λ bytes t n a b. malformed_reply a b

pub returns-clause-either : goal.returns-clause-either
returns-clause-either c = λ bytes a b. begun_malformed a b
