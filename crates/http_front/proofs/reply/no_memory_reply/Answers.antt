use Rattle.std.proofs.Common.{refl}
use Rattle.std.specs.Fmt.{digits}
use Rattle.http_front.specs.Replies.{reply_text}
use Rattle.http_front.proofs.reply.no_memory_reply.Goals as goal

pub returns-then-last : goal.returns-then-last
unfolding reply_text digits
returns-then-last c = rw c.if-last.true refl

pub returns-else-last : goal.returns-else-last
unfolding reply_text digits
returns-else-last c = rw c.if-last.false refl
