use Rattle.client_replies.proofs.ReplyLemmas.{part_of_reply}
use Rattle.client_replies.proofs.laws.parts_of_replies.Goals as goal

pub returns : goal.returns
returns c = λ bytes t len n a part. part_of_reply n a part
