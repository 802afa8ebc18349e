use Rattle.client_replies.proofs.ListLemmas.{one_list}
use Rattle.client_replies.proofs.laws.one_list_of_replies.Goals as goal

pub returns : goal.returns
returns c = λ bytes ts us rest other h k e. one_list bytes rest other ts us h k e
