use Rattle.http_heads.proofs.MessageLemmas.{ending_message, ending_unique}
use Rattle.http_heads.proofs.laws.one_ending.Goals as goal

pub returns-clause-message : goal.returns-clause-message
returns-clause-message c = λ bytes ending m rest h k. ending_message bytes ending h k

pub returns-clause-one : goal.returns-clause-one
returns-clause-one c = ending_unique
