use Rattle.http_front.proofs.StepLemmas.{answers_agree}
use Rattle.http_front.proofs.laws.pieces_agree.Goals as goal

pub returns : goal.returns
returns c = answers_agree
