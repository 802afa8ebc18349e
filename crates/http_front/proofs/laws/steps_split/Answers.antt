use Rattle.http_front.proofs.StepLemmas.{steps_split}
use Rattle.http_front.proofs.laws.steps_split.Goals as goal

pub returns : goal.returns
returns c = steps_split
