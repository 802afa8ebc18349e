use Rattle.rest_bodies.proofs.FirstBad.{body_first_bad}
use Rattle.rest_bodies.proofs.laws.names_first_bad.Goals as goal

pub returns : goal.returns
returns c = body_first_bad
