use Rattle.precondition_laws.proofs.Digests.{same-body}
use Rattle.precondition_laws.proofs.laws.the_same_tag_is_the_same_body.Goals as goal

pub returns : goal.returns
returns c = same-body
