use Rattle.precondition_laws.proofs.Expected.{same-tag}
use Rattle.precondition_laws.proofs.laws.the_same_tag_expects_nothing_more.Goals as goal

pub returns : goal.returns
returns c = same-tag
