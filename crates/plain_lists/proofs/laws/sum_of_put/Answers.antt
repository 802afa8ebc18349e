use Rattle.plain_lists.proofs.PutsLemmas.{sum_by-Puts}
use Rattle.plain_lists.proofs.laws.sum_of_put.Goals as goal

pub returns : goal.returns
returns g c = λ f x xs ys p. sum_by-Puts f p
