use Rattle.plain_lists.proofs.EditLemmas.{find-put, find-replaced}
use Rattle.plain_lists.proofs.laws.found_after_replaced.Goals as goal

pub returns-clause-own : goal.returns-clause-own
returns-clause-own g c = find-put

pub returns-clause-others : goal.returns-clause-others
returns-clause-others g c = λ p before q x xs fails apart. find-replaced p before q x xs fails apart
