use Rattle.rest_answers.proofs.Cut.{lists_are_cut}
use Rattle.rest_answers.proofs.laws.filtered_lists_are_cut.Goals as goal

pub returns : goal.returns
returns c = lists_are_cut
