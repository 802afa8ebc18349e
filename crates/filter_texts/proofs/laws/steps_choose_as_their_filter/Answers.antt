use Rattle.filter_texts.proofs.Meanings.{filter_leaves, holds_for_filter}
use Rattle.filter_texts.proofs.laws.steps_choose_as_their_filter.Goals as goal

pub returns-clause-stack : goal.returns-clause-stack
returns-clause-stack c = filter_leaves

pub returns-clause-choice : goal.returns-clause-choice
returns-clause-choice c = holds_for_filter
