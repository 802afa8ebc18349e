use Rattle.filter_texts.proofs.Computed.{from_the_left, empty, too_early, too_much, two_tokens, unclosed, other_case, closed, deep, too_deep}
use Rattle.filter_texts.proofs.laws.filters_by_example.Goals as goal

pub returns-clause-from_the_left : goal.returns-clause-from_the_left
returns-clause-from_the_left c = from_the_left

pub returns-clause-empty : goal.returns-clause-empty
returns-clause-empty c = empty

pub returns-clause-too_early : goal.returns-clause-too_early
returns-clause-too_early c = too_early

pub returns-clause-too_much : goal.returns-clause-too_much
returns-clause-too_much c = too_much

pub returns-clause-two_tokens : goal.returns-clause-two_tokens
returns-clause-two_tokens c = two_tokens

pub returns-clause-unclosed : goal.returns-clause-unclosed
returns-clause-unclosed c = unclosed

pub returns-clause-other_case : goal.returns-clause-other_case
returns-clause-other_case c = other_case

pub returns-clause-closed : goal.returns-clause-closed
returns-clause-closed c = closed

pub returns-clause-deep : goal.returns-clause-deep
returns-clause-deep c = deep

pub returns-clause-too_deep : goal.returns-clause-too_deep
returns-clause-too_deep c = too_deep
