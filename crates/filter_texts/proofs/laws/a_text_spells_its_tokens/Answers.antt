use Rattle.filter_texts.proofs.Spelled.{spells_tokens, only_tokens}
use Rattle.filter_texts.proofs.laws.a_text_spells_its_tokens.Goals as goal

pub returns-clause-spells : goal.returns-clause-spells
returns-clause-spells c = spells_tokens

pub returns-clause-only : goal.returns-clause-only
returns-clause-only c = only_tokens
