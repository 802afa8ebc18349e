use Rattle.rest_answers.proofs.answers.print_malformed.Goals as goal

pub returns : goal.returns
returns c = rw (c.refusal_of.ensures, c.no_terms.ensures) at c.whole_text-text.ensures
