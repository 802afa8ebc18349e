use Rattle.std.proofs.Common.{sym, ◌∙◌}
use Rattle.records.specs.declared.replies.Reply.TheVariants as reply
use Rattle.records.specs.declared.replies.View.TheVariants as view
use Rattle.rest_answers.proofs.Printing.{whole_printed}
use Rattle.rest_answers.proofs.answers.server_answer.Goals as goal

pub returns-clause-text : goal.returns-clause-text
returns-clause-text c = λ request stays by_get.
    c.ready.ensures ∙ c.server_text.ensures ∙ sym (whole_printed (reply.One view.Server) c.args.terms request stays by_get)

pub returns-clause-printed : goal.returns-clause-printed
returns-clause-printed c = λ none. none
