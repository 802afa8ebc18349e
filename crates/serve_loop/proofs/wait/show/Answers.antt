use Rattle.serve_loop.proofs.CommandAnswers.{at_once}
use Rattle.serve_loop.proofs.Waiting.{shows}
use Rattle.serve_loop.proofs.wait.show.Goals as goal

pub reply_of-requires : goal.reply_of-requires
reply_of-requires g c = at_once _ _ _ _ c.turn-answer.ensures.may

pub returns : goal.returns
returns g c = λ command is. shows command is c.now-moment.ensures.reading c.now-moment.ensures.early
    c.turn-answer.ensures.contents c.turn-answer.ensures.turned c.turn-answer.ensures.idled c.reply_of.ensures
