use Rattle.gates.proofs.Answering.{for_taker}
use Rattle.serve_loop.proofs.Working.{takes}
use Rattle.serve_loop.proofs.worker.take_call.Goals as goal

pub post_after_take-requires : goal.post_after_take-requires
post_after_take-requires g c = for_taker _ _ c.turn-answer.ensures.may

pub returns : goal.returns
returns g c = λ host. takes host c.now-moment.ensures.reading c.now-moment.ensures.early c.turn-answer.ensures.contents
    c.turn-answer.ensures.turned c.turn-answer.ensures.idled c.post_after_take.ensures
