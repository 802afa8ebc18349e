use Rattle.gates.proofs.Answering.{for_looker}
use Rattle.serve_loop.proofs.Waiting.{looks}
use Rattle.serve_loop.proofs.wait.look.Goals as goal

pub is_live-requires : goal.is_live-requires
is_live-requires g c = for_looker _ _ c.turn-answer.ensures.may

pub returns : goal.returns
returns g c = λ command deadline idles clock. looks command deadline idles clock _ c.turn-answer.ensures.contents
    c.turn-answer.ensures.turned c.turn-answer.ensures.idled c.is_live.ensures
