use Rattle.serve_loop.proofs.SessionParts.{refuses}
use Rattle.serve_loop.proofs.hearing.refuse.Goals as goal

pub returns : goal.returns
returns g c = λ next held is same. refuses next held c.args.code c.args.cursor c.send_answer-written.result is same c.send_answer-written.ensures
    c.post_after.ensures
