use Rattle.serve_loop.proofs.link.write_reply.Goals as goal

pub returns : goal.returns
returns g c = record {
  answered = c.answer_for-answered.result;
  how = c.write_answer-written.result;
  text = c.answer_for-answered.ensures;
  writes = c.write_answer-written.ensures;
  next_is = c.turn_after.ensures;
}
