use Rattle.serve_loop.proofs.link.answer_request.Goals as goal

pub returns : goal.returns
returns g c = record {
  reply = c.reply_to-reply.result;
  reaches = c.reply_to-reply.ensures;
  written = c.write_reply.ensures;
}
