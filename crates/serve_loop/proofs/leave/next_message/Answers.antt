use Rattle.std.proofs.Common.{false, refl}
use Rattle.http_front.proofs.LeaveLemmas.{leave-for, leave-none}
use Rattle.gates.specs.rest_answers.specs.Links.{inlet}
use Rattle.gates.specs.rest_answers.proofs.Linking.{unread}
use Rattle.serve_loop.proofs.Leaving.{reads_after, unread_both, unread_source}
use Rattle.serve_loop.proofs.leave.next_message.Goals as goal

pub returns-in-Ok-give_leave-clause-ok : goal.returns-in-Ok-give_leave-clause-ok
returns-in-Ok-give_leave-clause-ok g c = record {
  asked = reads_after c.args.buffer.now c.awaits_leave.new.buffer c.read_request.new.buffer _ _ _ c.read_request.result
      c.awaits_leave.ensures.takes
      (unread_both (inlet g.S.Source.left g.S.Source.ended g.S.Source.failures) _ _ _ _ _ c.awaits_leave.ensures.ahead)
      c.awaits_leave.ensures.later (record {
        next = c.read_request.ensures.next;
        held = c.read_request.ensures.held;
        ahead = unread (inlet g.S.Source.left g.S.Source.ended g.S.Source.failures) _ _ _ c.read_request.ensures.ahead;
        few = c.read_request.ensures.few;
        later = c.read_request.ensures.later;
        fault = c.read_request.ensures.fault;
        ended = c.read_request.ensures.ended;
      });
  awaited = c.in-Ok.awaited;
  due = leave-for c.args.refuses_origin c.awaits_leave.new.buffer c.read_request.new.buffer c.in-Ok.awaited c.read_request.result
      c.in-Ok.ensures.told c.read_request.ensures.held;
  gives = c.in-Ok-give_leave.ensures.ok;
}

pub returns-in-Err-clause-ok : goal.returns-in-Err-clause-ok
returns-in-Err-clause-ok g c = rw c.from.ensures (record {
  asked = record {
    next = c.in-Err.ensures.next;
    held = c.in-Err.ensures.held;
    ahead = unread_source (inlet g.S.Source.left g.S.Source.ended g.S.Source.failures) _ _ _ _ _ c.in-Err.ensures.ahead;
    few = c.in-Err.ensures.few;
    later = c.in-Err.ensures.later;
    fault = c.in-Err.ensures.fault;
    ended = c.in-Err.ensures.ended;
  };
  awaited = false;
  due = leave-none c.args.refuses_origin c.awaits_leave.new.buffer c.in-Err.stop c.in-Err.ensures.none;
  gives = refl;
})
