use Rattle.std.proofs.Common.{refl, inl}
use Rattle.serial_run.specs.Worlds.{inlet}
use Rattle.rest_answers.proofs.Linking.{unread}
use Rattle.serial_run.proofs.Turning.{turn_answers, turn_refuses}
use Rattle.serial_run.proofs.turn.turn.Goals as goal

pub returns-in-Request : goal.returns-in-Request
returns-in-Request g c =
    rw c.reuse.ensures (turn_answers _ _ _ _ _ c.in-Request.request c.answer-answered.result c.write_answer-comes.result (record {
      next = c.in-Request.ensures.next;
      held = c.in-Request.ensures.held;
      ahead = unread (inlet g.S.Source.left g.S.Source.ended g.S.Source.failures) _ _ _ c.in-Request.ensures.ahead;
      few = c.in-Request.ensures.few;
      later = c.in-Request.ensures.later;
      fault = c.in-Request.ensures.fault;
      ended = c.in-Request.ensures.ended;
    })
    c.answer-answered.ensures c.write_answer-comes.ensures c.go_on.ensures)

pub returns-in-End : goal.returns-in-End
returns-in-End g c = (
  (
    record {
      next = c.in-End.ensures.next;
      held = c.in-End.ensures.held;
      ahead = unread (inlet g.S.Source.left g.S.Source.ended g.S.Source.failures) _ _ _ c.in-End.ensures.ahead;
      few = c.in-End.ensures.few;
      later = c.in-End.ensures.later;
      fault = c.in-End.ensures.fault;
      ended = c.in-End.ensures.ended;
    },
    refl,
    refl,
  ),
  λ e. cc,
)

pub returns-in-Cut : goal.returns-in-Cut
returns-in-Cut g c = (
  (
    _,
    record {
      next = c.in-Cut.ensures.next;
      held = c.in-Cut.ensures.held;
      ahead = unread (inlet g.S.Source.left g.S.Source.ended g.S.Source.failures) _ _ _ c.in-Cut.ensures.ahead;
      few = c.in-Cut.ensures.few;
      later = c.in-Cut.ensures.later;
      fault = c.in-Cut.ensures.fault;
      ended = c.in-Cut.ensures.ended;
    },
    refl,
    refl,
  ),
  λ e. cc,
)

pub returns-in-Malformed : goal.returns-in-Malformed
returns-in-Malformed g c =
    turn_refuses _ c.args.pace _ _ c.in-Malformed.fault c.refuse.result (record {
      next = c.in-Malformed.ensures.next;
      held = c.in-Malformed.ensures.held;
      ahead = unread (inlet g.S.Source.left g.S.Source.ended g.S.Source.failures) _ _ _ c.in-Malformed.ensures.ahead;
      few = c.in-Malformed.ensures.few;
      later = c.in-Malformed.ensures.later;
      fault = c.in-Malformed.ensures.fault;
      ended = c.in-Malformed.ensures.ended;
    }) refl c.refuse.ensures

pub returns-in-ReadFault : goal.returns-in-ReadFault
returns-in-ReadFault g c = (
  (
    record {
      next = c.in-ReadFault.ensures.next;
      held = c.in-ReadFault.ensures.held;
      ahead = unread (inlet g.S.Source.left g.S.Source.ended g.S.Source.failures) _ _ _ c.in-ReadFault.ensures.ahead;
      few = c.in-ReadFault.ensures.few;
      later = c.in-ReadFault.ensures.later;
      fault = c.in-ReadFault.ensures.fault;
      ended = c.in-ReadFault.ensures.ended;
    },
    refl,
    refl,
  ),
  λ e. cc,
)

pub returns-in-NoMemory : goal.returns-in-NoMemory
returns-in-NoMemory g c = (
  inl (
    record {
      next = c.in-NoMemory.ensures.next;
      held = c.in-NoMemory.ensures.held;
      ahead = unread (inlet g.S.Source.left g.S.Source.ended g.S.Source.failures) _ _ _ c.in-NoMemory.ensures.ahead;
      few = c.in-NoMemory.ensures.few;
      later = c.in-NoMemory.ensures.later;
      fault = c.in-NoMemory.ensures.fault;
      ended = c.in-NoMemory.ensures.ended;
    },
    refl,
    refl,
  ),
  λ e. cc,
)
