use Rattle.std.proofs.Common.{refl}
use Rattle.serial_run.proofs.Answering.{replied, held_back}
use Rattle.rest_answers.proofs.ForClients.{for_client}
use Rattle.serial_run.proofs.asking.carry_out.Goals as goal

pub reply_or_wait_of-requires : goal.reply_or_wait_of-requires
reply_or_wait_of-requires g c = for_client c.ask-answer.ensures.turn

pub returns-in-Reply : goal.returns-in-Reply
returns-in-Reply g c =
    replied c.in-Reply.reply (record {
      turn = c.ask-answer.ensures.turn;
      hand = c.ask-answer.ensures.hand;
      host = refl;
      read = c.now.ensures.reading;
      early = c.now.ensures.early;
    })
    (rw c.in-Reply.is at c.reply_or_wait_of.ensures)

pub returns-in-Hold : goal.returns-in-Hold
returns-in-Hold g c =
    held_back c.wait_for.ensures.0 c.show_operation.result
    (record {
      turn = c.ask-answer.ensures.turn;
      hand = c.ask-answer.ensures.hand;
      host = refl;
      read = c.now.ensures.reading;
      early = c.now.ensures.early;
    })
    (rw c.in-Hold.is at c.reply_or_wait_of.ensures) c.wait_for.ensures.1 c.wait_for.ensures.2 c.show_operation.ensures refl
