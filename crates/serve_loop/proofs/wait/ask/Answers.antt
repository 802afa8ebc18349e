use Rattle.std.proofs.Common.{sym, ◌∙◌, subst}
use Rattle.row_machine.specs.declared.events.Event.TheVariants as event
use Rattle.gates.specs.History.{MayAnswer}
use Rattle.gates.proofs.Walking.{walk-append}
use Rattle.serve_loop.proofs.CommandAnswers.{for_client, hold_waits}
use Rattle.serve_loop.proofs.Waiting.{asks, holds, replies}
use Rattle.serve_loop.proofs.wait.ask.Goals as goal

pub reply_or_wait_of-requires : goal.reply_or_wait_of-requires
reply_or_wait_of-requires g c = for_client _ _ _ c.turn-answer.ensures.may

pub returns-in-Reply : goal.returns-in-Reply
returns-in-Reply g c = asks c.args.command c.now-moment.ensures.reading c.now-moment.ensures.early
    c.turn-answer.ensures.contents c.turn-answer.ensures.turned c.turn-answer.ensures.idled
    (replies c.args.command _ c.in-Reply.reply _ (rw c.in-Reply.is at c.reply_or_wait_of.ensures))

pub hold-requires-clause-kept : goal.hold-requires-clause-kept
hold-requires-clause-kept g c = λ none. hold_waits c.args.command _ c.in-Hold.number
    (subst (MayAnswer (event.Ask c.args.command c.now-moment.result)) (sym (rw c.in-Hold.is at c.reply_or_wait_of.ensures))
    c.turn-answer.ensures.may)
    (sym c.requires.kept ∙ none)

pub returns-in-Hold : goal.returns-in-Hold
returns-in-Hold g c = walk-append
    (asks c.args.command c.now-moment.ensures.reading c.now-moment.ensures.early
    c.turn-answer.ensures.contents c.turn-answer.ensures.turned c.turn-answer.ensures.idled
    (holds c.args.command _ c.in-Hold.number _ (rw c.in-Hold.is at c.reply_or_wait_of.ensures)))
    (c.hold.ensures c.args.command c.requires.kept)
