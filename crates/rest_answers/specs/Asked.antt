-- What a command can be answered.
use Rattle.std.specs.Prelude.{◌≢◌, ℕ, None}
use Rattle.records.specs.declared.commands.Command.{Command}
use Rattle.records.specs.declared.commands.What.TheVariants as what
use Rattle.records.specs.declared.replies.Reply.TheVariants as reply
use Rattle.row_machine.specs.declared.events.Answer.{Answer}
use Rattle.row_machine.specs.declared.events.Answer.TheVariants as answer
use Rattle.core_turns.specs.core_rows.specs.Asked.{answered}
use Rattle.rest_answers.specs.declared.asked.ReplyOrWait.{ReplyOrWait}
use Rattle.rest_answers.specs.declared.asked.ReplyOrWait.TheVariants as asked

-- The answers that a command can have: a reply, that it waits, or that memory was refused, which is no reply of its
-- own.
abbrev pub IsForClient : Answer → Type 0
IsForClient (answer.Reply a_reply) = a_reply ≢ reply.NoMemory
IsForClient (answer.Hold op) = Unit {0}
IsForClient answer.NoMemory = Unit {0}
IsForClient other = ⊥

-- the same without a wait
abbrev pub IsAtOnce : Answer → Type 0
IsAtOnce (answer.Reply a_reply) = a_reply ≢ reply.NoMemory
IsAtOnce answer.NoMemory = Unit {0}
IsAtOnce other = ⊥

-- the answer that this is
abbrev pub answer_of : ReplyOrWait → Answer
answer_of (asked.Reply reply) = answered reply
answer_of (asked.Hold op) = answer.Hold op

-- in the project of a command, an operation is asked for, which may have any tag
abbrev pub showing : ℕ → Command → Command
showing op command = record { project = command.project; what = what.GetOp op; expects = None }
