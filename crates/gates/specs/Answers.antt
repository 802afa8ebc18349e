-- The answers that the events of a gate can have.
use Rattle.row_machine.specs.declared.events.Answer.{Answer}
use Rattle.row_machine.specs.declared.events.Answer.TheVariants as answer

-- the answers to a look
abbrev pub IsForLooker : Answer → Type 0
IsForLooker (answer.NotYet number) = Unit {0}
IsForLooker (answer.Ended number) = Unit {0}
IsForLooker other = ⊥

-- the answers to a worker that asks for a call
abbrev pub IsForTaker : Answer → Type 0
IsForTaker (answer.Job number call) = Unit {0}
IsForTaker answer.NoJob = Unit {0}
IsForTaker answer.Closed = Unit {0}
IsForTaker other = ⊥

-- the answers to a report
abbrev pub IsForReporter : Answer → Type 0
IsForReporter (answer.Job number call) = Unit {0}
IsForReporter (answer.Ended number) = Unit {0}
IsForReporter (answer.Stray number) = Unit {0}
IsForReporter other = ⊥

-- the answers to a listener
abbrev pub IsForListener : Answer → Type 0
IsForListener (answer.Fetched fetched) = Unit {0}
IsForListener answer.NoMemory = Unit {0}
IsForListener other = ⊥
