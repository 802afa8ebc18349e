-- Which bells ring after a turn, by its event and its answer.
use Rattle.std.specs.Prelude.{true, false}
use Rattle.turnstile.specs.Bells.{no_rings}
use Rattle.turnstile.specs.declared.bells.Rings.{Rings}
use Rattle.records.specs.declared.commands.What.{What}
use Rattle.records.specs.declared.commands.What.TheVariants as what
use Rattle.records.specs.declared.replies.Reply.{Reply}
use Rattle.records.specs.declared.replies.Reply.TheVariants as reply
use Rattle.row_machine.specs.declared.events.Answer.{Answer}
use Rattle.row_machine.specs.declared.events.Answer.TheVariants as answer
use Rattle.row_machine.specs.declared.events.Event.{Event}
use Rattle.row_machine.specs.declared.events.Event.TheVariants as event
use Rattle.gates.specs.declared.bells.Purpose.{Purpose}
use Rattle.gates.specs.declared.bells.Purpose.TheVariants as purpose

-- ---- what a turn is for

abbrev pub purpose_of_command : What → Purpose
purpose_of_command (what.Cancel op) = purpose.Cancel
purpose_of_command other = purpose.Command

abbrev pub purpose_of : Event → Purpose
purpose_of (event.Ask command moment) = purpose_of_command command.what
purpose_of (event.Take moment) = purpose.Call
purpose_of (event.Done number report moment) = purpose.Report
purpose_of event.Close = purpose.Close
purpose_of other = purpose.Look

-- ---- bells

-- listeners may be told of something
abbrev pub tells : Rings
tells = record { events = true; ends = false; calls = false }

-- an operation may have ended, of which listeners are told
abbrev pub ends : Rings
ends = record { events = true; ends = true; calls = false }

-- an operation was begun, whose first call waits, and of which listeners are told
abbrev pub begins : Rings
begins = record { events = true; ends = false; calls = true }

-- those who wait for calls are to see that no more come
abbrev pub closes : Rings
closes = record { events = false; ends = false; calls = true }

-- after a command: where it changed rows or began an operation
abbrev pub rings_of_reply : Reply → Rings
rings_of_reply reply.Empty = tells
rings_of_reply (reply.Started view) = begins
rings_of_reply other = no_rings

-- What rings after an answer to a turn for this purpose. A read, a refusal and an answer that nothing is to be done ring
-- no bell.
abbrev pub rings_of : Purpose → Answer → Rings
rings_of purpose.Cancel (answer.Reply reply.Empty) = ends
rings_of purpose.Command (answer.Reply a_reply) = rings_of_reply a_reply
rings_of purpose.Call (answer.Job number call) = tells
rings_of purpose.Report (answer.Ended number) = ends
rings_of purpose.Close answer = closes
rings_of purpose answer = no_rings

abbrev pub rings_at : Event → Answer → Rings
rings_at event answer = rings_of (purpose_of event) answer
