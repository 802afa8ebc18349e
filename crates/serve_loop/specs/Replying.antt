-- How what a request asks for comes to its reply at a gate.
use Rattle.std.specs.Prelude.{◌≡◌, ◌⊎◌, List, [], Result, Err, Ok}
use Rattle.http_front.specs.Clocks.{Readings}
use Rattle.records.specs.declared.commands.Command.{Command}
use Rattle.records.specs.declared.replies.Reply.{Reply}
use Rattle.records.specs.declared.replies.Reply.TheVariants as reply
use Rattle.gates.specs.Chains.{Chain}
use Rattle.gates.specs.Gates.{Between, Seen}
use Rattle.gates.specs.History.{Item}
use Rattle.serve_loop.specs.Waits.{ServeBy, replied, command_world, unasked}

-- It asks for no command, and this is the reply as which it was read; or memory was refused before its command was
-- asked. No turn was made, the gate did not idle, and the clock was not read.
pub record IsUnasked (asks : Result Command Reply) (told : Readings) (history : List Item) (a_reply : Reply)
    (told' : Readings)
    : Type 0 where
  pub nothing : history ≡ []
  pub unread : told' ≡ told
  pub why : (a_reply ≡ reply.NoMemory) ⊎ (asks ≡ Err a_reply)

-- Its command was asked, and came to this reply. Each turn and idle of the history is the one that was due.
pub record IsAsked (asks : Result Command Reply) (told : Readings) (history : List Item) (reply : Reply)
    (told' : Readings) : Type 0 where
  pub command : Command
  pub is : asks ≡ Ok command
  pub due : Chain (ServeBy command) history (command_world unasked told) (command_world (replied reply) told')

-- What was asked for came to this reply by these turns and idles, between these readings of the clock.
abbrev pub Handles : Result Command Reply → Readings → List Item → Reply → Readings → Type 0
Handles asks told history reply told' = IsUnasked asks told history reply told' ⊎ IsAsked asks told history reply told'

-- between two moments of a gate and of a clock, what was asked for came to this reply
pub record Reaches (asks : Result Command Reply) (before after : Seen) (told told' : Readings) (reply : Reply)
    : Type 0 where
  pub history : List Item
  pub gate : Between history before after
  pub handles : Handles asks told history reply told'
