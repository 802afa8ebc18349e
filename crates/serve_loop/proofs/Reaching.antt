-- How what a request asks for comes to its reply, from what the parts ensure.
use Rattle.std.proofs.Common.{◌≡◌, ◌⊎◌, [], refl}
use Rattle.std.proofs.Common.{inl, inr, Result, Ok, Err}
use Rattle.http_front.specs.Clocks.{Readings}
use Rattle.records.specs.declared.commands.Command.{Command}
use Rattle.records.specs.declared.replies.Reply.{Reply}
use Rattle.records.specs.declared.replies.Reply.TheVariants as reply
use Rattle.gates.specs.Gates.{Seen, Walk}
use Rattle.gates.proofs.Histories.{between-none}
use Rattle.serve_loop.specs.Replying.{Reaches}
use Rattle.serve_loop.specs.Waits.{ServeBy, replied, command_world, unasked}

-- a command that was asked
pub asked_reaches : {before after : Seen} {told told' : Readings} {r : Reply} (c : Command)
    → Walk (ServeBy c) before after (command_world unasked told) (command_world (replied r) told')
    → Reaches (Ok c) before after told told' r
asked_reaches c walk = record {
  history = walk.history;
  gate = walk.gate;
  handles = inr (record { command = c; is = refl; due = walk.due });
}

-- memory was refused before a command was asked
pub refused_memory : (asks : Result Command Reply) (s : Seen) (told : Readings)
    → Reaches asks s s told told reply.NoMemory
refused_memory asks s told = record {
  history = [];
  gate = between-none s;
  handles = inl (record { nothing = refl; unread = refl; why = inl refl });
}

-- a request that asks for no command, or memory was refused before that was known
pub unrouted : (asks : Result Command Reply) (said : Reply) (s : Seen) (told : Readings)
    → (said ≡ reply.NoMemory) ⊎ (asks ≡ Err said) → Reaches asks s s told told said
unrouted asks said s told why = record {
  history = [];
  gate = between-none s;
  handles = inl (record { nothing = refl; unread = refl; why = why });
}
