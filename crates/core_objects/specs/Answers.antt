-- What a read is answered.
use Rattle.std.specs.Prelude.{◌≡◌, Bool, true, false}
use Rattle.records.specs.declared.commands.What.{What}
use Rattle.records.specs.declared.commands.What.TheVariants as what
use Rattle.records.specs.declared.replies.Reply.{Reply}
use Rattle.records.specs.declared.replies.Reply.TheVariants as reply

-- whether a command only reads, and is answered at once
abbrev pub is_read : What → Bool
is_read what.Root = true
is_read what.Server = true
is_read (what.List of recursion) = true
is_read (what.Get of) = true
is_read (what.State of) = true
is_read (what.GetOp op) = true
is_read other = false

-- whether a command speaks of no row
abbrev pub speaks_of_no_row : What → Bool
speaks_of_no_row what.Root = true
speaks_of_no_row what.Server = true
speaks_of_no_row other = false

-- a reply is this answer, or that memory was refused
abbrev pub IsAnswer : Reply → Reply → Type 0
IsAnswer reply.NoMemory answer = Unit {0}
IsAnswer other answer = other ≡ answer
