-- Answers that take memory: what they are, and one made from another.
use Rattle.std.specs.Prelude.{◌≡◌, ◌⊎◌, Result, Ok, Err}
use Rattle.records.specs.declared.commands.Command.{Command}
use Rattle.records.specs.declared.replies.Reply.{Reply}
use Rattle.records.specs.declared.replies.Reply.TheVariants as reply
use Rattle.size_values.specs.declared.memory.Or.{Or}
use Rattle.size_values.specs.declared.memory.Or.TheVariants as or

-- a refusal is the one that is due, unless memory ran out
abbrev pub IsDue : {T E : Type 0} → Or E → Result T E → Type 0
IsDue or.NoMemory due = Unit {0}
IsDue (or.Why error) due = due ≡ Err error

-- what a function returned is what is due, unless memory ran out
abbrev pub Gives : {T E : Type 0} → Result T (Or E) → Result T E → Type 0
Gives (Ok value) due = due ≡ Ok value
Gives (Err error) due = IsDue error due

-- what a request was read as is what is due, or the reply that tells that there was no memory for it
abbrev pub Reads : Result Command Reply → Result Command Reply → Type 0
Reads (Ok command) due = due ≡ Ok command
Reads (Err said) due = (said ≡ reply.NoMemory) ⊎ (due ≡ Err said)

-- a refusal that was made is this one, unless memory ran out
abbrev pub IsRefused : {E : Type 0} → Or E → E → Type 0
IsRefused or.NoMemory refusal = Unit {0}
IsRefused (or.Why error) refusal = error ≡ refusal

-- an answer as f makes it; a refusal stays
abbrev pub mapped : {A B E : Type 0} → (A → B) → Result A E → Result B E
mapped f (Ok value) = Ok (f value)
mapped f (Err error) = Err error

-- the next answer, made from this one; a refusal stays
abbrev pub followed : {A B E : Type 0} → Result A E → (A → Result B E) → Result B E
followed (Ok value) f = f value
followed (Err error) f = Err error
