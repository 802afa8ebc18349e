-- What one call of `read_request` answers, told of the bytes that were to come.
use Rattle.std.specs.Prelude.{◌≡◌, ℕ, ◌⊎◌, List, [], ◌∷◌, ◌++◌, length, Option, Some}
use Rattle.http_heads.specs.declared.request.Request.{Request}
use Rattle.http_heads.specs.Messages.{IsMessage, IsBlank, IsCut, IsMalformed, Ending, ended, cut, malformed}
use Rattle.http_front.specs.declared.read.Got.{Got}
use Rattle.http_front.specs.declared.read.Got.TheVariants as got

-- no message is whole here yet, and none is malformed
abbrev pub IsUnfinished : List ℕ → Type 0
IsUnfinished bytes = IsBlank bytes ⊎ IsCut bytes

-- What was answered of the bytes to come, which of them are still to come, and which of these are held.
abbrev pub ReadsNext : List ℕ → Option (List ℕ) → List ℕ → Got → Type 0
ReadsNext old new held (got.Request message) = (rest : List ℕ) × IsMessage old message rest × (new ≡ Some rest)
ReadsNext old new held got.End = IsBlank old × (new ≡ Some old) × (held ≡ old)
ReadsNext old new held (got.Cut n) = IsCut old × (new ≡ Some old) × (held ≡ old) × (n ≡ length old)
ReadsNext old new held (got.Malformed fault) = IsMalformed old fault × (new ≡ Some old)
ReadsNext old new held got.ReadFault = IsUnfinished held × (new ≡ Some old)
ReadsNext old new held got.NoMemory = new ≡ Some old

-- What was answered of the bytes held, over any source: they and some more bytes, which the source gave, are what is
-- held afterwards, and before it the message that was answered.
abbrev pub KeepsHeld : List ℕ → List ℕ → Got → Type 0
KeepsHeld old new (got.Request message) = (more : List ℕ) × IsMessage (old ++ more) message new
KeepsHeld old new got.End = (more : List ℕ) × (new ≡ old ++ more) × IsBlank new
KeepsHeld old new (got.Cut n) = (more : List ℕ) × (new ≡ old ++ more) × IsCut new × (n ≡ length new)
KeepsHeld old new (got.Malformed fault) = (more : List ℕ) × (new ≡ old ++ more) × IsMalformed new fault
KeepsHeld old new got.ReadFault = (more : List ℕ) × (new ≡ old ++ more) × IsUnfinished new
KeepsHeld old new got.NoMemory = (more : List ℕ) × (new ≡ old ++ more)

-- the fact, where a read failed
abbrev pub OnReadFault : Got → Type 0 → Type 0
OnReadFault got.ReadFault P = P
OnReadFault (got.Request message) P = Unit {0}
OnReadFault got.End P = Unit {0}
OnReadFault (got.Cut n) P = Unit {0}
OnReadFault (got.Malformed fault) P = Unit {0}
OnReadFault got.NoMemory P = Unit {0}

-- the fact, where the answer is that of a source that has ended
abbrev pub OnEnd : Got → Type 0 → Type 0
OnEnd got.End P = P
OnEnd (got.Cut n) P = P
OnEnd (got.Request message) P = Unit {0}
OnEnd (got.Malformed fault) P = Unit {0}
OnEnd got.ReadFault P = Unit {0}
OnEnd got.NoMemory P = Unit {0}

-- the answer that tells of this ending
abbrev pub answer_of : Ending → Got
answer_of ended = got.End
answer_of (cut n) = got.Cut n
answer_of (malformed fault) = got.Malformed fault

-- calls of `read_request`, one after the other, answer these messages of the bytes to come, and then this ending
abbrev pub Answers : List ℕ → List Request → Ending → Type 0
Answers bytes [] ending = (new : Option (List ℕ)) × (held : List ℕ) × ReadsNext bytes new held (answer_of ending)
Answers bytes (message ∷ messages) ending =
    (rest : List ℕ) × (held : List ℕ) × ReadsNext bytes (Some rest) held (got.Request message)
    × Answers rest messages ending
