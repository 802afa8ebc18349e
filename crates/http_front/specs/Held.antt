-- What a buffer keeps of its parts, and what reading does to what it holds.
use Rattle.std.specs.Prelude.{◌≡◌, ℕ, ◌+◌, ◌<◌, ◌≤◌, Bool, true, List, ◌++◌, length, Option, None, Result, Ok, Err}
use Rattle.std.specs.Io.KnownBytes.{Consumes, IsAtEnd}
use Rattle.http_heads.specs.Limits.{max_head, max_body}
use Rattle.size_values.specs.declared.memory.Or.{Or}
use Rattle.size_values.specs.declared.memory.Or.TheVariants as or
use Rattle.http_heads.specs.declared.request.Request.{Request}
use Rattle.http_heads.specs.declared.request.HeadFault.{HeadFault}
use Rattle.http_front.specs.declared.source.SourceFailed.{SourceFailed}
use Rattle.http_front.specs.declared.read.Got.{Got}
use Rattle.http_front.specs.declared.read.Got.TheVariants as got
use Rattle.http_heads.specs.Heads.{head_len}
use Rattle.http_heads.specs.Messages.{IsMessage, IsBlank, IsCut, IsMalformed}
use Rattle.http_front.specs.declared.read.Stop.{Stop}
use Rattle.http_front.specs.declared.read.Stop.TheVariants as stop
use Rattle.http_front.specs.Reading.{IsUnfinished}

-- the most bytes of one read
abbrev pub max_piece : ℕ
max_piece = 65536

-- the most bytes that a buffer holds: a head, a body, and what one read gives
abbrev pub most_held : ℕ
most_held = max_head + max_body + max_piece

-- Of len bytes those before start were used; the piece has its length, and there are no more bytes than that.
pub record IsBuffer (len start piece : ℕ) : Type 0 where
  pub used : start ≤ len
  pub whole : piece ≡ max_piece
  pub few : len ≤ most_held

-- the buffer took some bytes in after those that it held, and the source lost them
pub record TakesIn (old new : List ℕ) (left left' : Option (List ℕ)) : Type 0 where
  pub more : List ℕ
  pub grown : new ≡ old ++ more
  pub from : Consumes left left' more

-- the source has ended and has nothing left
pub record IsOver (has_ended : Bool) (left : Option (List ℕ)) : Type 0 where
  pub ended : has_ended ≡ true
  pub none : IsAtEnd left

-- no head is whole among these bytes, and one may still become whole
abbrev pub IsHeadAwaited : List ℕ → Type 0
IsHeadAwaited bytes = (head_len bytes ≡ None) × (length bytes < max_head)

-- the stop of a read that failed or wanted memory, and that of a head with a fault
abbrev pub read_stop : Or SourceFailed → Stop
read_stop or.NoMemory = stop.NoMemory
read_stop (or.Why failed) = stop.ReadFault

abbrev pub head_stop : Or HeadFault → Stop
head_stop or.NoMemory = stop.NoMemory
head_stop (or.Why fault) = stop.Malformed fault

-- the stop as an answer
abbrev pub got_of : Stop → Got
got_of stop.End = got.End
got_of (stop.Cut n) = got.Cut n
got_of (stop.Malformed fault) = got.Malformed fault
got_of stop.ReadFault = got.ReadFault
got_of stop.NoMemory = got.NoMemory

-- the stops of a read
abbrev pub IsReadStop : Stop → Type 0
IsReadStop stop.End = ⊥
IsReadStop (stop.Cut n) = ⊥
IsReadStop (stop.Malformed fault) = ⊥
IsReadStop stop.ReadFault = Unit {0}
IsReadStop stop.NoMemory = Unit {0}

-- what is held where no request is read, and what the source says then
abbrev pub Stops : List ℕ → Bool → Option (List ℕ) → Stop → Type 0
Stops held ended left stop.End = IsBlank held × IsOver ended left
Stops held ended left (stop.Cut n) = IsCut held × (n ≡ length held) × IsOver ended left
Stops held ended left (stop.Malformed fault) = IsMalformed held fault
Stops held ended left stop.ReadFault = IsUnfinished held
Stops held ended left stop.NoMemory = Unit {0}

-- what the end means for these bytes, in which no head is whole
abbrev pub EndsWith : List ℕ → Stop → Type 0
EndsWith bytes stop.End = IsBlank bytes
EndsWith bytes (stop.Cut n) = IsCut bytes × (n ≡ length bytes)
EndsWith bytes (stop.Malformed fault) = ⊥
EndsWith bytes stop.ReadFault = ⊥
EndsWith bytes stop.NoMemory = ⊥

-- the same while a body is read that goes to this place
abbrev pub StopsBefore : ℕ → List ℕ → Bool → Option (List ℕ) → Stop → Type 0
StopsBefore end held ended left stop.End = ⊥
StopsBefore end held ended left (stop.Cut n) = (length held < end) × (n ≡ length held) × IsOver ended left
StopsBefore end held ended left (stop.Malformed fault) = ⊥
StopsBefore end held ended left stop.ReadFault = length held < end
StopsBefore end held ended left stop.NoMemory = Unit {0}

-- the fact, where a read failed
abbrev pub OnFault : {T : Type 0} → Result T Stop → Type 0 → Type 0
OnFault (Ok value) P = Unit {0}
OnFault (Err stop.ReadFault) P = P
OnFault (Err stop.End) P = Unit {0}
OnFault (Err (stop.Cut n)) P = Unit {0}
OnFault (Err (stop.Malformed fault)) P = Unit {0}
OnFault (Err stop.NoMemory) P = Unit {0}

-- a request of the bytes that were held and those that were taken in, and what is held after it
pub record Takes (old new : List ℕ) (left left' : Option (List ℕ)) (message : Request) : Type 0 where
  pub more : List ℕ
  pub is : IsMessage (old ++ more) message new
  pub from : Consumes left left' more
