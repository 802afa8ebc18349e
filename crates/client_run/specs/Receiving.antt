-- What reading a reply does to the bytes that are held and those that the link has left.
use Rattle.std.specs.Prelude.{◌≡◌, ℕ, ◌≤◌, ◌⊎◌, Bool, List, ◌++◌, drop, Option, Result, Ok, Err}
use Rattle.std.specs.Io.KnownBytes.{Consumes}
use Rattle.http_front.specs.Held.{IsOver, max_piece}
use Rattle.size_values.specs.declared.memory.Or.{Or}
use Rattle.size_values.specs.declared.memory.Or.TheVariants as or
use Rattle.http_front.specs.declared.source.SourceFailed.{SourceFailed}
use Rattle.client_replies.specs.Forms.{Told}
use Rattle.client_replies.specs.Replies.{IsReply, HasBegun, IsMalformed}
use Rattle.client_run.specs.declared.receive.Stop.{Stop}
use Rattle.client_run.specs.declared.receive.Stop.TheVariants as stop

-- of len bytes those before start were used, and the piece has its length
pub record IsInbox (len start piece : ℕ) : Type 0 where
  pub used : start ≤ len
  pub whole : piece ≡ max_piece

-- the stop of a read that failed or wanted memory
abbrev pub read_stop : Or SourceFailed → Stop
read_stop or.NoMemory = stop.NoMemory
read_stop (or.Why failed) = stop.LinkFailed

-- the stops of a read
abbrev pub IsReadStop : Stop → Type 0
IsReadStop stop.Malformed = ⊥
IsReadStop stop.LinkFailed = Unit {0}
IsReadStop stop.NoMemory = Unit {0}

-- A reply of the bytes that were held and those that the link gave, and what is held behind it.
pub record TakesReply (old new : List ℕ) (left left' : Option (List ℕ)) (tells : Told) : Type 0 where
  pub more : List ℕ
  pub from : Consumes left left' more
  pub len : ℕ
  pub is : IsReply (old ++ more) tells len
  pub rest : new ≡ drop len (old ++ more)

-- what is held where no reply is read, and what the link says then
abbrev pub StopsAt : List ℕ → Bool → Option (List ℕ) → Stop → Type 0
StopsAt held ended left stop.Malformed = IsMalformed held ⊎ (HasBegun held × IsOver ended left)
StopsAt held ended left stop.LinkFailed = HasBegun held
StopsAt held ended left stop.NoMemory = Unit {0}

-- the fact, where the link failed
abbrev pub OnLinkFailed : {T : Type 0} → Result T Stop → Type 0 → Type 0
OnLinkFailed (Ok value) P = Unit {0}
OnLinkFailed (Err stop.LinkFailed) P = P
OnLinkFailed (Err stop.Malformed) P = Unit {0}
OnLinkFailed (Err stop.NoMemory) P = Unit {0}
