-- Whether the client of the next request waits for leave before it sends the body.
use Rattle.std.specs.Prelude.{◌≡◌, ℕ, Bool, false, List, Some}
use Rattle.http_heads.specs.Fields.{leave_due}
use Rattle.http_heads.specs.Heads.{head_len}
use Rattle.http_heads.specs.Messages.{TellsLeave}
use Rattle.http_front.specs.declared.read.Got.{Got}
use Rattle.http_front.specs.declared.read.Got.TheVariants as got

-- a whole head is held, and so this is told whatever follows
pub record ToldLeave (refuses_origin : Bool) (bytes : List ℕ) (awaited : Bool) : Type 0 where
  pub len : ℕ
  pub ends : head_len bytes ≡ Some len
  pub tells : TellsLeave refuses_origin bytes awaited

-- Whether leave was due before this answer, after which these bytes are held: by the request that was answered, or by
-- the message that is held, of which maybe not even the head is whole. No message begins at the end, nor at a malformed
-- place.
abbrev pub LeaveFor : Bool → Got → List ℕ → Bool → Type 0
LeaveFor refuses (got.Request message) held awaited = leave_due refuses message.origin message.expects ≡ awaited
LeaveFor refuses got.End held awaited = awaited ≡ false
LeaveFor refuses (got.Cut n) held awaited = TellsLeave refuses held awaited
LeaveFor refuses (got.Malformed fault) held awaited = awaited ≡ false
LeaveFor refuses got.ReadFault held awaited = TellsLeave refuses held awaited
LeaveFor refuses got.NoMemory held awaited = TellsLeave refuses held awaited
