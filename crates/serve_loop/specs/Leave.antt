-- Leave to send a body (RFC 9110, section 10.1.1): it is given once the head of the request was read, and before the
-- body is.
use Rattle.std.specs.Prelude.{◌≡◌, ◌≤◌, ◌⊎◌, ℕ, List, [], Bool, true, false, length, codes}
use Rattle.http_heads.specs.Messages.{AwaitsLeave, TellsLeave}
use Rattle.http_heads.specs.declared.request.Request.{Request}
use Rattle.http_front.specs.Held.{TakesIn, most_held}
use Rattle.http_front.specs.Leave.{LeaveFor}
use Rattle.http_front.specs.Reading.{IsUnfinished}
use Rattle.http_front.specs.declared.read.Got.{Got}
use Rattle.gates.specs.rest_answers.specs.Links.{BreaksOff, Inlet, Outlet, ReadsFrom, Takes}

-- the text that gives leave (RFC 9110, section 15.2.1)
abbrev pub leave_text : List ℕ
leave_text = codes "HTTP/1.1 100 Continue\r\n\r\n"

-- what is written before a body is read: leave where it is awaited
abbrev pub leave_if : Bool → List ℕ
leave_if true = leave_text
leave_if false = []

abbrev pub leave_of : Request → List ℕ
leave_of request = leave_if request.expects

-- the sink took leave where it is awaited, and else it is as it was
abbrev pub GivesLeave : Bool → Outlet → Outlet → Type 0
GivesLeave true sink sink' = Takes sink sink' leave_text
GivesLeave false sink sink' = sink' ≡ sink

-- the same by the message that these bytes begin with, of which maybe not even the head is whole
pub record GivesLeaveAt (refuses_origin : Bool) (held : List ℕ) (sink sink' : Outlet) : Type 0 where
  pub awaited : Bool
  pub tells : TellsLeave refuses_origin held awaited
  pub gives : GivesLeave awaited sink sink'

-- leave for a request was given where it awaits it, and then the writing of this text failed
pub record BreaksReply (request : Request) (text : List ℕ) (sink sink' : Outlet) : Type 0 where
  pub between : Outlet
  pub gives : GivesLeave request.expects sink between
  pub breaks : BreaksOff between sink' text

-- The next message was asked for, and this was answered of it. Before its body was read the sink took leave where that
-- was awaited, but for a request that is to be refused for its `Origin`.
pub record AsksNext (refuses_origin : Bool) (held : List ℕ) (source : Inlet) (sink : Outlet) (answer : Got) (held' : List ℕ) (source' : Inlet)
    (sink' : Outlet) : Type 0 where
  pub asked : ReadsFrom held source answer held' source'
  pub awaited : Bool
  pub due : LeaveFor refuses_origin answer held' awaited
  pub gives : GivesLeave awaited sink sink'

-- A head was read whose client waits for leave, and the writing of leave failed. The head and what came with it is
-- held, and the source was read only where no message was whole.
pub record BreaksLeave (refuses_origin : Bool) (held : List ℕ) (source : Inlet) (sink : Outlet) (held' : List ℕ) (source' : Inlet)
    (sink' : Outlet) : Type 0 where
  pub takes : TakesIn held held' source.left source'.left
  pub ahead : ((source' ≡ source) × (held' ≡ held)) ⊎ IsUnfinished held
  pub few : length held' ≤ most_held
  pub later : source.failures ≤ source'.failures
  pub awaits : AwaitsLeave refuses_origin held'
  pub breaks : BreaksOff sink sink' leave_text
