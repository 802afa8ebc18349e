-- The parts of a session: what was done from one moment to another, and how it ended from there on.
use Rattle.std.specs.Prelude.{◌++◌, ◌≡◌, ℕ, List, ◌∷◌, []}
use Rattle.records.specs.declared.notices.Filter.{Filter}
use Rattle.row_machine.specs.declared.events.Answer.{Answer}
use Rattle.row_machine.specs.declared.events.Event.TheVariants as event
use Rattle.row_machine.specs.machine.Step.{Outcome}
use Rattle.rest_json.specs.declared.terms.Terms.{Terms}
use Rattle.gates.specs.Chains.{Chain}
use Rattle.gates.specs.Gates.{Between, Seen}
use Rattle.gates.specs.History.{turn}
use Rattle.gates.specs.rest_answers.specs.Links.{Inlet, Outlet, Takes}
use Rattle.gates.specs.rest_answers.specs.declared.writing.Written.{Written}
use Rattle.gates.specs.rest_answers.specs.declared.writing.Written.TheVariants as how
use Rattle.serve_loop.specs.ClientFrames.{Next, answer_at, answer_text, payload_at, rest_at}
use Rattle.serve_loop.specs.Sending.{Sends}
use Rattle.serve_loop.specs.declared.answering.FrameAnswer.{FrameAnswer}
use Rattle.serve_loop.specs.declared.answering.FrameAnswer.TheVariants as reply
use Rattle.serve_loop.specs.Sessions.{Doing, Ends, ListenAt, SessionStage, SourceBy, asking, hearing, items, looking}
use Rattle.serve_loop.specs.Sessions.{said_along}
use Rattle.serve_loop.specs.Sources.{Feed, Gives, HasEnded, HasFailed, LooksAt, broken, came, over, quiet}
use Rattle.serve_loop.specs.declared.listening.ListenState.{ListenState}
use Rattle.serve_loop.specs.declared.listening.ListenState.TheVariants as state
use Rattle.serve_loop.specs.declared.listening.SessionPost.{SessionPost}
use Rattle.serve_loop.specs.declared.listening.SessionPost.TheVariants as post
use Rattle.serve_loop.specs.declared.looking.Looked.{Looked}
use Rattle.serve_loop.specs.declared.looking.Looked.TheVariants as shown
use Rattle.serve_loop.specs.declared.session.SessionEnd.{SessionEnd}
use Rattle.serve_loop.specs.declared.session.SessionEnd.TheVariants as end

-- a session at one moment: where it stands, its source, its gate and its sink
pub record EventWorld : Type 0 where
  pub stage : SessionStage
  pub source : Feed
  pub gate : Seen
  pub sink : Outlet

abbrev pub event_world : SessionStage → Feed → Seen → Outlet → EventWorld
event_world stage source gate sink = record { stage = stage; source = source; gate = gate; sink = sink }

-- where a session stands that has this to do, and holds these bytes that came
abbrev pub stage_at : SessionPost → List ℕ → SessionStage
stage_at (post.Looking cursor) held = looking cursor held
stage_at (post.Hearing cursor) held = hearing cursor held
stage_at (post.Asking cursor) held = asking cursor held

-- the events of this filter were asked for once, from this number on
pub record Asks (filter : Filter) (cursor : ℕ) (answer : Answer) (before after : Seen) : Type 0 where
  pub outcome : Outcome
  pub gate : Between (turn (event.Fetch cursor filter) outcome answer ∷ []) before after

-- one read of a source, and the bytes that are held before and after it
abbrev pub Reads : Looked → Inlet → List ℕ → Inlet → List ℕ → Type 0
Reads shown.Quiet source held later held' = ⊥
Reads shown.Came source held later held' = (bytes : List ℕ) × Gives source bytes later × (held' ≡ held ++ bytes)
Reads shown.Over source held later held' = HasEnded source later × (held' ≡ held)
Reads shown.Broken source held later held' = HasFailed source later × (held' ≡ held)

-- one look at a source, and the bytes that are held before and after it
abbrev pub Looks : Looked → Feed → List ℕ → Feed → List ℕ → Type 0
Looks shown.Quiet source held later held' = LooksAt source quiet later × (held' ≡ held)
Looks shown.Came source held later held' = (bytes : List ℕ) × LooksAt source (came bytes) later × (held' ≡ held ++ bytes)
Looks shown.Over source held later held' = LooksAt source over later × (held' ≡ held)
Looks shown.Broken source held later held' = LooksAt source broken later × (held' ≡ held)

-- from one moment to another, this text that was still owed, and then what was said, was written
pub record Hears (terms : Terms) (filter : Filter) (owed : List ℕ) (listener later : EventWorld) : Type 0 where
  pub trail : List Doing
  pub due : Chain (ListenAt filter) trail listener.stage later.stage
  pub gate : Between (items trail) listener.gate later.gate
  pub read : Chain SourceBy trail listener.source later.source
  pub sent : Takes listener.sink later.sink (owed ++ said_along terms trail)

-- from this moment on, with this text still owed, a session ended so
pub record Leaves (terms : Terms) (filter : Filter) (owed : List ℕ) (listener : EventWorld) (source : Feed) (gate : Seen)
    (sink : Outlet) (ends : SessionEnd) : Type 0 where
  pub trail : List Doing
  pub stage : SessionStage
  pub due : Chain (ListenAt filter) trail listener.stage stage
  pub gate_is : Between (items trail) listener.gate gate
  pub read : Chain SourceBy trail listener.source source
  pub written : Ends ends stage listener.sink sink (owed ++ said_along terms trail)

-- from this moment on, a session goes on, or has ended
abbrev pub GoesOn : Terms → Filter → List ℕ → EventWorld → ListenState → List ℕ → Feed → Seen → Outlet → Type 0
GoesOn terms filter owed listener (state.At next) held source gate sink =
    Hears terms filter owed listener (event_world (stage_at next held) source gate sink)
GoesOn terms filter owed listener (state.Over ends) held source gate sink =
    Leaves terms filter owed listener source gate sink ends

-- what a session has to do next once it has written some text so
abbrev pub after_sending : Written → SessionPost → ListenState
after_sending how.Whole next = state.At next
after_sending how.WriteFault next = state.Over end.WriteFault
after_sending how.NoMemory next = state.Over end.NoMemory

-- how it ends once it has written its last text so
abbrev pub end_after_sending : Written → SessionEnd → SessionEnd
end_after_sending how.Whole ends = ends
end_after_sending how.WriteFault ends = end.WriteFault
end_after_sending how.NoMemory ends = end.NoMemory

-- what it has to do next once an answer to a frame was written so
abbrev pub post_after : Written → FrameAnswer → ℕ → ListenState
post_after written reply.Nothing cursor = after_sending written (post.Hearing cursor)
post_after written reply.Pong cursor = after_sending written (post.Hearing cursor)
post_after written (reply.Close code) cursor = state.Over (end_after_sending written (end.Closed code))

-- where an answer was written whole, what stood next is let go of
abbrev pub KeepsRest : Written → Next → List ℕ → List ℕ → Type 0
KeepsRest how.Whole next held held' = held' ≡ rest_at next held
KeepsRest how.WriteFault next held held' = Unit {0}
KeepsRest how.NoMemory next held held' = Unit {0}

-- what stood next was answered so
pub record Answered (next : Next) (cursor : ℕ) (goes : ListenState) (held held' : List ℕ) (sink sink' : Outlet)
    : Type 0 where
  pub written : Written
  pub sends : Sends written (answer_text (answer_at next) (payload_at next)) sink sink'
  pub goes_is : goes ≡ post_after written (answer_at next) cursor
  pub rest : KeepsRest written next held held'
