-- A session of events. It asks for the events of a filter, first from the next one on, and then from where it stands. It
-- sends each event that it got, in order, and idles once where there is none. Before it asks again it looks once whether
-- something came from its client, and answers each frame that did.
use Rattle.std.specs.Prelude.{◌≡◌, ◌≤◌, ◌++◌, ℕ, List, [], ◌∷◌}
use Rattle.std.specs.List.{flat_map}
use Rattle.std.specs.Io.KnownBytes.{Appends}
use Rattle.size_values.specs.Causes.{Rose}
use Rattle.records.specs.declared.notices.Filter.{Filter}
use Rattle.records.specs.declared.notices.Notice.{Notice}
use Rattle.row_machine.specs.declared.events.Answer.{Answer}
use Rattle.row_machine.specs.declared.events.Answer.TheVariants as answer
use Rattle.row_machine.specs.declared.events.Event.TheVariants as event
use Rattle.row_machine.specs.declared.events.Fetched.{Fetched}
use Rattle.row_machine.specs.declared.events.Fetched.TheVariants as fetched
use Rattle.rest_json.specs.declared.terms.Terms.{Terms}
use Rattle.gates.specs.Chains.{Chain}
use Rattle.gates.specs.Gates.{Between, Seen}
use Rattle.gates.specs.History.{Item, idle, turn}
use Rattle.gates.specs.rest_answers.specs.Links.{Outlet, Takes}
use Rattle.rest_replies.specs.Notices.{notice_text}
use Rattle.serve_loop.specs.ClientFrames.{Next, answer_at, answer_text, malformed, next_in, payload_at, too_long}
use Rattle.serve_loop.specs.ClientFrames.{unfinished, whole}
use Rattle.serve_loop.specs.Frames.{accepting_head, away_frame, lagged_frame, text_frame}
use Rattle.serve_loop.specs.Sources.{Feed, Look, LooksAt, broken, came, over, quiet}
use Rattle.serve_loop.specs.declared.answering.FrameAnswer.{FrameAnswer}
use Rattle.serve_loop.specs.declared.answering.FrameAnswer.TheVariants as reply
use Rattle.serve_loop.specs.declared.session.SessionEnd.{SessionEnd}
use Rattle.serve_loop.specs.declared.session.SessionEnd.TheVariants as end

-- ---- what is done

-- What is done in a session: a turn or an idle at the gate; a look at the source; or what stands next among the bytes
-- that came is heard.
pub data Doing : Type 0 where
  at_gate : Item → Doing
  looked : Look → Doing
  heard : Next → Doing

abbrev pub item_of : Doing → List Item
item_of (at_gate item) = item ∷ []
item_of (looked look) = []
item_of (heard next) = []

-- what was done at the gate, in its order
abbrev pub items : List Doing → List Item
items trail = flat_map item_of trail

-- ---- where a session stands

-- Where a session stands, which is to get the events from this number on and holds these bytes that came: it is to look
-- at its source, to hear what came, to ask for events, or to idle; or it has ended.
pub data SessionStage : Type 0 where
  looking : ℕ → List ℕ → SessionStage
  hearing : ℕ → List ℕ → SessionStage
  asking : ℕ → List ℕ → SessionStage
  idling : ℕ → List ℕ → SessionStage
  ended : SessionEnd → SessionStage

-- after it got these events
abbrev pub after_notices : List Notice → ℕ → List ℕ → SessionStage
after_notices [] next held = idling next held
after_notices (notice ∷ more) next held = looking next held

abbrev pub after_fetched : Fetched → List ℕ → SessionStage
after_fetched (fetched.Notices notices next) held = after_notices notices next held
after_fetched (fetched.Lagged cursor oldest) held = ended (end.Lagged cursor oldest)

-- after this answer
abbrev pub Brings : Answer → List ℕ → SessionStage → Type 0
Brings (answer.Fetched got) held stage = stage ≡ after_fetched got held
Brings answer.NoMemory held stage = stage ≡ ended end.NoMemory
Brings other held stage = ⊥

-- after a look at the source
abbrev pub after_look : ℕ → List ℕ → Look → SessionStage
after_look cursor held quiet = asking cursor held
after_look cursor held (came bytes) = hearing cursor (held ++ bytes)
after_look cursor held over = ended end.Ended
after_look cursor held broken = ended end.ReadFault

-- after an answer to a frame: a close is the end
abbrev pub after_answer : ℕ → List ℕ → FrameAnswer → SessionStage
after_answer cursor rest reply.Nothing = hearing cursor rest
after_answer cursor rest reply.Pong = hearing cursor rest
after_answer cursor rest (reply.Close code) = ended (end.Closed code)

-- after it heard what stands next
abbrev pub after_next : ℕ → List ℕ → Next → SessionStage
after_next cursor held unfinished = asking cursor held
after_next cursor held (whole header payload rest) = after_answer cursor rest (answer_at (whole header payload rest))
after_next cursor held malformed = after_answer cursor held (answer_at malformed)
after_next cursor held too_long = after_answer cursor held (answer_at too_long)

-- what is done in a session where it stands
abbrev pub ListenAt : Filter → SessionStage → Doing → SessionStage → Type 0
ListenAt filter (asking cursor held) (at_gate (turn an_event outcome answer)) later =
    (an_event ≡ event.Fetch cursor filter) × Brings answer held later
ListenAt filter (idling next held) (at_gate (idle is_up events)) later = later ≡ looking next held
ListenAt filter (looking cursor held) (looked look) later = later ≡ after_look cursor held look
ListenAt filter (hearing cursor held) (heard next) later = (next ≡ next_in held) × (later ≡ after_next cursor held next)
ListenAt filter other doing later = ⊥

-- a look goes from what is seen of the source to what is seen of it then, and nothing else touches it
abbrev pub SourceBy : Feed → Doing → Feed → Type 0
SourceBy source (looked look) later = LooksAt source look later
SourceBy source (at_gate item) later = later ≡ source
SourceBy source (heard next) later = later ≡ source

-- ---- what is written

-- events as frames, in their order
abbrev pub frames_of : Terms → List Notice → List ℕ
frames_of terms notices = flat_map (λ notice. text_frame (notice_text notice terms)) notices

-- each event that was got, or the close of a session that lags
abbrev pub fetched_text : Terms → Fetched → List ℕ
fetched_text terms (fetched.Notices notices next) = frames_of terms notices
fetched_text terms (fetched.Lagged cursor oldest) = lagged_frame

abbrev pub told_text : Terms → Answer → List ℕ
told_text terms (answer.Fetched got) = fetched_text terms got
told_text terms other = []

-- What is written for what is done.
abbrev pub said : Terms → Doing → List ℕ
said terms (at_gate (turn event outcome answer)) = told_text terms answer
said terms (at_gate (idle is_up events)) = []
said terms (looked over) = away_frame
said terms (looked other) = []
said terms (heard next) = answer_text (answer_at next) (payload_at next)

abbrev pub said_along : Terms → List Doing → List ℕ
said_along terms trail = flat_map (said terms) trail

-- The head, once something was asked.
abbrev pub head_after : List Doing → List ℕ → List ℕ
head_after [] key = []
head_after (doing ∷ more) key = accepting_head key

-- all that is written in a session, by what was done so far
abbrev pub session_text : Terms → List ℕ → List Doing → List ℕ
session_text terms key trail = head_after trail key ++ said_along terms trail

-- the sink took some first bytes of this text, and no others
pub record TakesFront (sink sink' : Outlet) (text : List ℕ) : Type 0 where
  pub taken : List ℕ
  pub left : List ℕ
  pub is : text ≡ taken ++ left
  pub written : Appends sink.held sink'.held taken
  pub later : sink.failures ≤ sink'.failures

-- ---- ends

-- A session that stands here may end so, and what its sink took of the text: all of it where it lagged, was closed, or
-- its source ended or failed; and some of it where a write failed or memory was refused.
abbrev pub Ends : SessionEnd → SessionStage → Outlet → Outlet → List ℕ → Type 0
Ends (end.Lagged cursor oldest) stage sink sink' text =
    (stage ≡ ended (end.Lagged cursor oldest)) × Takes sink sink' text
Ends (end.Closed code) stage sink sink' text = (stage ≡ ended (end.Closed code)) × Takes sink sink' text
Ends end.Ended stage sink sink' text = (stage ≡ ended end.Ended) × Takes sink sink' text
Ends end.ReadFault stage sink sink' text = (stage ≡ ended end.ReadFault) × Takes sink sink' text
Ends end.WriteFault stage sink sink' text = TakesFront sink sink' text × Rose sink.failures sink'.failures
Ends end.NoMemory stage sink sink' text = TakesFront sink sink' text

-- A session of this key and this filter: what was done, where it stands then, and how it ended there.
pub record Session (terms : Terms) (key : List ℕ) (filter : Filter) (source : Feed) (before : Seen) (sink : Outlet)
    (source' : Feed) (after : Seen) (sink' : Outlet) (ends : SessionEnd) : Type 0 where
  pub trail : List Doing
  pub stage : SessionStage
  pub due : Chain (ListenAt filter) trail (asking 0 []) stage
  pub gate : Between (items trail) before after
  pub read : Chain SourceBy trail source source'
  pub written : Ends ends stage sink sink' (session_text terms key trail)
