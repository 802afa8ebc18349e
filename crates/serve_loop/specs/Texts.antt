-- What a link comes to, told of its whole input: the requests that are answered, how it ends, and the bytes that are
-- written.
use Rattle.std.specs.Prelude.{◌≡◌, ◌++◌, ℕ, List, [], ◌∷◌, map, Bool, true, false, Option, Some, None}
use Rattle.std.specs.List.{flat_map}
use Rattle.std.specs.Io.KnownBytes.{Appends}
use Rattle.http_heads.specs.Messages.{Begins, Ending, TellsLeave, ended, cut, malformed}
use Rattle.http_heads.specs.declared.request.HeadFault.TheVariants.{H5}
use Rattle.http_heads.specs.declared.request.Request.{Request}
use Rattle.http_front.specs.Clocks.{Readings}
use Rattle.rest_json.specs.declared.terms.Terms.{Terms}
use Rattle.gates.specs.Gates.{Between, Seen}
use Rattle.gates.specs.History.{Item}
use Rattle.gates.specs.rest_answers.specs.Links.{Outlet}
use Rattle.gates.specs.rest_answers.specs.Texts.{malformed_text, printed}
use Rattle.serve_loop.specs.Leave.{leave_if, leave_of}
use Rattle.serve_loop.specs.Replying.{Handles}
use Rattle.serve_loop.specs.Subscriptions.{asks_of, begins}
use Rattle.serve_loop.specs.declared.subscriptions.Subscription.{Subscription}
use Rattle.serve_loop.specs.Serving.{Exchange, is_barred}
use Rattle.serve_loop.specs.declared.link.LinkEnd.{LinkEnd}
use Rattle.serve_loop.specs.declared.link.LinkEnd.TheVariants as end

-- the requests of these
abbrev pub requests_of : List Exchange → List Request
requests_of exchanges = map (λ exchange. exchange.request) exchanges

-- the session that begins after an exchange
abbrev pub begun_by : Exchange → Option Subscription
begun_by exchange = begins exchange.request exchange.reply

-- what is written of a text where a session begins in its place: nothing
abbrev pub unless_begun : Option Subscription → List ℕ → List ℕ
unless_begun (Some wanted) text = []
unless_begun None text = text

-- the bytes that are written for an exchange: leave where its request awaits it, and then its reply, or none where a
-- session begins
abbrev pub written_at : Terms → Exchange → List ℕ
written_at terms exchange = leave_of exchange.request
    ++ unless_begun (begun_by exchange) (printed exchange.reply terms exchange.request)

abbrev pub printed_replies : Terms → List Exchange → List ℕ
printed_replies terms exchanges = flat_map (λ exchange. written_at terms exchange) exchanges

-- what was done at the gate, in its order
abbrev pub history_of : List Exchange → List Item
history_of exchanges = flat_map (λ exchange. exchange.history) exchanges

-- requests came to their replies one after the other, between these readings of the clock
abbrev pub HandlesAll : Terms → Readings → List Exchange → Readings → Type 0
HandlesAll terms told [] told' = told' ≡ told
HandlesAll terms told (exchange ∷ more) told' = (between : Readings)
    × Handles (asks_of exchange.request terms) told exchange.history exchange.reply between
    × HandlesAll terms between more told'

-- how a link ends that has answered all messages of its input
abbrev pub end_at : Ending → LinkEnd
end_at ended = end.Ended
end_at (cut held) = end.Cut
end_at (malformed fault) = end.Malformed fault

-- how a link ends after an exchange: by the session that begins, after a request that is the last on its connection, or
-- else as it goes on
abbrev pub EndsBy : Option Subscription → Bool → List Exchange → LinkEnd → Type 0 → Type 0
EndsBy (Some wanted) last more ends other = (more ≡ []) × (ends ≡ end.Events wanted)
EndsBy None true more ends other = (more ≡ []) × (ends ≡ end.Ended)
EndsBy None false more ends other = other

-- how a link ends where these requests of the input are left and it goes on: as the input does where none is, and else
-- the first of them is refused for its `Origin`
abbrev pub EndsAt : Terms → List Request → Ending → LinkEnd → Type 0
EndsAt terms [] ending ends = ends ≡ end_at ending
EndsAt terms (request ∷ more) ending ends = (is_barred terms request ≡ true) × (ends ≡ end.Malformed H5)

-- How a link ends over an input with this ending after these exchanges, where nothing fails and these requests of the
-- input are left: at the first exchange after which a session begins, or whose request is the last on its connection; and
-- where there is none, at the first request that is refused for its `Origin`, or as the input does. No request of an
-- exchange is refused so.
abbrev pub EndsAfter : Terms → List Exchange → List Request → Ending → LinkEnd → Type 0
EndsAfter terms [] left ending ends = EndsAt terms left ending ends
EndsAfter terms (exchange ∷ more) left ending ends = (is_barred terms exchange.request ≡ false)
    × EndsBy (begun_by exchange) exchange.request.last more ends (EndsAfter terms more left ending ends)

-- Whether leave is given after the replies: where the message that these bytes begin with awaits it, and is cut off.
abbrev pub LeaveAt : Terms → LinkEnd → List ℕ → Bool → Type 0
LeaveAt terms end.Cut rest awaited = TellsLeave terms.refuses_origin rest awaited
LeaveAt terms other rest awaited = awaited ≡ false

-- the reply that is written after the others and after leave
abbrev pub text_at : LinkEnd → List ℕ
text_at (end.Malformed fault) = malformed_text fault
text_at other = []

-- a fault of the outside, or refused memory
abbrev pub IsFault : LinkEnd → Type 0
IsFault end.ReadFault = Unit {0}
IsFault end.WriteFault = Unit {0}
IsFault end.NoMemory = Unit {0}
IsFault other = ⊥

-- what a link acts on at one moment: its sink, its gate, and what its clock tells
pub record ReplyWorld : Type 0 where
  pub sink : Outlet
  pub gate : Seen
  pub clock : Readings

abbrev pub reply_world : Outlet → Seen → Readings → ReplyWorld
reply_world sink gate clock = record { sink = sink; gate = gate; clock = clock }

-- The link did what its input asks, and nothing else. The requests up to and with the first that is the last on its
-- connection, or after whose answer a session of events begins, and before the first that is refused for its
-- `Origin`, were carried out, each by the turns and idles that it is due. These are all that was done at the gate,
-- and the clock was read for nothing else. The end is the one that is due, and the sink took the replies in their
-- order, and leave for each body that awaits it.
pub record ServesText (terms : Terms) (text : List ℕ) (messages : List Request) (ending : Ending) (ends : LinkEnd)
    (world later : ReplyWorld) : Type 0 where
  pub exchanges : List Exchange
  pub left : List Request
  pub messages_are : messages ≡ requests_of exchanges ++ left
  pub ends_so : EndsAfter terms exchanges left ending ends
  pub rest : List ℕ
  pub text_is : Begins text (requests_of exchanges) rest
  pub gate : Between (history_of exchanges) world.gate later.gate
  pub handles : HandlesAll terms world.clock exchanges later.clock
  pub awaited : Bool
  pub leave_is : LeaveAt terms ends rest awaited
  pub written : Appends world.sink.held later.sink.held
      (printed_replies terms exchanges ++ (leave_if awaited ++ text_at ends))
