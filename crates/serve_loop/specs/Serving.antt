-- A link: its requests are taken one after the other, each comes to its reply at a gate, and then the link ends for one
-- reason. The terms say how requests are read and replies are printed, and whether an `Origin` is refused.
use Rattle.std.specs.Prelude.{◌≡◌, ◌≢◌, ◌≤◌, ◌⊎◌, ◌++◌, ◌&&◌, ℕ, List, [], ◌∷◌, Bool, true, false, length, Option, Some, None}
use Rattle.std.specs.Prelude.{Result, Ok}
use Rattle.http_heads.specs.declared.request.HeadFault.{HeadFault}
use Rattle.http_heads.specs.declared.request.HeadFault.TheVariants.{H5}
use Rattle.http_heads.specs.declared.request.Request.{Request}
use Rattle.http_front.specs.Clocks.{Readings}
use Rattle.http_front.specs.Held.{most_held}
use Rattle.http_front.specs.declared.read.Got.{Got}
use Rattle.http_front.specs.declared.read.Got.TheVariants as got
use Rattle.records.specs.declared.commands.Command.{Command}
use Rattle.records.specs.declared.replies.Reply.{Reply}
use Rattle.records.specs.declared.replies.Reply.TheVariants as reply
use Rattle.rest_json.specs.declared.terms.Terms.{Terms}
use Rattle.gates.specs.Gates.{Between, Seen}
use Rattle.gates.specs.History.{Item}
use Rattle.gates.specs.rest_answers.specs.Links.{BreaksOff, Inlet, Outlet, ReadsFrom, Takes}
use Rattle.gates.specs.rest_answers.specs.Texts.{HasText, malformed_text, printed}
use Rattle.gates.specs.rest_answers.specs.Writing.{RefusesPlace, WritesAnswer}
use Rattle.gates.specs.rest_answers.specs.declared.answers.PrintedReply.{PrintedReply}
use Rattle.gates.specs.rest_answers.specs.declared.writing.Written.{Written}
use Rattle.gates.specs.rest_answers.specs.declared.writing.Written.TheVariants as ended
use Rattle.rest_routes.specs.Commands.{command_of}
use Rattle.serve_loop.specs.Leave.{BreaksLeave, BreaksReply, GivesLeave, GivesLeaveAt, leave_of}
use Rattle.serve_loop.specs.Replying.{Handles, Reaches}
use Rattle.serve_loop.specs.Subscriptions.{asks_of, begins, is_refusal, looked_for, subscription_of}
use Rattle.serve_loop.specs.declared.subscriptions.Subscription.{Subscription}
use Rattle.serve_loop.specs.declared.link.LinkEnd.{LinkEnd}
use Rattle.serve_loop.specs.declared.link.LinkEnd.TheVariants as end
use Rattle.serve_loop.specs.declared.link.Turn.{Turn}
use Rattle.serve_loop.specs.declared.link.Turn.TheVariants as turn

-- ---- requests

-- A request that was taken, what was done at the gate for it, and its reply.
pub record Exchange : Type 0 where
  pub request : Request
  pub history : List Item
  pub reply : Reply

-- requests with an `Origin` are refused on these terms, and this is one
abbrev pub is_barred : Terms → Request → Bool
is_barred terms request = terms.refuses_origin && request.origin

-- what a link works on at one moment: the bytes that its buffer holds, its source and its sink, its gate, and what its
-- clock tells
pub record LinkWorld : Type 0 where
  pub held : List ℕ
  pub source : Inlet
  pub sink : Outlet
  pub gate : Seen
  pub clock : Readings

abbrev pub link_world : List ℕ → Inlet → Outlet → Seen → Readings → LinkWorld
link_world held source sink gate clock =
    record { held = held; source = source; sink = sink; gate = gate; clock = clock }

-- one call of `read_request` answered this of the bytes to come and of the bytes held
abbrev pub Asks : LinkWorld → LinkWorld → Got → Type 0
Asks world later answer = ReadsFrom world.held world.source answer later.held later.source

-- nothing was done at the gate, and the clock was not read
pub record KeepsGate (world later : LinkWorld) : Type 0 where
  pub gate : later.gate ≡ world.gate
  pub clock : later.clock ≡ world.clock

-- What stands next has this fault: no request can begin there, or one was taken that is refused for its `Origin` (H5).
abbrev pub HasFault : Terms → HeadFault → LinkWorld → LinkWorld → Type 0
HasFault terms fault world later = Asks world later (got.Malformed fault)
    ⊎ ((request : Request) × Asks world later (got.Request request) × (is_barred terms request ≡ true)
    × (fault ≡ H5))

-- The next request was taken, is not refused for its `Origin`, and what it asks for at the gate came to its reply, after
-- which this session begins, or none.
pub record ComesTo (terms : Terms) (session : Option Subscription) (world later : LinkWorld) (exchange : Exchange) : Type 0 where
  pub asked : Asks world later (got.Request exchange.request)
  pub welcome : is_barred terms exchange.request ≡ false
  pub begun : begins exchange.request exchange.reply ≡ session
  pub gate : Between exchange.history world.gate later.gate
  pub handles : Handles (asks_of exchange.request terms) world.clock exchange.history exchange.reply later.clock

-- The next request was taken, and came to a reply that is to be written.
abbrev pub CarriesOut : Terms → LinkWorld → LinkWorld → Exchange → Type 0
CarriesOut terms world later exchange = ComesTo terms None world later exchange

-- The next request was taken, after leave where its client waits for it, and came to its reply, which was written whole.
pub record Serves (terms : Terms) (world later : LinkWorld) (exchange : Exchange) : Type 0 where
  pub carries : CarriesOut terms world later exchange
  pub replied : Takes world.sink later.sink
      (leave_of exchange.request ++ printed exchange.reply terms exchange.request)

-- ---- ends

-- What stands next where a link ends before another request was answered whole, and what was done of it: nothing after
-- the end of the source and at a failed read; its reply at a fault; a part of a reply or of leave where a
-- write failed; where memory was refused, no reply is written, after a request was carried out, before, or before any
-- was read; and at a request after which a session of events begins, only its project was asked for. Leave was given
-- before, where it was awaited.
abbrev pub Stops : Terms → LinkEnd → LinkWorld → LinkWorld → Type 0
Stops terms end.Ended world later = Asks world later got.End × KeepsGate world later × (later.sink ≡ world.sink)
Stops terms end.Cut world later = (count : ℕ) × Asks world later (got.Cut count) × KeepsGate world later
    × GivesLeaveAt terms.refuses_origin later.held world.sink later.sink
Stops terms (end.Malformed fault) world later = HasFault terms fault world later × KeepsGate world later
    × Takes world.sink later.sink (malformed_text fault)
Stops terms end.ReadFault world later =
    Asks world later got.ReadFault × KeepsGate world later
    × GivesLeaveAt terms.refuses_origin later.held world.sink later.sink
Stops terms end.WriteFault world later =
    ((exchange : Exchange) × CarriesOut terms world later exchange
    × BreaksReply exchange.request (printed exchange.reply terms exchange.request) world.sink later.sink)
    ⊎ ((fault : HeadFault) × HasFault terms fault world later × KeepsGate world later
    × BreaksOff world.sink later.sink (malformed_text fault))
    ⊎ (BreaksLeave terms.refuses_origin world.held world.source world.sink later.held later.source later.sink × KeepsGate world later)
Stops terms end.NoMemory world later =
    (later ≡ world)
    ⊎ (Asks world later got.NoMemory × KeepsGate world later
    × GivesLeaveAt terms.refuses_origin later.held world.sink later.sink)
    ⊎ ((fault : HeadFault) × HasFault terms fault world later × KeepsGate world later × (later.sink ≡ world.sink))
    ⊎ ((exchange : Exchange) × CarriesOut terms world later exchange
    × (exchange.reply ≢ reply.NoMemory) × GivesLeave exchange.request.expects world.sink later.sink)
    ⊎ ((request : Request) × Asks world later (got.Request request) × KeepsGate world later
    × GivesLeave request.expects world.sink later.sink)
Stops terms (end.Events wanted) world later = (exchange : Exchange) × ComesTo terms (Some wanted) world later exchange
    × GivesLeave exchange.request.expects world.sink later.sink

-- one turn of a link: the next request was answered, or the link ends
abbrev pub Turns : Terms → Turn → LinkWorld → LinkWorld → Type 0
Turns terms turn.GoOn world later =
    (exchange : Exchange) × Serves terms world later exchange × (exchange.request.last ≡ false)
Turns terms turn.Final world later =
    (exchange : Exchange) × Serves terms world later exchange × (exchange.request.last ≡ true)
Turns terms (turn.Stop ends) world later = Stops terms ends world later

-- ---- a link

-- requests were answered one after the other, and none of them is the last on its connection
abbrev pub ServesAll : Terms → LinkWorld → List Exchange → LinkWorld → Type 0
ServesAll terms world [] later = world ≡ later
ServesAll terms world (exchange ∷ more) later =
    (next : LinkWorld) × Serves terms world next exchange × (exchange.request.last ≡ false)
    × ServesAll terms next more later

-- A link from one world to a later one: the requests that it answered whole and after which it went on, the world after
-- them, and how it ended there: by a final request, which was answered whole and is the last on its connection, or for
-- another reason.
pub record Serving (terms : Terms) (world later : LinkWorld) (ends : LinkEnd) : Type 0 where
  pub exchanges : List Exchange
  pub reached : LinkWorld
  pub serves : ServesAll terms world exchanges reached
  pub stops : ((ends ≡ end.Ended) × Turns terms turn.Final reached later) ⊎ Stops terms ends reached later

-- A link from this world on, with the outside seen so at its end. What is still to come is what its buffer held, at
-- most one head, one body and one piece, and what the source has left.
pub record ServingFrom (terms : Terms) (start : LinkWorld) (source : Inlet) (sink : Outlet) (gate : Seen) (clock : Readings)
    (ends : LinkEnd) : Type 0 where
  pub held : List ℕ
  pub few : length held ≤ most_held
  pub serving : Serving terms start (link_world held source sink gate clock) ends

-- ---- the parts of a turn

-- how a turn goes on after a reply, from how its writing ended and whether its request is the last on its connection
abbrev pub turn_after : Written → Bool → Turn
turn_after ended.Whole true = turn.Final
turn_after ended.Whole false = turn.GoOn
turn_after ended.WriteFault last = turn.Stop end.WriteFault
turn_after ended.NoMemory last = turn.Stop end.NoMemory

-- how a link ends at a fault, from how the writing of its reply ended
abbrev pub end_after : Written → HeadFault → LinkEnd
end_after ended.Whole fault = end.Malformed fault
end_after ended.WriteFault fault = end.WriteFault
end_after ended.NoMemory fault = end.NoMemory

-- this reply to a request was written, whole or not, and so the link goes on
pub record WritesReply (terms : Terms) (request : Request) (reply : Reply) (next : Turn) (sink sink' : Outlet) : Type 0 where
  pub answered : PrintedReply
  pub how : Written
  pub text : HasText answered reply terms request
  pub writes : WritesAnswer how answered request sink sink'
  pub next_is : next ≡ turn_after how request.last

-- what a request asks for was answered, and so the link goes on
pub record Replies (asks : Result Command Reply) (terms : Terms) (request : Request) (next : Turn) (sink sink' : Outlet)
    (gate gate' : Seen) (clock clock' : Readings) : Type 0 where
  pub reply : Reply
  pub reaches : Reaches asks gate gate' clock clock' reply
  pub written : WritesReply terms request reply next sink sink'

-- The project of a subscription was asked for, and so its session begins, or the refusal was answered.
abbrev pub Looks : Terms → Subscription → Request → Turn → Outlet → Outlet → Seen → Seen → Readings → Readings → Type 0
Looks terms wanted request next sink sink' gate gate' clock clock' =
    (a_reply : Reply) × Reaches (Ok (looked_for wanted)) gate gate' clock clock' a_reply
    × (((is_refusal a_reply ≡ true) × WritesReply terms request a_reply next sink sink')
    ⊎ ((is_refusal a_reply ≡ false) × (next ≡ turn.Stop (end.Events wanted)) × (sink' ≡ sink)))

-- what is seen of a sink, of a gate and of a clock is as it was
pub record Untouched (sink sink' : Outlet) (gate gate' : Seen) (clock clock' : Readings) : Type 0 where
  pub sink_is : sink' ≡ sink
  pub gate_is : gate' ≡ gate
  pub clock_is : clock' ≡ clock

-- A request was answered where it subscribes to no events; where it does, its project was asked for; and it stops the
-- link where memory was refused, and nothing was done of it.
abbrev pub Meets : Terms → Request → Turn → Outlet → Outlet → Seen → Seen → Readings → Readings → Type 0
Meets terms request next sink sink' gate gate' clock clock' =
    ((subscription_of request ≡ None)
    × Replies (command_of request terms) terms request next sink sink' gate gate' clock clock')
    ⊎ ((wanted : Subscription) × (subscription_of request ≡ Some wanted)
    × Looks terms wanted request next sink sink' gate gate' clock clock')
    ⊎ ((next ≡ turn.Stop end.NoMemory) × Untouched sink sink' gate gate' clock clock')

-- a fault was answered by its rule, and the link ends
abbrev pub Refuses : HeadFault → Turn → Outlet → Outlet → Seen → Seen → Readings → Readings → Type 0
Refuses fault next sink sink' gate gate' clock clock' = (how : Written)
    × (next ≡ turn.Stop (end_after how fault)) × RefusesPlace fault how sink sink' × (gate' ≡ gate) × (clock' ≡ clock)

-- What follows on an answer of `read_request`: its request is refused for its `Origin` (H5), or it is answered, or stops
-- the link; a malformed place is answered by its rule; and else the link stops, and nothing is done.
abbrev pub Follows : Terms → Got → Turn → Outlet → Outlet → Seen → Seen → Readings → Readings → Type 0
Follows terms (got.Request request) next sink sink' gate gate' clock clock' =
    ((is_barred terms request ≡ false) × Meets terms request next sink sink' gate gate' clock clock')
    ⊎ ((is_barred terms request ≡ true) × Refuses H5 next sink sink' gate gate' clock clock')
Follows terms got.End next sink sink' gate gate' clock clock' =
    (next ≡ turn.Stop end.Ended) × Untouched sink sink' gate gate' clock clock'
Follows terms (got.Cut count) next sink sink' gate gate' clock clock' =
    (next ≡ turn.Stop end.Cut) × Untouched sink sink' gate gate' clock clock'
Follows terms (got.Malformed fault) next sink sink' gate gate' clock clock' =
    Refuses fault next sink sink' gate gate' clock clock'
Follows terms got.ReadFault next sink sink' gate gate' clock clock' =
    (next ≡ turn.Stop end.ReadFault) × Untouched sink sink' gate gate' clock clock'
Follows terms got.NoMemory next sink sink' gate gate' clock clock' =
    (next ≡ turn.Stop end.NoMemory) × Untouched sink sink' gate gate' clock clock'
