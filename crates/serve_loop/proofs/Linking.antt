-- A link, from what its parts ensure.
use Rattle.std.proofs.Common.{◌≡◌, ◌≢◌, ◌≤◌, ◌⊎◌, ◌++◌, ◌&&◌, not, ℕ, List, [], ◌∷◌, length, Bool, true, false, refl, ap, sym, subst, ◌∙◌}
use Rattle.std.proofs.Common.{Some, None, Ok, inl, inr, arith}
use Rattle.size_values.specs.Causes.{Rose}
use Rattle.http_heads.specs.Fields.{leave_due}
use Rattle.http_heads.specs.declared.request.HeadFault.{HeadFault}
use Rattle.http_heads.specs.declared.request.HeadFault.TheVariants.{H5}
use Rattle.http_heads.specs.declared.request.Request.{Request}
use Rattle.http_front.specs.Held.{most_held}
use Rattle.http_heads.specs.Messages.{TellsLeave}
use Rattle.http_front.specs.declared.read.Got.{Got}
use Rattle.http_front.specs.declared.read.Got.TheVariants as got
use Rattle.records.specs.declared.replies.Reply.{Reply}
use Rattle.records.specs.declared.replies.Reply.TheVariants as reply
use Rattle.rest_json.specs.declared.terms.Terms.{Terms}
use Rattle.gates.specs.Gates.{Between}
use Rattle.gates.specs.History.{Item}
use Rattle.gates.proofs.Histories.{between-append, between-none}
use Rattle.gates.specs.rest_answers.specs.Links.{BreaksOff, Outlet, Takes}
use Rattle.gates.specs.rest_answers.specs.Texts.{IsUnprinted, printed, text_for}
use Rattle.gates.specs.rest_answers.specs.Writing.{RefusesPlace, WritesAnswer}
use Rattle.gates.specs.rest_answers.specs.declared.answers.PrintedReply.{PrintedReply}
use Rattle.gates.specs.rest_answers.specs.declared.writing.Written.{Written}
use Rattle.gates.specs.rest_answers.specs.declared.writing.Written.TheVariants as ended
use Rattle.gates.specs.rest_answers.proofs.Printing.{takes_memory, text_is}
use Rattle.rest_routes.specs.Commands.{command_of}
use Rattle.serve_loop.specs.Leave.{AsksNext, GivesLeave, GivesLeaveAt}
use Rattle.serve_loop.specs.Replying.{Reaches}
use Rattle.serve_loop.specs.Serving.{Asks, CarriesOut, Exchange, KeepsGate, LinkWorld, Serves, ServesAll}
use Rattle.serve_loop.specs.Serving.{Follows, HasFault, Looks, Meets, Refuses, Serving, Stops, Turns, Untouched}
use Rattle.serve_loop.specs.Serving.{WritesReply, end_after, is_barred, turn_after}
use Rattle.serve_loop.specs.Subscriptions.{asks_by, asks_of, begins, is_refusal, let_in, looked_for, subscription_of}
use Rattle.serve_loop.specs.declared.subscriptions.Subscription.{Subscription}
use Rattle.serve_loop.specs.declared.link.LinkEnd.{LinkEnd}
use Rattle.serve_loop.specs.declared.link.LinkEnd.TheVariants as end
use Rattle.serve_loop.specs.declared.link.Turn.{Turn}
use Rattle.serve_loop.specs.declared.link.Turn.TheVariants as turn
use Rattle.serve_loop.proofs.Leaving.{gives_still, gives_takes}
use Rattle.serve_loop.proofs.Taking.{rose_after, takes_twice}

-- ---- one turn

-- leave is due to a request that is not refused for its `Origin`, where its client waits for it, and to no other one
due_else : (refuses origin expects : Bool) → (refuses && origin) ≡ false → leave_due refuses origin expects ≡ expects
due_else refuses origin true plain = ap not plain
due_else refuses origin false plain = refl

due_barred : (refuses origin expects : Bool) → (refuses && origin) ≡ true → leave_due refuses origin expects ≡ false
due_barred refuses origin true barred = ap not barred
due_barred refuses origin false barred = refl

-- A turn that takes the next request, after leave where that is awaited, and has it answered goes on after its reply, or
-- it is the final one, or the link ends at a failed write, or where memory for the reply was refused.
turn_answers : (terms : Terms) (w w' : LinkWorld) (mid : Outlet) (request : Request) (r : Reply) (next : Turn)
    → Asks w w' (got.Request request) → is_barred terms request ≡ false → GivesLeave request.expects w.sink mid → begins request r ≡ None
    → Reaches (asks_of request terms) w.gate w'.gate w.clock w'.clock r
    → WritesReply terms request r next mid w'.sink → Turns terms next w w'
turn_answers terms w w' mid request r next asks welcome gives plain reaches written =
    subst (λ t. Turns terms t w w') (sym written.next_is) (by written.how written.writes) where
      e : Exchange
      e = record { request = request; history = reaches.history; reply = r }

      carried : CarriesOut terms w w' e
      carried = record { asked = asks; welcome = welcome; begun = plain; gate = reaches.gate; handles = reaches.handles }

      a : PrintedReply
      a = written.answered

      is : ¬ IsUnprinted a → text_for a request ≡ printed r terms request
      is has = text_is a r terms request written.text has

      served : ¬ IsUnprinted a → Takes mid w'.sink (text_for a request) → Serves terms w w' e
      served has takes = record {
        carries = carried;
        replied = takes_twice (gives_takes request.expects w.sink mid gives) (subst (Takes mid w'.sink) (is has) takes);
      }

      whole : (last : Bool) → request.last ≡ last → ¬ IsUnprinted a → Takes mid w'.sink (text_for a request)
          → Turns terms (turn_after ended.Whole last) w w'
      whole true last has takes = (e, served has takes, last)
      whole false last has takes = (e, served has takes, last)

      by : (how : Written) → WritesAnswer how a request mid w'.sink → Turns terms (turn_after how request.last) w w'
      by ended.Whole writes = whole request.last refl writes.0 writes.1
      by ended.WriteFault writes = inl (
        e,
        carried,
        record { between = mid; gives = gives; breaks = subst (BreaksOff mid w'.sink) (is writes.0) writes.1 },
      )
      by ended.NoMemory writes = inr (inr (inr (inl (
        e,
        carried,
        takes_memory a r terms request written.text writes.0,
        gives_still request.expects w.sink mid w'.sink writes.1 gives,
      ))))

-- what a request asks for that subscribes to nothing, and one that subscribes
asks_plain : (terms : Terms) (request : Request) → subscription_of request ≡ None → command_of request terms ≡ asks_of request terms
asks_plain terms request plain = ap (λ s. asks_by s (command_of request terms)) (sym plain)

asks_wanted : (terms : Terms) (request : Request) (wanted : Subscription) → subscription_of request ≡ Some wanted
    → Ok (looked_for wanted) ≡ asks_of request terms
asks_wanted terms request wanted is = ap (λ s. asks_by s (command_of request terms)) (sym is)

begins_plain : (request : Request) (r : Reply) → subscription_of request ≡ None → begins request r ≡ None
begins_plain request r plain = ap (λ s. let_in s (is_refusal r)) plain

begins_wanted : (request : Request) (r : Reply) (wanted : Subscription) (refused : Bool)
    → subscription_of request ≡ Some wanted → is_refusal r ≡ refused → begins request r ≡ let_in (Some wanted) refused
begins_wanted request r wanted refused is refuses =
    ap (λ s. let_in s (is_refusal r)) is ∙ ap (λ b. let_in (Some wanted) b) refuses

-- a turn at a request that subscribes: its session begins, or the refusal is answered
turn_looks : (terms : Terms) (w w' : LinkWorld) (mid : Outlet) (request : Request) (wanted : Subscription) (next : Turn)
    → Asks w w' (got.Request request) → is_barred terms request ≡ false → GivesLeave request.expects w.sink mid
    → subscription_of request ≡ Some wanted
    → Looks terms wanted request next mid w'.sink w.gate w'.gate w.clock w'.clock → Turns terms next w w'
turn_looks terms w w' mid request wanted next asks welcome gives is (r, reaches, inl (refuses, written)) =
    turn_answers terms w w' mid request r next asks welcome gives (begins_wanted request r wanted true is refuses)
    (subst (λ a. Reaches a w.gate w'.gate w.clock w'.clock r) (asks_wanted terms request wanted is) reaches) written
turn_looks terms w w' mid request wanted next asks welcome gives is (r, reaches, inr (accepts, next_is, same)) =
    subst (λ t. Turns terms t w w') (sym next_is) (
      record { request = request; history = asked.history; reply = r },
      record {
        asked = asks;
        welcome = welcome;
        begun = begins_wanted request r wanted false is accepts;
        gate = asked.gate;
        handles = asked.handles;
      },
      gives_still request.expects w.sink mid w'.sink same gives,
    ) where
      asked : Reaches (asks_of request terms) w.gate w'.gate w.clock w'.clock r
      asked = subst (λ a. Reaches a w.gate w'.gate w.clock w'.clock r) (asks_wanted terms request wanted is) reaches

-- a turn at a request: it is answered, or it stops the link
turn_meets : (terms : Terms) (w w' : LinkWorld) (mid : Outlet) (request : Request) (next : Turn)
    → Asks w w' (got.Request request) → is_barred terms request ≡ false → GivesLeave request.expects w.sink mid
    → Meets terms request next mid w'.sink w.gate w'.gate w.clock w'.clock → Turns terms next w w'
turn_meets terms w w' mid request next asks welcome gives (inl (plain, replies)) =
    turn_answers terms w w' mid request replies.reply next asks welcome gives (begins_plain request replies.reply plain)
    (subst (λ a. Reaches a w.gate w'.gate w.clock w'.clock replies.reply) (asks_plain terms request plain) replies.reaches)
    replies.written
turn_meets terms w w' mid request next asks welcome gives (inr (inl (wanted, is, looks))) =
    turn_looks terms w w' mid request wanted next asks welcome gives is looks
turn_meets terms w w' mid request next asks welcome gives (inr (inr (is, same))) =
    subst (λ t. Turns terms t w w') (sym is) (inr (inr (inr (inr (
      request,
      asks,
      record { gate = same.gate_is; clock = same.clock_is },
      gives_still request.expects w.sink mid w'.sink same.sink_is gives,
    )))))

-- a turn that refuses a fault
turn_refuses : (terms : Terms) (w w' : LinkWorld) (fault : HeadFault) (how : Written) → HasFault terms fault w w'
    → KeepsGate w w' → RefusesPlace fault how w.sink w'.sink → Turns terms (turn.Stop (end_after how fault)) w w'
turn_refuses terms w w' fault ended.Whole asks keeps refuses = (asks, keeps, refuses)
turn_refuses terms w w' fault ended.WriteFault asks keeps refuses = inr (inl (fault, asks, keeps, refuses))
turn_refuses terms w w' fault ended.NoMemory asks keeps refuses = inr (inr (inl (fault, asks, keeps, refuses)))

-- the same, after a message was asked for to which no leave is due
turn_faults : (terms : Terms) (w w' : LinkWorld) (mid : Outlet) (fault : HeadFault) (next : Turn)
    → HasFault terms fault w w' → mid ≡ w.sink → Refuses fault next mid w'.sink w.gate w'.gate w.clock w'.clock
    → Turns terms next w w'
turn_faults terms w w' mid fault next has same refuses =
    subst (λ t. Turns terms t w w') (sym refuses.1)
    (turn_refuses terms w w' fault refuses.0 has (record { gate = refuses.3; clock = refuses.4 })
    (subst (λ s. RefusesPlace fault refuses.0 s w'.sink) same refuses.2))

-- nothing was done after the message was asked for
keeps_gate : (w w' : LinkWorld) (mid : Outlet) → Untouched mid w'.sink w.gate w'.gate w.clock w'.clock → KeepsGate w w'
keeps_gate w w' mid same = record { gate = same.gate_is; clock = same.clock_is }

-- no leave was awaited, and so the sink is as it was
no_leave : (awaited : Bool) (a b : Outlet) → awaited ≡ false → GivesLeave awaited a b → b ≡ a
no_leave true a b is gives = cc
no_leave false a b is gives = gives

-- leave by the message that is held
given_at : (refuses : Bool) (w w' : LinkWorld) (mid : Outlet) (awaited : Bool) → TellsLeave refuses w'.held awaited
    → GivesLeave awaited w.sink mid → w'.sink ≡ mid → GivesLeaveAt refuses w'.held w.sink w'.sink
given_at refuses w w' mid awaited tells gives same = record {
  awaited = awaited;
  tells = tells;
  gives = gives_still awaited w.sink mid w'.sink same gives;
}

-- a turn at what was answered of the next message
pub turn_follows : (terms : Terms) (w w' : LinkWorld) (mid : Outlet) (answer : Got) (next : Turn)
    → AsksNext terms.refuses_origin w.held w.source w.sink answer w'.held w'.source mid
    → Follows terms answer next mid w'.sink w.gate w'.gate w.clock w'.clock → Turns terms next w w'
turn_follows terms w w' mid (got.Request request) next asks (inl (welcome, meets)) =
    turn_meets terms w w' mid request next asks.asked welcome
    (subst (λ awaited. GivesLeave awaited w.sink mid)
    (sym asks.due ∙ due_else terms.refuses_origin request.origin request.expects welcome) asks.gives) meets
turn_follows terms w w' mid (got.Request request) next asks (inr (barred, refuses)) =
    turn_faults terms w w' mid H5 next (inr (request, asks.asked, barred, refl))
    (no_leave asks.awaited w.sink mid
    (sym asks.due ∙ due_barred terms.refuses_origin request.origin request.expects barred) asks.gives) refuses
turn_follows terms w w' mid got.End next asks follows =
    subst (λ t. Turns terms t w w') (sym follows.0) (
      asks.asked,
      keeps_gate w w' mid follows.1,
      follows.1.sink_is ∙ no_leave asks.awaited w.sink mid asks.due asks.gives,
    )
turn_follows terms w w' mid (got.Cut count) next asks follows =
    subst (λ t. Turns terms t w w') (sym follows.0)
    (count, asks.asked, keeps_gate w w' mid follows.1, given_at terms.refuses_origin w w' mid asks.awaited asks.due asks.gives follows.1.sink_is)
turn_follows terms w w' mid (got.Malformed fault) next asks follows =
    turn_faults terms w w' mid fault next (inl asks.asked) (no_leave asks.awaited w.sink mid asks.due asks.gives) follows
turn_follows terms w w' mid got.ReadFault next asks follows =
    subst (λ t. Turns terms t w w') (sym follows.0)
    (asks.asked, keeps_gate w w' mid follows.1, given_at terms.refuses_origin w w' mid asks.awaited asks.due asks.gives follows.1.sink_is)
turn_follows terms w w' mid got.NoMemory next asks follows =
    subst (λ t. Turns terms t w w') (sym follows.0) (inr (inl (
      asks.asked,
      keeps_gate w w' mid follows.1,
      given_at terms.refuses_origin w w' mid asks.awaited asks.due asks.gives follows.1.sink_is,
    )))

-- ---- a link

-- so far these requests were served
pub record ServesSoFar (terms : Terms) (w w' : LinkWorld) : Type 0 where
  pub exchanges : List Exchange
  pub serves : ServesAll terms w exchanges w'

pub none_so_far : (terms : Terms) (w : LinkWorld) → ServesSoFar terms w w
none_so_far terms w = record { exchanges = []; serves = refl }

serves_one_more : (terms : Terms) (a b c : LinkWorld) (xs : List Exchange) (e : Exchange) → ServesAll terms a xs b
    → Serves terms b c e → e.request.last ≡ false → ServesAll terms a (xs ++ e ∷ []) c
serves_one_more terms a b c [] e same serves going =
    (c, subst (λ v. Serves terms v c e) (sym same) serves, going, refl)
serves_one_more terms a b c (x ∷ xs) e all serves going =
    (all.0, all.1, all.2, serves_one_more terms all.0 b c xs e all.3 serves going)

-- one more request was served, and the link goes on
pub one_more : (terms : Terms) (a b c : LinkWorld) → ServesSoFar terms a b → Turns terms turn.GoOn b c → ServesSoFar terms a c
one_more terms a b c far next = record {
  exchanges = far.exchanges ++ next.0 ∷ [];
  serves = serves_one_more terms a b c far.exchanges next.0 far.serves next.1 next.2;
}

-- the link ends after a final request
pub link_final : (terms : Terms) (a b c : LinkWorld) → ServesSoFar terms a b → Turns terms turn.Final b c
    → Serving terms a c end.Ended
link_final terms a b c far next =
    record { exchanges = far.exchanges; reached = b; serves = far.serves; stops = inl (refl, next) }

-- the link ends for another reason
pub link_stops : (terms : Terms) (a b c : LinkWorld) (ends : LinkEnd) → ServesSoFar terms a b → Turns terms (turn.Stop ends) b c
    → Serving terms a c ends
link_stops terms a b c ends far stops =
    record { exchanges = far.exchanges; reached = b; serves = far.serves; stops = inr stops }

-- memory was refused before any request was read
pub none_serves : (terms : Terms) (w : LinkWorld) → Serving terms w w end.NoMemory
none_serves terms w = record { exchanges = []; reached = w; serves = refl; stops = inr (inl refl) }

-- ---- what a link comes to

-- what was done between two moments of a link
abbrev Goes : LinkWorld → LinkWorld → Type 0
Goes w w' = (history : List Item) × Between history w.gate w'.gate

goes_along : (w w' : LinkWorld) → w'.gate ≡ w.gate → Goes w w'
goes_along w w' same = ([], subst (λ g. Between [] w.gate g) (sym same) (between-none w.gate))

goes_twice : (a b c : LinkWorld) → Goes a b → Goes b c → Goes a c
goes_twice a b c first then = (first.0 ++ then.0, between-append first.1 then.1)

all_go : (terms : Terms) (w w' : LinkWorld) (xs : List Exchange) → ServesAll terms w xs w' → Goes w w'
all_go terms w w' [] same = goes_along w w' (ap (λ v. v.gate) (sym same))
all_go terms w w' (e ∷ more) serves =
    goes_twice w serves.0 w' (e.history, serves.1.carries.gate) (all_go terms serves.0 w' more serves.3)

stop_goes : (terms : Terms) (ends : LinkEnd) (w w' : LinkWorld) → Stops terms ends w w' → Goes w w'
stop_goes terms end.Ended w w' stops = goes_along w w' stops.1.gate
stop_goes terms end.Cut w w' stops = goes_along w w' stops.2.gate
stop_goes terms (end.Malformed fault) w w' stops = goes_along w w' stops.1.gate
stop_goes terms end.ReadFault w w' stops = goes_along w w' stops.1.gate
stop_goes terms end.WriteFault w w' (inl stops) = (stops.0.history, stops.1.gate)
stop_goes terms end.WriteFault w w' (inr (inl stops)) = goes_along w w' stops.2.gate
stop_goes terms end.WriteFault w w' (inr (inr stops)) = goes_along w w' stops.1.gate
stop_goes terms end.NoMemory w w' (inl same) = goes_along w w' (ap (λ v. v.gate) same)
stop_goes terms end.NoMemory w w' (inr (inl stops)) = goes_along w w' stops.1.gate
stop_goes terms end.NoMemory w w' (inr (inr (inl stops))) = goes_along w w' stops.2.gate
stop_goes terms end.NoMemory w w' (inr (inr (inr (inl stops)))) = (stops.0.history, stops.1.gate)
stop_goes terms end.NoMemory w w' (inr (inr (inr (inr stops)))) = goes_along w w' stops.2.gate
stop_goes terms (end.Events wanted) w w' stops = (stops.0.history, stops.1.gate)

-- what was done at the gate is one history
pub link_goes : (terms : Terms) (w w' : LinkWorld) (ends : LinkEnd) → Serving terms w w' ends → Goes w w'
link_goes terms w w' ends s = goes_twice w s.reached w' (all_go terms w s.reached s.exchanges s.serves) (by s.stops) where
  by : ((ends ≡ end.Ended) × Turns terms turn.Final s.reached w') ⊎ Stops terms ends s.reached w' → Goes s.reached w'
  by (inl (is, next)) = (next.0.history, next.1.carries.gate)
  by (inr stops) = stop_goes terms ends s.reached w' stops

-- the buffer never holds more than it may
few_along : (terms : Terms) (w w' : LinkWorld) (xs : List Exchange) → length w.held ≤ most_held → ServesAll terms w xs w'
    → length w'.held ≤ most_held
few_along terms w w' [] few same = subst (λ v. length v.held ≤ most_held) same few
few_along terms w w' (e ∷ more) few serves = few_along terms serves.0 w' more serves.1.carries.asked.few serves.3

-- it does not either where a fault stands next
few_next : (terms : Terms) (fault : HeadFault) (w w' : LinkWorld) → HasFault terms fault w w' → length w'.held ≤ most_held
few_next terms fault w w' (inl asks) = asks.few
few_next terms fault w w' (inr (request, asks, barred, is)) = asks.few

few_at : (terms : Terms) (ends : LinkEnd) (w w' : LinkWorld) → Stops terms ends w w' → length w.held ≤ most_held
    → length w'.held ≤ most_held
few_at terms end.Ended w w' stops few = stops.0.few
few_at terms end.Cut w w' stops few = stops.1.few
few_at terms (end.Malformed fault) w w' stops few = few_next terms fault w w' stops.0
few_at terms end.ReadFault w w' stops few = stops.0.few
few_at terms end.WriteFault w w' (inl stops) few = stops.1.asked.few
few_at terms end.WriteFault w w' (inr (inl stops)) few = few_next terms stops.0 w w' stops.1
few_at terms end.WriteFault w w' (inr (inr stops)) few = stops.0.few
few_at terms end.NoMemory w w' (inl same) few = subst (λ v. length v.held ≤ most_held) (sym same) few
few_at terms end.NoMemory w w' (inr (inl stops)) few = stops.0.few
few_at terms end.NoMemory w w' (inr (inr (inl stops))) few = few_next terms stops.0 w w' stops.1
few_at terms end.NoMemory w w' (inr (inr (inr (inl stops)))) few = stops.1.asked.few
few_at terms end.NoMemory w w' (inr (inr (inr (inr stops)))) few = stops.1.few
few_at terms (end.Events wanted) w w' stops few = stops.1.asked.few

pub link_few : (terms : Terms) (w w' : LinkWorld) (ends : LinkEnd) → length w.held ≤ most_held → Serving terms w w' ends
    → length w'.held ≤ most_held
link_few terms w w' ends few s = by s.stops where
  reached : length s.reached.held ≤ most_held
  reached = few_along terms w s.reached s.exchanges few s.serves

  by : ((ends ≡ end.Ended) × Turns terms turn.Final s.reached w') ⊎ Stops terms ends s.reached w'
      → length w'.held ≤ most_held
  by (inl (is, next)) = next.1.carries.asked.few
  by (inr stops) = few_at terms ends s.reached w' stops reached

-- ---- counts

-- no count of failures falls along requests that were served
sinks_later : (terms : Terms) (w w' : LinkWorld) (xs : List Exchange) → ServesAll terms w xs w' → w.sink.failures ≤ w'.sink.failures
sinks_later terms w w' [] same = subst (λ v. w.sink.failures ≤ v.sink.failures) same (omega arith)
sinks_later terms w w' (e ∷ more) serves =
    let first : w.sink.failures ≤ serves.0.sink.failures = serves.1.replied.later in
    let then : serves.0.sink.failures ≤ w'.sink.failures = sinks_later terms serves.0 w' more serves.3 in
    omega (arith, first, then)

sources_later : (terms : Terms) (w w' : LinkWorld) (xs : List Exchange) → ServesAll terms w xs w'
    → w.source.failures ≤ w'.source.failures
sources_later terms w w' [] same = subst (λ v. w.source.failures ≤ v.source.failures) same (omega arith)
sources_later terms w w' (e ∷ more) serves =
    let first : w.source.failures ≤ serves.0.source.failures = serves.1.carries.asked.later in
    let then : serves.0.source.failures ≤ w'.source.failures = sources_later terms serves.0 w' more serves.3 in
    omega (arith, first, then)

-- how a link stopped that did not end after a final request
stopped : (terms : Terms) (w w' : LinkWorld) (ends : LinkEnd) → ends ≢ end.Ended → (s : Serving terms w w' ends)
    → Stops terms ends s.reached w'
stopped terms w w' ends other s = by s.stops where
  by : ((ends ≡ end.Ended) × Turns terms turn.Final s.reached w') ⊎ Stops terms ends s.reached w'
      → Stops terms ends s.reached w'
  by (inl (is, next)) = absurd (other is)
  by (inr stops) = stops

pub link_cut : (terms : Terms) (w w' : LinkWorld) (ends : LinkEnd) → Serving terms w w' ends → ends ≡ end.Cut
    → w'.source.ended ≡ true
link_cut terms w w' ends s is = by (subst (Serving terms w w') is s) where
  by : Serving terms w w' end.Cut → w'.source.ended ≡ true
  by s = (stopped terms w w' end.Cut (λ e. cc) s).1.ended

pub link_read_fault : (terms : Terms) (w w' : LinkWorld) (ends : LinkEnd) → Serving terms w w' ends → ends ≡ end.ReadFault
    → Rose w.source.failures w'.source.failures
link_read_fault terms w w' ends s is = by (subst (Serving terms w w') is s) where
  by : Serving terms w w' end.ReadFault → Rose w.source.failures w'.source.failures
  by s =
      let rose : Rose s.reached.source.failures w'.source.failures =
      (stopped terms w w' end.ReadFault (λ e. cc) s).0.fault in
      let later : w.source.failures ≤ s.reached.source.failures =
      sources_later terms w s.reached s.exchanges s.serves in
      omega (arith, rose, later)

pub link_write_fault : (terms : Terms) (w w' : LinkWorld) (ends : LinkEnd) → Serving terms w w' ends → ends ≡ end.WriteFault
    → Rose w.sink.failures w'.sink.failures
link_write_fault terms w w' ends s is = by (subst (Serving terms w w') is s) where
  rose_from : (v : LinkWorld) → w.sink.failures ≤ v.sink.failures → Rose v.sink.failures w'.sink.failures
      → Rose w.sink.failures w'.sink.failures
  rose_from v later rose = omega (arith, rose, later)

  stops_rose : (v : LinkWorld) → Stops terms end.WriteFault v w' → Rose v.sink.failures w'.sink.failures
  stops_rose v (inl stops) =
      rose_after v.sink.failures stops.2.between.failures w'.sink.failures
      (gives_takes stops.0.request.expects v.sink stops.2.between stops.2.gives).later stops.2.breaks.rose
  stops_rose v (inr (inl stops)) = stops.3.rose
  stops_rose v (inr (inr stops)) = stops.0.breaks.rose

  by : Serving terms w w' end.WriteFault → Rose w.sink.failures w'.sink.failures
  by s = rose_from s.reached (sinks_later terms w s.reached s.exchanges s.serves)
      (stops_rose s.reached (stopped terms w w' end.WriteFault (λ e. cc) s))
