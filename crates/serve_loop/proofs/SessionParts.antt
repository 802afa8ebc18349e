-- A session from its parts.
use Rattle.std.proofs.Common.{◌≡◌, length, take, drop, get_or, ◌+◌, ◌++◌, ◌⊎◌, ◌==◌, ℕ, Bool, false, List, [], ◌∷◌, refl, ap, sym, ◌∙◌, subst}
use Rattle.std.proofs.Common.{◌<◌, append_assoc, inl, inr, Some, Result, Ok, Err, IfOk, OnErr}
use Rattle.size_values.specs.declared.memory.NoMemory.{NoMemory}
use Rattle.std.proofs.lemmas.List.{append-nil, take-append-drop, take_more}
use Rattle.std.proofs.lemmas.Grind.{flat_map-append}
use Rattle.records.specs.declared.notices.Filter.{Filter}
use Rattle.records.specs.declared.notices.Notice.{Notice}
use Rattle.rest_replies.specs.Notices.{notice_text}
use Rattle.row_machine.specs.declared.events.Answer.{Answer}
use Rattle.row_machine.specs.declared.events.Answer.TheVariants as answer
use Rattle.row_machine.specs.declared.events.Event.TheVariants as event
use Rattle.row_machine.specs.declared.events.Fetched.{Fetched}
use Rattle.gates.specs.Chains.{Chain, more, none}
use Rattle.gates.specs.Gates.{Between, Seen}
use Rattle.gates.specs.History.{GateIdle, capped, idle, idled_after, turn, GateTurn}
use Rattle.gates.proofs.Histories.{between-append, between-none, between-idle, between-turn, chain-append, chain-one}
use Rattle.gates.specs.rest_answers.specs.Links.{Outlet, Takes}
use Rattle.gates.specs.rest_answers.specs.declared.writing.Written.{Written}
use Rattle.gates.specs.rest_answers.specs.declared.writing.Written.TheVariants as how
use Rattle.websocket.specs.declared.error.Error.{Error}
use Rattle.websocket.specs.declared.error.Error.TheVariants as error
use Rattle.websocket.specs.declared.protocol.frame.header.FrameHeader.{FrameHeader}
use Rattle.rest_json.specs.declared.terms.Terms.{Terms}
use Rattle.serve_loop.specs.ClientFrames.{Next, answer_at, answer_text, answer_to, next_in, payload_at, refusal, rest_at}
use Rattle.serve_loop.specs.ClientFrames.{unfinished, whole}
use Rattle.serve_loop.specs.Frames.{accepting_head, away_frame, text_frame}
use Rattle.serve_loop.specs.Listening.{Answered, Asks, EventWorld, GoesOn, Hears, KeepsRest, Leaves, Looks, after_sending}
use Rattle.serve_loop.specs.Listening.{end_after_sending, event_world, post_after}
use Rattle.serve_loop.specs.Sending.{Sends, SendsFront}
use Rattle.serve_loop.specs.Sessions.{Doing, Ends, ListenAt, SessionStage, Session, SourceBy, TakesFront, after_answer}
use Rattle.serve_loop.specs.Sessions.{after_fetched, after_next, after_notices, asking, at_gate, ended, fetched_text}
use Rattle.serve_loop.specs.Sessions.{frames_of, heard, hearing, idling, item_of, items, looked, looking, said, said_along}
use Rattle.serve_loop.specs.Sources.{Feed, LooksAt, broken, came, over, quiet}
use Rattle.serve_loop.specs.declared.answering.FrameAnswer.{FrameAnswer}
use Rattle.serve_loop.specs.declared.answering.FrameAnswer.TheVariants as reply
use Rattle.serve_loop.specs.declared.listening.ListenState.{ListenState}
use Rattle.serve_loop.specs.declared.listening.ListenState.TheVariants as state
use Rattle.serve_loop.specs.declared.listening.SessionPost.TheVariants as post
use Rattle.serve_loop.specs.declared.looking.Looked.{Looked}
use Rattle.serve_loop.specs.declared.looking.Looked.TheVariants as shown
use Rattle.serve_loop.specs.declared.session.SessionEnd.{SessionEnd}
use Rattle.serve_loop.specs.declared.session.SessionEnd.TheVariants as end
use Rattle.serve_loop.proofs.Taking.{ends_after, front_after, front_broken, front_more, front_none, front_same}
use Rattle.serve_loop.proofs.Taking.{takes_nothing, takes_twice}

-- ---- along trails

frames_append : (terms : Terms) (xs ys : List Notice) → frames_of terms (xs ++ ys) ≡ frames_of terms xs ++ frames_of terms ys
frames_append terms xs ys = flat_map-append (λ n. text_frame (notice_text n terms)) xs ys

items_append : (xs ys : List Doing) → items (xs ++ ys) ≡ items xs ++ items ys
items_append xs ys = flat_map-append item_of xs ys

-- what was owed and then said, and then said again
owed_along : (terms : Terms) (owed : List ℕ) (xs ys : List Doing)
    → owed ++ said_along terms (xs ++ ys) ≡ (owed ++ said_along terms xs) ++ said_along terms ys
owed_along terms owed xs ys =
    ap (λ l. owed ++ l) (flat_map-append (said terms) xs ys)
    ∙ sym (append_assoc owed (said_along terms xs) (said_along terms ys))

between_along : {a b c : Seen} (xs ys : List Doing) → Between (items xs) a b → Between (items ys) b c
    → Between (items (xs ++ ys)) a c
between_along {a} {b} {c} xs ys first then =
    subst (λ l. Between l a c) (sym (items_append xs ys)) (between-append first then)

-- ---- one part after another

pub hears_twice : {terms : Terms} {filter : Filter} {owed : List ℕ} {a b c : EventWorld} → Hears terms filter owed a b
    → Hears terms filter [] b c → Hears terms filter owed a c
hears_twice {terms} {filter} {owed} {a} {b} {c} first then = record {
  trail = first.trail ++ then.trail;
  due = chain-append first.due then.due;
  gate = between_along first.trail then.trail first.gate then.gate;
  read = chain-append first.read then.read;
  sent = subst (Takes a.sink c.sink) (sym (owed_along terms owed first.trail then.trail))
      (takes_twice first.sent then.sent);
}

-- what was heard, and how it ended then
pub hears_then : {terms : Terms} {filter : Filter} {owed : List ℕ} {a b : EventWorld} {source : Feed} {gate : Seen}
    {sink : Outlet} {ends : SessionEnd} → Hears terms filter owed a b → Leaves terms filter [] b source gate sink ends
    → Leaves terms filter owed a source gate sink ends
hears_then {terms} {filter} {owed} {a} {b} {source} {gate} {sink} {ends} first then = record {
  trail = first.trail ++ then.trail;
  stage = then.stage;
  due = chain-append first.due then.due;
  gate_is = between_along first.trail then.trail first.gate then.gate_is;
  read = chain-append first.read then.read;
  written = subst (Ends ends then.stage a.sink sink) (sym (owed_along terms owed first.trail then.trail))
      (ends_after a.sink b.sink sink (owed ++ said_along terms first.trail) (said_along terms then.trail) then.stage ends
      first.sent then.written);
}

pub none_heard : (terms : Terms) (filter : Filter) (w : EventWorld) → Hears terms filter [] w w
none_heard terms filter w =
    record { trail = []; due = none; gate = between-none w.gate; read = none; sent = takes_nothing w.sink }

-- ---- asking

asks_hears : {terms : Terms} {filter : Filter} {cursor : ℕ} {held : List ℕ} {f : Fetched} {source : Feed} {a b : Seen}
    {s : Outlet} {w : EventWorld} → Asks filter cursor (answer.Fetched f) a b
    → Hears terms filter (fetched_text terms f) (event_world (after_fetched f held) source b s) w
    → Hears terms filter [] (event_world (asking cursor held) source a s) w
asks_hears {filter} {cursor} {f} asks h = record {
  trail = at_gate (turn (event.Fetch cursor filter) asks.outcome (answer.Fetched f)) ∷ h.trail;
  due = more (refl, refl) h.due;
  gate = between-append asks.gate h.gate;
  read = more refl h.read;
  sent = h.sent;
}

pub asks_leaves : {terms : Terms} {filter : Filter} {cursor : ℕ} {held : List ℕ} {f : Fetched} {source source' : Feed}
    {a b gate : Seen} {s sink : Outlet} {ends : SessionEnd} → Asks filter cursor (answer.Fetched f) a b
    → Leaves terms filter (fetched_text terms f) (event_world (after_fetched f held) source b s) source' gate sink ends
    → Leaves terms filter [] (event_world (asking cursor held) source a s) source' gate sink ends
asks_leaves {filter} {cursor} {f} asks l = record {
  trail = at_gate (turn (event.Fetch cursor filter) asks.outcome (answer.Fetched f)) ∷ l.trail;
  stage = l.stage;
  due = more (refl, refl) l.due;
  gate_is = between-append asks.gate l.gate_is;
  read = more refl l.read;
  written = l.written;
}

pub asks_goes : (terms : Terms) (filter : Filter) (cursor : ℕ) (held : List ℕ) (f : Fetched) (source : Feed) (a b gate : Seen)
    (s sink : Outlet) (next : ListenState) → Asks filter cursor (answer.Fetched f) a b
    → GoesOn terms filter (fetched_text terms f) (event_world (after_fetched f held) source b s) next held source gate sink
    → GoesOn terms filter [] (event_world (asking cursor held) source a s) next held source gate sink
asks_goes terms filter cursor held f source a b gate s sink (state.At next) asks goes = asks_hears asks goes
asks_goes terms filter cursor held f source a b gate s sink (state.Over ends) asks goes = asks_leaves asks goes

-- memory was refused, before it was asked or for the answer
pub asks_refused : (terms : Terms) (filter : Filter) (cursor : ℕ) (held : List ℕ) (source : Feed) (a b : Seen) (s : Outlet)
    → (b ≡ a) ⊎ Asks filter cursor answer.NoMemory a b
    → Leaves terms filter [] (event_world (asking cursor held) source a s) source b s end.NoMemory
asks_refused terms filter cursor held source a b s (inl same) = record {
  trail = [];
  stage = asking cursor held;
  due = none;
  gate_is = subst (λ g. Between [] a g) (sym same) (between-none a);
  read = none;
  written = front_none s [];
}
asks_refused terms filter cursor held source a b s (inr asks) = record {
  trail = at_gate (turn (event.Fetch cursor filter) asks.outcome answer.NoMemory) ∷ [];
  stage = ended end.NoMemory;
  due = chain-one (refl, refl);
  gate_is = asks.gate;
  read = chain-one refl;
  written = front_none s [];
}

-- the events of this filter were asked for once
asks_once : {cursor : ℕ} {given : Answer} {old new : Seen} (filter of : Filter) → of ≡ filter
    → GateTurn old.contents (event.Fetch cursor of) given new.contents → new.turned ≡ capped (old.turned + 1)
    → new.idled ≡ old.idled → Asks filter cursor given old new
asks_once {cursor} {given} {old} {new} filter of is t turned idled_is =
    subst (λ f. Asks f cursor given old new) is
    (record { outcome = t.outcome; gate = between-turn t.by turned idled_is })

pub asks_ok : (cursor : ℕ) (given : Answer) (old new : Seen) (filter of : Filter) (r : Result Fetched NoMemory)
    → of ≡ filter → GateTurn old.contents (event.Fetch cursor of) given new.contents
    → new.turned ≡ capped (old.turned + 1) → new.idled ≡ old.idled
    → IfOk r (λ f. answer.Fetched f ≡ given) → IfOk r (λ f. Asks filter cursor (answer.Fetched f) old new)
asks_ok cursor given old new filter of (Ok f) is t turned idled_is got_it =
    subst (λ a. Asks filter cursor a old new) (sym got_it) (asks_once filter of is t turned idled_is)
asks_ok cursor given old new filter of (Err e) is t turned idled_is got_it = tt

pub asks_err : (cursor : ℕ) (given : Answer) (old new : Seen) (filter of : Filter) (r : Result Fetched NoMemory)
    → of ≡ filter → GateTurn old.contents (event.Fetch cursor of) given new.contents
    → new.turned ≡ capped (old.turned + 1) → new.idled ≡ old.idled
    → OnErr r (answer.NoMemory ≡ given) → OnErr r ((new ≡ old) ⊎ Asks filter cursor answer.NoMemory old new)
asks_err cursor given old new filter of (Ok f) is t turned idled_is got_none = tt
asks_err cursor given old new filter of (Err e) is t turned idled_is got_none =
    inr (subst (λ a. Asks filter cursor a old new) (sym got_none) (asks_once filter of is t turned idled_is))

-- ---- idling

-- a session idled, and looks at its source then
pub idles_on : {terms : Terms} {filter : Filter} {a b : Seen} {is_up : Bool} (held : List ℕ) (source : Feed) (s : Outlet)
    (next : ℕ)
    (t : GateIdle is_up a.contents b.contents) → b.turned ≡ a.turned → b.idled ≡ idled_after is_up a.idled
    → Hears terms filter [] (event_world (idling next held) source a s) (event_world (looking next held) source b s)
idles_on {is_up = is_up} held source s next t turned idled_is = record {
  trail = at_gate (idle is_up t.events) ∷ [];
  due = chain-one refl;
  gate = between-idle t.by turned idled_is;
  read = chain-one refl;
  sent = takes_nothing s;
}

-- ---- sending

split_at : (xs : List Notice) (i : ℕ) (d : Notice) → i < length xs
    → xs ≡ take i xs ++ get_or xs i d ∷ drop (i + 1) xs
split_at xs i d within =
    sym (take-append-drop (i + 1) xs)
    ∙ ap (λ l. l ++ drop (i + 1) xs) (take_more xs i d within)
    ∙ append_assoc (take i xs) (get_or xs i d ∷ []) (drop (i + 1) xs)

-- the events before one were sent, and of that one a front
pub front_at : {a b c : Outlet} (terms : Terms) (xs : List Notice) (i : ℕ) (n : Notice) → i < length xs
    → n ≡ get_or xs i n → Takes a b (frames_of terms (take i xs))
    → TakesFront b c (text_frame (notice_text n terms)) → TakesFront a c (frames_of terms xs)
front_at {a} {b} {c} terms xs i n within is takes front =
    subst (TakesFront a c)
    (sym (ap (frames_of terms) (split_at xs i n within)
    ∙ frames_append terms (take i xs) (get_or xs i n ∷ drop (i + 1) xs)))
    (front_after takes (front_more (frames_of terms (drop (i + 1) xs))
    (subst (λ m. TakesFront b c (text_frame (notice_text m terms))) is front)))

-- all events of an answer were sent, or some were
sends_goes : (terms : Terms) (filter : Filter) (n : Notice) (ns : List Notice) (next : ℕ) (held : List ℕ) (source : Feed)
    (g : Seen) (s s' : Outlet) (written : Written) → SendsFront written (frames_of terms (n ∷ ns)) s s'
    → GoesOn terms filter (frames_of terms (n ∷ ns)) (event_world (looking next held) source g s)
    (after_sending written (post.Looking next)) held source g s'
sends_goes terms filter n ns next held source g s s' how.Whole takes = record {
  trail = [];
  due = none;
  gate = between-none g;
  read = none;
  sent = subst (Takes s s') (sym (append-nil (frames_of terms (n ∷ ns)))) takes;
}
sends_goes terms filter n ns next held source g s s' how.WriteFault front = record {
  trail = [];
  stage = looking next held;
  due = none;
  gate_is = between-none g;
  read = none;
  written = (front_more [] front.0, front.1);
}
sends_goes terms filter n ns next held source g s s' how.NoMemory front = record {
  trail = [];
  stage = looking next held;
  due = none;
  gate_is = between-none g;
  read = none;
  written = front_more [] front;
}

-- the same, where there are events
pub some_sent : (terms : Terms) (filter : Filter) (ns : List Notice) (next : ℕ) (held : List ℕ) (source : Feed) (g : Seen)
    (s s' : Outlet) (written : Written) → (length ns == 0) ≡ false → SendsFront written (frames_of terms ns) s s'
    → GoesOn terms filter (frames_of terms ns) (event_world (after_notices ns next held) source g s)
    (after_sending written (post.Looking next)) held source g s'
some_sent terms filter [] next held source g s s' written some sends = cc
some_sent terms filter (n ∷ ns) next held source g s s' written some sends =
    sends_goes terms filter n ns next held source g s s' written sends

-- the last text of a session was written, or could not be
pub closes : {terms : Terms} {filter : Filter} {source : Feed} {g : Seen} {s s' : Outlet} (text : List ℕ) (ends : SessionEnd)
    → ((t : List ℕ) → Takes s s' t → Ends ends (ended ends) s s' t) → (written : Written) → Sends written text s s'
    → Leaves terms filter text (event_world (ended ends) source g s) source g s' (end_after_sending written ends)
closes {g} {s} {s'} text ends last how.Whole takes = record {
  trail = [];
  stage = ended ends;
  due = none;
  gate_is = between-none g;
  read = none;
  written = last (text ++ []) (subst (Takes s s') (sym (append-nil text)) takes);
}
closes {g} text ends last how.WriteFault breaks = record {
  trail = [];
  stage = ended ends;
  due = none;
  gate_is = between-none g;
  read = none;
  written = (front_more [] (front_broken breaks), breaks.rose);
}
closes {g} text ends last how.NoMemory same = record {
  trail = [];
  stage = ended ends;
  due = none;
  gate_is = between-none g;
  read = none;
  written = front_same (text ++ []) same;
}

-- ---- looking

-- nothing was there
pub quiet_goes : {terms : Terms} {filter : Filter} {source source' : Feed} {held held' : List ℕ} (cursor : ℕ) (g : Seen)
    (s : Outlet) (l : Looked) → l ≡ shown.Quiet → Looks l source held source' held'
    → Hears terms filter [] (event_world (looking cursor held) source g s) (event_world (asking cursor held') source' g s)
quiet_goes {source} {source'} {held} {held'} cursor g s l is given =
    let looks : Looks shown.Quiet source held source' held' = subst (λ m. Looks m source held source' held') is given in
    record {
      trail = looked quiet ∷ [];
      due = chain-one (ap (asking cursor) looks.1);
      gate = between-none g;
      read = chain-one looks.0;
      sent = takes_nothing s;
    }

-- some bytes were there
pub came_goes : {terms : Terms} {filter : Filter} {source source' : Feed} {held held' : List ℕ} (cursor : ℕ) (g : Seen)
    (s : Outlet) (l : Looked) → l ≡ shown.Came → Looks l source held source' held'
    → Hears terms filter [] (event_world (looking cursor held) source g s) (event_world (hearing cursor held') source' g s)
came_goes {source} {source'} {held} {held'} cursor g s l is given =
    let looks : Looks shown.Came source held source' held' = subst (λ m. Looks m source held source' held') is given in
    record {
      trail = looked (came looks.0) ∷ [];
      due = chain-one (ap (hearing cursor) looks.2);
      gate = between-none g;
      read = chain-one looks.1;
      sent = takes_nothing s;
    }

-- the source has ended, and the session left
pub over_leaves : {terms : Terms} {filter : Filter} {source source' later : Feed} {held : List ℕ} {cursor : ℕ}
    {g gate : Seen} {s sink : Outlet} {ends : SessionEnd} (held' : List ℕ) (l : Looked) → l ≡ shown.Over
    → Looks l source held source' held'
    → Leaves terms filter away_frame (event_world (ended end.Ended) source' g s) later gate sink ends
    → Leaves terms filter [] (event_world (looking cursor held) source g s) later gate sink ends
over_leaves {source} {source'} {held} held' l is given leaves =
    let looks : Looks shown.Over source held source' held' = subst (λ m. Looks m source held source' held') is given in
    record {
      trail = looked over ∷ leaves.trail;
      stage = leaves.stage;
      due = more refl leaves.due;
      gate_is = leaves.gate_is;
      read = more looks.0 leaves.read;
      written = leaves.written;
    }

-- the read failed
pub broken_leaves : {terms : Terms} {filter : Filter} {source source' : Feed} {held : List ℕ} {cursor : ℕ} (held' : List ℕ)
    (g : Seen) (s : Outlet) (l : Looked) → l ≡ shown.Broken → Looks l source held source' held'
    → Leaves terms filter [] (event_world (looking cursor held) source g s) source' g s end.ReadFault
broken_leaves {source} {source'} {held} held' g s l is given =
    let looks : Looks shown.Broken source held source' held' = subst (λ m. Looks m source held source' held') is given in
    record {
      trail = looked broken ∷ [];
      stage = ended end.ReadFault;
      due = chain-one refl;
      gate_is = between-none g;
      read = chain-one looks.0;
      written = (refl, takes_nothing s);
    }

-- memory was refused where a session stood
pub stays_refused : {terms : Terms} {filter : Filter} {source : Feed} (w : SessionStage) (g : Seen) (s : Outlet)
    → Leaves terms filter [] (event_world w source g s) source g s end.NoMemory
stays_refused w g s = record {
  trail = [];
  stage = w;
  due = none;
  gate_is = between-none g;
  read = none;
  written = front_none s [];
}

-- ---- hearing

-- no frame was whole
pub unfinished_goes : {terms : Terms} {filter : Filter} {source : Feed} (held : List ℕ) (cursor : ℕ) (g : Seen) (s : Outlet)
    → next_in held ≡ unfinished
    → Hears terms filter [] (event_world (hearing cursor held) source g s) (event_world (asking cursor held) source g s)
unfinished_goes held cursor g s is = record {
  trail = heard unfinished ∷ [];
  due = chain-one (sym is, refl);
  gate = between-none g;
  read = chain-one refl;
  sent = takes_nothing s;
}

heard_on : {terms : Terms} {filter : Filter} {source : Feed} {g : Seen} {s s' : Outlet} (next : Next) (held : List ℕ)
    (cursor : ℕ) (stage : SessionStage) → next ≡ next_in held → stage ≡ after_next cursor held next
    → Takes s s' (said terms (heard next))
    → Hears terms filter [] (event_world (hearing cursor held) source g s) (event_world stage source g s')
heard_on {terms} {g} {s} {s'} next held cursor stage is then takes = record {
  trail = heard next ∷ [];
  due = chain-one (is, then);
  gate = between-none g;
  read = chain-one refl;
  sent = subst (Takes s s') (sym (append-nil (said terms (heard next)))) takes;
}

heard_out : {terms : Terms} {filter : Filter} {source : Feed} {g : Seen} {s s' : Outlet} (next : Next) (held : List ℕ)
    (cursor : ℕ) (ends : SessionEnd) → next ≡ next_in held
    → Ends ends (after_next cursor held next) s s' (said terms (heard next) ++ [])
    → Leaves terms filter [] (event_world (hearing cursor held) source g s) source g s' ends
heard_out {g} next held cursor ends is written = record {
  trail = heard next ∷ [];
  stage = after_next cursor held next;
  due = chain-one (is, refl);
  gate_is = between-none g;
  read = chain-one refl;
  written = written;
}

unwritten : (a : FrameAnswer) (cursor : ℕ) → post_after how.WriteFault a cursor ≡ state.Over end.WriteFault
unwritten reply.Nothing cursor = refl
unwritten reply.Pong cursor = refl
unwritten (reply.Close code) cursor = refl

unmade : (a : FrameAnswer) (cursor : ℕ) → post_after how.NoMemory a cursor ≡ state.Over end.NoMemory
unmade reply.Nothing cursor = refl
unmade reply.Pong cursor = refl
unmade (reply.Close code) cursor = refl

-- what stood next was answered so
answers_goes : (terms : Terms) (filter : Filter) (source : Feed) (g : Seen) (s s' : Outlet) (next : Next)
    (held held' : List ℕ) (cursor : ℕ) → next ≡ next_in held
    → after_next cursor held next ≡ after_answer cursor (rest_at next held) (answer_at next)
    → (a : FrameAnswer) → answer_at next ≡ a → (written : Written) → Sends written (said terms (heard next)) s s'
    → KeepsRest written next held held'
    → GoesOn terms filter [] (event_world (hearing cursor held) source g s) (post_after written a cursor) held' source g s'
answers_goes terms filter source g s s' next held held' cursor is then reply.Nothing e how.Whole takes rest =
    heard_on next held cursor (hearing cursor held') is
    (ap (hearing cursor) rest ∙ sym (then ∙ ap (after_answer cursor (rest_at next held)) e)) takes
answers_goes terms filter source g s s' next held held' cursor is then reply.Pong e how.Whole takes rest =
    heard_on next held cursor (hearing cursor held') is
    (ap (hearing cursor) rest ∙ sym (then ∙ ap (after_answer cursor (rest_at next held)) e)) takes
answers_goes terms filter source g s s' next held held' cursor is then (reply.Close code) e how.Whole takes rest =
    heard_out next held cursor (end.Closed code) is (
      then ∙ ap (after_answer cursor (rest_at next held)) e,
      subst (Takes s s') (sym (append-nil (said terms (heard next)))) takes,
    )
answers_goes terms filter source g s s' next held held' cursor is then a e how.WriteFault breaks rest =
    subst (λ p. GoesOn terms filter [] (event_world (hearing cursor held) source g s) p held' source g s')
    (sym (unwritten a cursor))
    (heard_out next held cursor end.WriteFault is (front_more [] (front_broken breaks), breaks.rose))
answers_goes terms filter source g s s' next held held' cursor is then a e how.NoMemory same rest =
    subst (λ p. GoesOn terms filter [] (event_world (hearing cursor held) source g s) p held' source g s')
    (sym (unmade a cursor))
    (heard_out next held cursor end.NoMemory is (front_same (said terms (heard next) ++ []) same))

pub answered_goes : {s s' : Outlet} {next : Next} {held held' : List ℕ} {cursor : ℕ} {goes : ListenState} (terms : Terms)
    (filter : Filter) (source : Feed) (g : Seen) → next ≡ next_in held
    → after_next cursor held next ≡ after_answer cursor (rest_at next held) (answer_at next)
    → Answered next cursor goes held held' s s'
    → GoesOn terms filter [] (event_world (hearing cursor held) source g s) goes held' source g s'
answered_goes {s} {s'} {next} {held} {held'} {cursor} {goes} terms filter source g is then answered =
    subst (λ p. GoesOn terms filter [] (event_world (hearing cursor held) source g s) p held' source g s')
    (sym answered.goes_is)
    (answers_goes terms filter source g s s' next held held' cursor is then (answer_at next) refl answered.written
    answered.sends answered.rest)

pub keeps_rest : (written : Written) (next : Next) (held held' : List ℕ) → held' ≡ rest_at next held
    → KeepsRest written next held held'
keeps_rest how.Whole next held held' is = is
keeps_rest how.WriteFault next held held' is = tt
keeps_rest how.NoMemory next held held' is = tt

-- an answer to a whole frame
pub hears_frame : {s s' : Outlet} {goes : ListenState} {held held' : List ℕ} {a : FrameAnswer} {payload : List ℕ}
    (header : FrameHeader) (unmasked rest : List ℕ) (cursor : ℕ) (written : Written) → payload ≡ unmasked
    → a ≡ answer_to header payload → Sends written (answer_text a payload) s s'
    → goes ≡ post_after written a cursor → held' ≡ rest
    → Answered (whole header unmasked rest) cursor goes held held' s s'
hears_frame {s} {s'} {goes} {held} {held'} {a} {payload} header unmasked rest cursor written same is sends goes_is rest_is =
    let a_is : a ≡ answer_to header unmasked = is ∙ ap (answer_to header) same in
    record {
      written = written;
      sends = subst (λ b. Sends written (answer_text b unmasked) s s') a_is
          (subst (λ p. Sends written (answer_text a p) s s') same sends);
      goes_is = goes_is ∙ ap (λ b. post_after written b cursor) a_is;
      rest = keeps_rest written (whole header unmasked rest) held held' rest_is;
    }

-- memory for its payload was refused
pub unheard : (next : Next) (cursor : ℕ) (held : List ℕ) (s : Outlet)
    → Answered next cursor (state.Over end.NoMemory) held held s s
unheard next cursor held s =
    record { written = how.NoMemory; sends = refl; goes_is = sym (unmade (answer_at next) cursor); rest = tt }

-- an answer to what is no frame
pub refuses : {s s' : Outlet} {goes : ListenState} (next : Next) (held : List ℕ) (code cursor : ℕ) (written : Written)
    → answer_at next ≡ reply.Close (Some code) → rest_at next held ≡ held
    → Sends written (answer_text (reply.Close (Some code)) []) s s'
    → goes ≡ post_after written (reply.Close (Some code)) cursor → Answered next cursor goes held held s s'
refuses {s} {s'} next held code cursor written is same sends goes_is = record {
  written = written;
  sends = subst (λ b. Sends written (answer_text b (payload_at next)) s s') (sym is) sends;
  goes_is = goes_is ∙ ap (λ b. post_after written b cursor) (sym is);
  rest = keeps_rest written next held held (sym same);
}

-- what is no frame is held on, and closes the session
pub refusal_rest : (e : Error) (held : List ℕ) → rest_at (refusal e) held ≡ held
refusal_rest error.ConnectionClosed held = refl
refusal_rest error.AlreadyClosed held = refl
refusal_rest (error.Capacity why) held = refl
refusal_rest (error.Protocol why) held = refl
refusal_rest error.Utf8 held = refl
refusal_rest error.OutOfMemory held = refl

pub refusal_after : (e : Error) (cursor : ℕ) (held : List ℕ)
    → after_next cursor held (refusal e) ≡ after_answer cursor (rest_at (refusal e) held) (answer_at (refusal e))
refusal_after error.ConnectionClosed cursor held = refl
refusal_after error.AlreadyClosed cursor held = refl
refusal_after (error.Capacity why) cursor held = refl
refusal_after (error.Protocol why) cursor held = refl
refusal_after error.Utf8 cursor held = refl
refusal_after error.OutOfMemory cursor held = refl

-- ---- a whole session

-- the first answer came, the head was written, and then it ended so
pub session_goes : {terms : Terms} {key : List ℕ} {filter : Filter} {f : Fetched} {source source' : Feed} {a b gate : Seen}
    {s s' sink : Outlet} {ends : SessionEnd} → Asks filter 0 (answer.Fetched f) a b → Takes s s' (accepting_head key)
    → Leaves terms filter (fetched_text terms f) (event_world (after_fetched f []) source b s') source' gate sink ends
    → Session terms key filter source a s source' gate sink ends
session_goes {terms} {key} {filter} {f} {s} {s'} {sink} {ends} asks head l = record {
  trail = at_gate (turn (event.Fetch 0 filter) asks.outcome (answer.Fetched f)) ∷ l.trail;
  stage = l.stage;
  due = more (refl, refl) l.due;
  gate = between-append asks.gate l.gate_is;
  read = more refl l.read;
  written = ends_after s s' sink (accepting_head key) (fetched_text terms f ++ said_along terms l.trail) l.stage ends head
      l.written;
}

-- the first answer came, and the head could not be written
pub session_stops : {terms : Terms} {key : List ℕ} {filter : Filter} {f : Fetched} {source : Feed} {a b : Seen}
    {s s' : Outlet} (ends : SessionEnd) → Asks filter 0 (answer.Fetched f) a b
    → ((p : SessionStage) (t : List ℕ) → Ends ends p s s' (accepting_head key ++ t))
    → Session terms key filter source a s source b s' ends
session_stops {terms} {filter} {f} ends asks written = record {
  trail = at_gate (turn (event.Fetch 0 filter) asks.outcome (answer.Fetched f)) ∷ [];
  stage = after_fetched f [];
  due = chain-one (refl, refl);
  gate = asks.gate;
  read = chain-one refl;
  written = written (after_fetched f []) (fetched_text terms f ++ []);
}

-- memory was refused before the first answer, or for it
pub session_refused : (terms : Terms) (key : List ℕ) (filter : Filter) (source : Feed) (a b : Seen) (s : Outlet)
    → (b ≡ a) ⊎ Asks filter 0 answer.NoMemory a b → Session terms key filter source a s source b s end.NoMemory
session_refused terms key filter source a b s (inl same) = record {
  trail = [];
  stage = asking 0 [];
  due = none;
  gate = subst (λ g. Between [] a g) (sym same) (between-none a);
  read = none;
  written = front_none s [];
}
session_refused terms key filter source a b s (inr asks) = record {
  trail = at_gate (turn (event.Fetch 0 filter) asks.outcome answer.NoMemory) ∷ [];
  stage = ended end.NoMemory;
  due = chain-one (refl, refl);
  gate = asks.gate;
  read = chain-one refl;
  written = front_none s _;
}
