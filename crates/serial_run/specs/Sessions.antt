-- A session: it serves requests, and then it stops for one reason. The terms say how they are read and printed, and
-- the pace says how many steps of the worker follow each reply.
use Rattle.std.specs.Prelude.{◌≡◌, ◌≢◌, ◌<◌, ◌≤◌, ◌⊎◌, ℕ, List, [], ◌∷◌, Bool, true, false, length, take}
use Rattle.std.specs.Prelude.{Result, Ok, Err, ◌+◌, ◌==◌, if◌then◌else◌}
use Rattle.http_heads.specs.declared.request.HeadFault.{HeadFault}
use Rattle.http_heads.specs.declared.request.Request.{Request}
use Rattle.http_front.specs.declared.read.Got.{Got}
use Rattle.http_front.specs.declared.read.Got.TheVariants as got
use Rattle.records.specs.declared.replies.Reply.TheVariants as reply
use Rattle.rest_json.specs.declared.terms.Terms.{Terms}
use Rattle.serial_steps.specs.Steps.{SerialWorld, Step}
use Rattle.command_words.specs.declared.run_words.Pace.{Pace}
use Rattle.rest_answers.specs.Links.{BreaksOff, Outlet, ReadsFrom, Takes}
use Rattle.rest_answers.specs.Texts.{IsUnprinted, malformed_text, printed, text_for}
use Rattle.rest_answers.specs.declared.answers.PrintedReply.{PrintedReply}
use Rattle.serial_run.specs.Exchanges.{Comes, Exchange, IsPaced, Leads}
use Rattle.serial_run.specs.declared.session.SessionEnd.{SessionEnd}
use Rattle.serial_run.specs.declared.session.SessionEnd.TheVariants as end
use Rattle.serial_run.specs.declared.session.Turn.{Turn}
use Rattle.serial_run.specs.declared.session.Turn.TheVariants as turn
use Rattle.serial_run.specs.Most.{most_requests}
use Rattle.serial_run.specs.Worlds.{SessionWorld}

-- ---- what one turn does to its parts

-- One call of `read_request` between two worlds answered this of the bytes to come and of the bytes held.
abbrev pub Asks : SessionWorld → SessionWorld → Got → Type 0
Asks world later answer = ReadsFrom world.held world.source answer later.held later.source

-- the server is as before, and no call of the keeper, of the host or of the clock was made
abbrev pub KeepsRows : SessionWorld → SessionWorld → Type 0
KeepsRows world later = later.serial_world ≡ world.serial_world

-- The next request was taken and came to its reply. No steps follow it yet.
pub record CarriesOut (terms : Terms) (world later : SessionWorld) (exchange : Exchange) : Type 0 where
  pub asked : Asks world later (got.Request exchange.request)
  pub comes : Comes terms world.serial_world exchange later.serial_world
  pub still : exchange.steps ≡ []

-- The next request was taken and came to its reply, which was written whole, and the steps of the pace followed.
pub record Serves (terms : Terms) (pace : Pace) (world later : SessionWorld) (exchange : Exchange) : Type 0 where
  pub asked : Asks world later (got.Request exchange.request)
  pub leads : Leads terms pace world.serial_world exchange later.serial_world
  pub replied : Takes world.sink later.sink (printed exchange.reply terms exchange.request)

-- ---- stops

-- What stands next where a session stops before another request was answered whole, and what was done of it: nothing
-- after the end of the input and at a failed read; its reply at a malformed place; a part of a reply where a write
-- failed; and where memory was refused, nothing is written, after a request was carried out or before.
abbrev pub Stops : Terms → SessionEnd → SessionWorld → SessionWorld → Type 0
Stops terms end.Ended world later = Asks world later got.End × KeepsRows world later × (later.sink ≡ world.sink)
Stops terms end.Cut world later =
    (count : ℕ) × Asks world later (got.Cut count) × KeepsRows world later × (later.sink ≡ world.sink)
Stops terms (end.Malformed fault) world later = Asks world later (got.Malformed fault) × KeepsRows world later
    × Takes world.sink later.sink (malformed_text fault)
Stops terms end.ReadFault world later =
    Asks world later got.ReadFault × KeepsRows world later × (later.sink ≡ world.sink)
Stops terms end.WriteFault world later =
    ((exchange : Exchange) × CarriesOut terms world later exchange
    × BreaksOff world.sink later.sink (printed exchange.reply terms exchange.request))
    ⊎ ((fault : HeadFault) × Asks world later (got.Malformed fault) × KeepsRows world later
    × BreaksOff world.sink later.sink (malformed_text fault))
Stops terms end.Spent world later = later ≡ world
Stops terms end.NoMemory world later =
    (Asks world later got.NoMemory × KeepsRows world later × (later.sink ≡ world.sink))
    ⊎ ((fault : HeadFault) × Asks world later (got.Malformed fault) × KeepsRows world later × (later.sink ≡ world.sink))
    ⊎ ((exchange : Exchange) × CarriesOut terms world later exchange
    × (exchange.reply ≢ reply.NoMemory) × (later.sink ≡ world.sink))

-- one turn: the next request was answered, or the session stops
abbrev pub Turns : Terms → Pace → Turn → SessionWorld → SessionWorld → Type 0
Turns terms pace turn.GoOn world later =
    (exchange : Exchange) × Serves terms pace world later exchange × (exchange.request.last ≡ false)
Turns terms pace turn.Final world later =
    (exchange : Exchange) × Serves terms pace world later exchange × (exchange.request.last ≡ true)
Turns terms pace (turn.Stop ends) world later = Stops terms ends world later × (ends ≢ end.Spent)

-- ---- a session

-- requests were answered one after the other
abbrev pub ServesAll : Terms → Pace → SessionWorld → List Exchange → SessionWorld → Type 0
ServesAll terms pace world [] later = world ≡ later
ServesAll terms pace world (exchange ∷ more) later =
    (next : SessionWorld) × Serves terms pace world next exchange × ServesAll terms pace next more later

-- no request of these is the last one on its connection
abbrev pub AllGoOn : List Exchange → Type 0
AllGoOn [] = Unit {0}
AllGoOn (exchange ∷ more) = (exchange.request.last ≡ false) × AllGoOn more

-- the final request, and no other one, is the last one on its connection
abbrev pub OnlyFinalEnds : List Exchange → Type 0
OnlyFinalEnds [] = ⊥
OnlyFinalEnds (exchange ∷ []) = exchange.request.last ≡ true
OnlyFinalEnds (exchange ∷ other ∷ more) = (exchange.request.last ≡ false) × OnlyFinalEnds (other ∷ more)

-- how many requests were answered whole before a stop: fewer than a session may take, but where it took all of them
abbrev pub CountsAt : SessionEnd → ℕ → Type 0
CountsAt end.Spent n = n ≡ most_requests
CountsAt end.Ended n = n < most_requests
CountsAt end.Cut n = n < most_requests
CountsAt (end.Malformed fault) n = n < most_requests
CountsAt end.ReadFault n = n < most_requests
CountsAt end.WriteFault n = n < most_requests
CountsAt end.NoMemory n = n < most_requests

-- After a final request a session stops as Ended, or as Spent where it is the one that fills the number, and does
-- nothing more.
abbrev pub StopsAfterFinal : SessionEnd → Type 0
StopsAfterFinal end.Ended = Unit {0}
StopsAfterFinal end.Spent = Unit {0}
StopsAfterFinal end.Cut = ⊥
StopsAfterFinal (end.Malformed fault) = ⊥
StopsAfterFinal end.ReadFault = ⊥
StopsAfterFinal end.WriteFault = ⊥
StopsAfterFinal end.NoMemory = ⊥

-- A session from one world to a later one: the requests that it answered whole, the world after them, and how it
-- stopped there. Either none of them was the last on its connection, or the final one alone was.
pub record Session (terms : Terms) (pace : Pace) (world later : SessionWorld) (ends : SessionEnd) : Type 0 where
  pub exchanges : List Exchange
  pub reached : SessionWorld
  pub serves : ServesAll terms pace world exchanges reached
  pub counted : CountsAt ends (length exchanges)
  pub stops : (AllGoOn exchanges × Stops terms ends reached later)
      ⊎ (OnlyFinalEnds exchanges × StopsAfterFinal ends × (later ≡ reached))

-- ---- the parts of a turn, one by one

-- how a request was answered that was answered whole
abbrev pub turn_after_reply : Bool → Turn
turn_after_reply true = turn.Final
turn_after_reply false = turn.GoOn

-- what a turn comes to, from whether its reply was written and whether its request is the last on its connection
abbrev pub turn_after : {T E : Type 0} → Result T E → Bool → Turn
turn_after (Ok value) last = turn_after_reply last
turn_after (Err error) last = turn.Stop end.WriteFault

-- An answer was written whole and the turn goes on as its request says, or some first bytes of it and the write failed;
-- or nothing was, since memory for it was refused.
abbrev pub WritesAnswer : Turn → PrintedReply → Request → Outlet → Outlet → Type 0
WritesAnswer turn.GoOn answer request sink sink' =
    (request.last ≡ false) × ¬ IsUnprinted answer × Takes sink sink' (text_for answer request)
WritesAnswer turn.Final answer request sink sink' =
    (request.last ≡ true) × ¬ IsUnprinted answer × Takes sink sink' (text_for answer request)
WritesAnswer (turn.Stop end.WriteFault) answer request sink sink' =
    ¬ IsUnprinted answer × BreaksOff sink sink' (text_for answer request)
WritesAnswer (turn.Stop end.NoMemory) answer request sink sink' = IsUnprinted answer × (sink' ≡ sink)
WritesAnswer (turn.Stop other) answer request sink sink' = ⊥

-- After an answer that was written whole the steps of the pace were made, and where the session stops none were.
abbrev pub GoesOn : Pace → Turn → SerialWorld → SerialWorld → Type 0
GoesOn pace turn.GoOn world later = (steps : List Step) × IsPaced pace world steps later
GoesOn pace turn.Final world later = (steps : List Step) × IsPaced pace world steps later
GoesOn pace (turn.Stop ends) world later = later ≡ world

-- A malformed place was answered by its rule, or of that reply some first bytes were written, or memory was refused
-- before it.
abbrev pub RefusesPlace : HeadFault → SessionEnd → Outlet → Outlet → Type 0
RefusesPlace fault (end.Malformed other) sink sink' = (other ≡ fault) × Takes sink sink' (malformed_text fault)
RefusesPlace fault end.WriteFault sink sink' = BreaksOff sink sink' (malformed_text fault)
RefusesPlace fault end.NoMemory sink sink' = sink' ≡ sink
RefusesPlace fault end.Ended sink sink' = ⊥
RefusesPlace fault end.Cut sink sink' = ⊥
RefusesPlace fault end.ReadFault sink sink' = ⊥
RefusesPlace fault end.Spent sink sink' = ⊥

-- Where a session stops after a final request, with this many requests answered before it: the number may be full with
-- it.
abbrev pub end_after_final : ℕ → SessionEnd
end_after_final done = if done + 1 == most_requests then end.Spent else end.Ended
