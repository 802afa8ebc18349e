-- A drill, told of the requests that it answers.
use Rattle.std.proofs.Common.{◌≡◌, ◌<◌, ◌++◌, ◌⊎◌, ℕ, List, [], Option, Some, None, refl, ap, sym, subst, ◌∙◌, inl, inr, arith}
use Rattle.std.proofs.lemmas.List.{append-nil}
use Rattle.std.specs.Io.KnownBytes.{Appends, prepend_known}
use Rattle.size_values.specs.Causes.{RoseBy}
use Rattle.http_heads.specs.Messages.{Splits, ended}
use Rattle.http_heads.specs.declared.request.Request.{Request}
use Rattle.http_front.specs.Clocks.{Readings}
use Rattle.record_keeper.specs.Store.{Store}
use Rattle.serial_steps.specs.Steps.{Hosted, Serial, SerialWorld, serial, serial_world}
use Rattle.row_machine.specs.machine.State.{State}
use Rattle.rest_json.specs.declared.terms.Terms.{Terms}
use Rattle.start_faults.specs.core_rows.specs.Opening.{OpensTo}
use Rattle.start_faults.specs.core_rows.specs.declared.opening.OpenFault.{OpenFault}
use Rattle.start_faults.specs.core_rows.specs.declared.opening.OpenFault.TheVariants as fault
use Rattle.command_words.specs.declared.run_words.Pace.TheVariants as pace
use Rattle.serial_run.specs.Exchanges.{Exchange, LeadTo, moments_of, printed_replies, keeper_failures_of}
use Rattle.serial_run.specs.Exchanges.{host_failures_of}
use Rattle.serial_run.proofs.Along.{IsAlong}
use Rattle.serial_run.specs.declared.session.SessionEnd.{SessionEnd}
use Rattle.serial_run.specs.declared.session.SessionEnd.TheVariants as end
use Rattle.serial_run.specs.Sessions.{Session}
use Rattle.serial_run.specs.Worlds.{Outlet, SessionWorld}
use Rattle.rest_answers.proofs.Linking.{appends_twice}
use Rattle.serial_run.proofs.Served.{Together, together}
use Rattle.serial_run.proofs.Whole.{IsDue, session_due}
use Rattle.serial_run.proofs.Quiet.{StopsQuietly, session_quietly}
use Rattle.serial_run.specs.Commands.{Answers, Drilled, Drills, DrillsOver, DrillsText, Tells, TellsDrill}
use Rattle.serial_run.specs.Commands.{UnopenedDrill, drilled_text, open_status}

-- no status of a command that wrote something is one of these
wrote : {P : Type 0} (status n : ℕ) → status ≡ n → 5 < n → (status ≡ 0) ⊎ (status ≡ 5) → P
wrote status n is large (inl zero) = let none : ⊥ = omega (arith, is, large, zero) in absurd none
wrote status n is large (inr five) = let none : ⊥ = omega (arith, is, large, five) in absurd none

-- the rows were opened
opened : {P : Type 0} (status : ℕ) (sink sink' : Outlet) (store store' : Store) (host host' : Hosted) (clock clock' : Readings)
    → UnopenedDrill status store host clock sink store' host' clock' sink' → (status ≡ 0) ⊎ (status ≡ 5) → P
opened {P = P} status sink sink' store store' host host' clock clock' d wrote_some = by d.unopened.why d.unopened.status_is where
  by : (why : OpenFault) → status ≡ open_status why → P
  by fault.KeeperFailed is = wrote status 6 is (omega arith) wrote_some
  by (fault.Damaged kind key) is = wrote status 7 is (omega arith) wrote_some
  by (fault.Broken rule kind key) is = wrote status 7 is (omega arith) wrote_some
  by fault.NoMemory is = wrote status 9 is (omega arith) wrote_some

-- bytes appended to none are all there are
all_there_are : (known : Option (List ℕ)) (replies bytes : List ℕ) → known ≡ Some [] → Appends known (Some replies) (bytes ++ []) → replies ≡ bytes
all_there_are known replies bytes empty appends =
    subst (λ k. Appends k (Some replies) (bytes ++ [])) empty appends ∙ append-nil bytes

-- a drill that answered all of its requests, from an opened state on
answered_drill : (terms : Terms) (stream : List ℕ) (messages : List Request) (status : ℕ) (store opened : Store) (s : State)
    (host : Hosted) (clock : Readings) (sink : Outlet) (store' : Store) (host' : Hosted) (clock' : Readings) (sink' : Outlet)
    (last : Serial) (replies : List ℕ)
    → OpensTo s store opened
    → Answers terms stream (serial_world (serial s None) opened host clock) (serial_world last store' host' clock') replies end.Ended
    → Tells status (drilled_text replies last.state) sink sink' → Splits stream messages ended
    → DrillsText terms messages status store host clock sink store' host' clock' sink'
answered_drill terms stream messages status store opened s host clock sink store' host' clock' sink' last replies opens a tells splits = record {
  state = s;
  opened = opened;
  opens = opens;
  exchanges = a.session.exchanges;
  last = last;
  requests_are = due.requests_are;
  leads = subst (LeadTo terms pace.All (serial_world (serial s None) opened host clock) a.session.exchanges) (sym quiet.serial_world) all.leads;
  moments = along.clock;
  early = along.early;
  written = subst (λ text. Tells status (drilled_text text last.state) sink sink') replies_are tells;
  kept = along.kept store.contents (ap (λ st. st.contents) opens.after);
  keeper_failed = subst (λ n. RoseBy (keeper_failures_of a.session.exchanges) n store'.failures) (ap (λ st. st.failures) opens.after)
      along.keeper_failed;
  host_failed = along.host_failed;
} where
  before : SessionWorld
  before = record { held = []; source = a.source; sink = a.sink; serial_world = serial_world (serial s None) opened host clock }

  after : SessionWorld
  after = record { held = a.held; source = a.source'; sink = record { held = Some replies; failures = a.failures' }; serial_world = serial_world last store' host' clock' }

  all : Together terms pace.All before a.session.exchanges a.session.reached
  all = together terms pace.All before a.session.reached a.session.exchanges a.session.serves

  due : IsDue messages ended end.Ended a.session.exchanges
  due = session_due terms pace.All before after end.Ended stream messages ended a.session (ap (prepend_known []) a.known) splits tt

  quiet : StopsQuietly end.Ended a.session.reached after
  quiet = session_quietly terms pace.All before after end.Ended a.session tt

  along : IsAlong before.serial_world (moments_of a.session.exchanges) (keeper_failures_of a.session.exchanges)
      (host_failures_of a.session.exchanges) after.serial_world
  along = subst (IsAlong before.serial_world (moments_of a.session.exchanges) (keeper_failures_of a.session.exchanges)
      (host_failures_of a.session.exchanges)) (sym quiet.serial_world) all.along

  replies_are : replies ≡ printed_replies terms a.session.exchanges
  replies_are = all_there_are a.sink.held replies (printed_replies terms a.session.exchanges) a.empty
      (appends_twice a.sink.held a.session.reached.sink.held (Some replies) (printed_replies terms a.session.exchanges) [] all.written quiet.written)

-- where something was written, all requests were answered
pub drill_text : (terms : Terms) (stream : List ℕ) (status : ℕ) (store : Store) (host : Hosted) (clock : Readings) (sink : Outlet)
    (store' : Store) (host' : Hosted) (clock' : Readings) (sink' : Outlet)
    → Drills terms stream status store host clock sink store' host' clock' sink'
    → (messages : List Request) → Splits stream messages ended → (status ≡ 0) ⊎ (status ≡ 5)
    → DrillsText terms messages status store host clock sink store' host' clock' sink'
drill_text terms stream status store host clock sink store' host' clock' sink' (inr d) messages splits some =
    opened status sink sink' store store' host host' clock clock' d some
drill_text terms stream status store host clock sink store' host' clock' sink' (inl o) messages splits some = over o.over where
  by : (d : Drilled terms stream status (serial_world (serial o.state None) o.opened host clock) sink store' host' clock' sink') (ends : SessionEnd)
      → Answers terms stream (serial_world (serial o.state None) o.opened host clock) (serial_world d.last store' host' clock') d.replies ends
      → TellsDrill ends status (drilled_text d.replies d.last.state) sink sink'
      → DrillsText terms messages status store host clock sink store' host' clock' sink'
  by d end.Ended answers tells = answered_drill terms stream messages status store o.opened o.state host clock sink store' host' clock' sink'
      d.last d.replies o.opens answers tells splits
  by d end.Cut answers tells = wrote status 9 tells.0 (omega arith) some
  by d (end.Malformed fault) answers tells = wrote status 9 tells.0 (omega arith) some
  by d end.ReadFault answers tells = wrote status 9 tells.0 (omega arith) some
  by d end.WriteFault answers tells = wrote status 9 tells.0 (omega arith) some
  by d end.NoMemory answers tells = wrote status 9 tells.0 (omega arith) some
  by d end.Spent answers tells = wrote status 9 tells.0 (omega arith) some

  over : DrillsOver terms stream status (serial_world (serial o.state None) o.opened host clock) sink store' host' clock' sink'
      → DrillsText terms messages status store host clock sink store' host' clock' sink'
  over (inl d) = by d d.ends d.answers d.tells
  over (inr out) = wrote status 9 out.status_is (omega arith) some
