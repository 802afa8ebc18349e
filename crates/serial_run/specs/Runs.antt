-- A run of the program: its words are read, the rows are opened, and one session follows.
use Rattle.std.specs.Prelude.{◌≡◌, ◌≤◌, ◌⊎◌, ℕ, List, [], length, true, false, Option, Some, None, IfSome, unwrap_or}
use Rattle.http_front.specs.Clocks.{Readings, standing_still}
use Rattle.http_front.specs.Held.{most_held}
use Rattle.size_values.specs.declared.entry.Entry.{Entry}
use Rattle.record_keeper.specs.Store.{Store}
use Rattle.row_machine.specs.machine.State.{State}
use Rattle.row_machine.specs.opening.Opening.{Opening, opened, opening_of}
use Rattle.rest_json.specs.declared.terms.Terms.{Terms}
use Rattle.start_faults.specs.core_rows.specs.Opening.{AreContents, OpensTo, OpensToNone, Refuses}
use Rattle.start_faults.specs.core_rows.specs.Opening.{is_refused, opened_store}
use Rattle.start_faults.specs.core_rows.specs.declared.opening.OpenFault.{OpenFault}
use Rattle.start_faults.specs.core_rows.specs.declared.opening.OpenFault.TheVariants as fault
use Rattle.serial_steps.specs.Steps.{Serial, serial}
use Rattle.start_faults.specs.Starts.{IsUnopened, start_fault, start_status}
use Rattle.command_words.specs.RunWords.{boot_of, dialect_of, is_run, now_of, pace_of, words_of}
use Rattle.command_words.specs.declared.run_words.Pace.{Pace}
use Rattle.start_faults.specs.declared.fault.StartFault.{StartFault}
use Rattle.start_faults.specs.declared.fault.StartFault.TheVariants as start
use Rattle.serial_run.specs.declared.session.SessionEnd.{SessionEnd}
use Rattle.serial_run.specs.declared.session.SessionEnd.TheVariants as end
use Rattle.serial_run.specs.Inputs.{status_of}
use Rattle.serial_run.specs.Sessions.{Session}
use Rattle.serial_run.specs.Worlds.{Outside, SessionWorld, session_world}

-- the readings of the clock of a run: one that stands still at the moment that the words say, or the one that is
-- handed in
abbrev pub clock_of : Option ℕ → Readings → Readings
clock_of (Some moment) told = standing_still moment
clock_of None told = told

-- what a run with these words sees of the outside: the clock of the run in place of the one that is handed in
abbrev pub seen_with : List (List ℕ) → Outside → Outside
seen_with words out = record out { clock = clock_of (now_of words) out.clock }

-- where the words say a moment, the clock that is handed in is not read
abbrev pub IsUnread : Option ℕ → Readings → Readings → Type 0
IsUnread (Some moment) told told' = told' ≡ told
IsUnread None told told' = Unit {0}

-- The terms of a run: the boot word that the words say, or the one that is handed in; and the dialect that the words say.
-- A request on standard input is never refused for its `Origin`.
abbrev pub terms_with : List (List ℕ) → ℕ → Terms
terms_with words handed =
    record { boot = unwrap_or (boot_of words) handed; dialect = dialect_of words; refuses_origin = false }

-- A session from this world on, with the outside seen so at its end, and rows that nobody sees. What is still to come
-- is what its buffer holds, at most one head, one body and one piece, and what the source has left.
pub record SessionFrom (terms : Terms) (pace : Pace) (start : SessionWorld) (after : Outside) (ends : SessionEnd)
    : Type 0 where
  pub held : List ℕ
  pub few : length held ≤ most_held
  pub serial : Serial
  pub session : Session terms pace start (session_world held after serial) ends

-- what a session sees at its begin of an outside whose keeper had these entries, which open to this state: its rows,
-- whose records the entries are now, and no call in hand
abbrev pub begun : List Entry → State → Outside → SessionWorld
begun entries state before =
    session_world [] (record before { keeper = opened_store entries state before.keeper }) (serial state None)

-- the entries of the keeper were opened, and there was one session, from an empty buffer on
pub record Opened (terms : Terms) (pace : Pace) (before after : Outside) (status : ℕ) : Type 0 where
  pub entries : List Entry
  pub contents : AreContents entries before.keeper
  pub state : State
  pub opens : opening_of entries ≡ opened state
  pub ends : SessionEnd
  pub follows : SessionFrom terms pace (begun entries state before) after ends
  pub status_is : status ≡ status_of ends

-- The words were read, and there was one session over the clock of the run, on its terms, at the pace that the
-- words say.
pub record Ran (words : List (List ℕ)) (handed : ℕ) (before after : Outside) (status : ℕ) : Type 0 where
  pub read : is_run words ≡ true
  pub opened : Opened (terms_with words handed) (pace_of words) (seen_with words before) (seen_with words after) status
  pub unread : IsUnread (now_of words) before.clock after.clock

-- Why there was no session. Words that are not read leave the keeper as it was, as does out of memory while they are
-- read, and a refused opening does what it may do to it.
abbrev pub HasCauseToRefuse : StartFault → List (List ℕ) → Store → Store → Type 0
HasCauseToRefuse start.Words words keeper keeper' = (words_of words ≡ None) × (keeper' ≡ keeper)
HasCauseToRefuse start.KeeperFailed words keeper keeper' = (is_run words ≡ true)
    × Refuses fault.KeeperFailed keeper keeper'
HasCauseToRefuse start.Unopened words keeper keeper' = (is_run words ≡ true) × IsUnopened keeper keeper'
HasCauseToRefuse start.NoMemory words keeper keeper' = (keeper' ≡ keeper)
    ⊎ ((is_run words ≡ true) × Refuses fault.NoMemory keeper keeper')

-- The run had no session. No call of the source, of the sink, of the host or of the clock was made.
pub record Refused (words : List (List ℕ)) (before after : Outside) (status : ℕ) : Type 0 where
  pub why : StartFault
  pub cause : HasCauseToRefuse why words before.keeper after.keeper
  pub status_is : status ≡ start_status why
  pub source : after.source ≡ before.source
  pub sink : after.sink ≡ before.sink
  pub host : after.host ≡ before.host
  pub clock : after.clock ≡ before.clock

-- there was a session, or there was none
abbrev pub Runs : List (List ℕ) → ℕ → Outside → Outside → ℕ → Type 0
Runs words handed before after status = Ran words handed before after status ⊎ Refused words before after status

-- The rows were not opened. No call of the source, of the sink, of the host or of the clock was made.
pub record Unopened (before after : Outside) (status : ℕ) : Type 0 where
  pub why : OpenFault
  pub refuses : Refuses why before.keeper after.keeper
  pub status_is : status ≡ start_status (start_fault why)
  pub source : after.source ≡ before.source
  pub sink : after.sink ≡ before.sink
  pub host : after.host ≡ before.host
  pub clock : after.clock ≡ before.clock

-- once the words are read, the rows were opened and there was a session, or they were not
abbrev pub RunsOver : Terms → Pace → Outside → Outside → ℕ → Type 0
RunsOver terms pace before after status = Opened terms pace before after status ⊎ Unopened before after status
