-- The commands of the program that serve no client: `make` writes requests, `check` tells what is kept, and `drill`
-- answers made requests in memory and tells what they came to.
use Rattle.std.specs.Prelude.{◌≡◌, ◌<◌, ◌++◌, ◌⊎◌, ℕ, List, [], Some, None, option_map}
use Rattle.std.specs.List.{All}
use Rattle.size_values.specs.Causes.{RoseBy}
use Rattle.size_values.specs.Moments.{moment_limit}
use Rattle.http_heads.specs.declared.request.Request.{Request}
use Rattle.http_front.specs.Clocks.{Readings, Reads}
use Rattle.record_keeper.specs.Store.{Store}
use Rattle.row_machine.specs.machine.State.{State}
use Rattle.row_machine.specs.opening.Records.{records_of}
use Rattle.rest_json.specs.declared.terms.Terms.{Terms}
use Rattle.start_faults.specs.core_rows.specs.Opening.{OpensTo, Refuses}
use Rattle.start_faults.specs.core_rows.specs.declared.opening.OpenFault.{OpenFault}
use Rattle.start_faults.specs.core_rows.specs.declared.opening.OpenFault.TheVariants as fault
use Rattle.serial_steps.specs.Steps.{Hosted, Serial, SerialWorld, serial, serial_world}
use Rattle.command_words.specs.declared.run_words.Pace.TheVariants as pace
use Rattle.serial_run.specs.Exchanges.{Exchange, LeadTo, moments_of, printed_replies}
use Rattle.serial_run.specs.Exchanges.{host_failures_of, keeper_failures_of}
use Rattle.serial_run.specs.Inputs.{requests_of, answered}
use Rattle.rest_answers.specs.Links.{BreaksOff, Takes}
use Rattle.serial_run.specs.Sessions.{Session}
use Rattle.serial_run.specs.Worlds.{Inlet, Outlet}
use Rattle.serial_run.specs.declared.session.SessionEnd.{SessionEnd}
use Rattle.serial_run.specs.declared.session.SessionEnd.TheVariants as end
use Rattle.serial_run.specs.Report.{report_of}
use Rattle.workload.specs.Summary.{summary}

-- ---- what is written

-- A text was written: all of it (status 0); or a write of it failed, which took a part of its front (5); or memory
-- was refused before any of it was written (9).
abbrev pub Tells : ℕ → List ℕ → Outlet → Outlet → Type 0
Tells status text sink sink' =
    ((status ≡ 0) × Takes sink sink' text)
    ⊎ ((status ≡ 5) × BreaksOff sink sink' text)
    ⊎ ((status ≡ 9) × (sink' ≡ sink))

-- ---- `check`

-- the exit status of a command whose rows were not opened
abbrev pub open_status : OpenFault → ℕ
open_status fault.KeeperFailed = 6
open_status (fault.Damaged kind key) = 7
open_status (fault.Broken rule kind key) = 7
open_status fault.NoMemory = 9

-- the rows were not opened, and nothing was written
pub record Unopened (status : ℕ) (sink sink' : Outlet) (store store' : Store) : Type 0 where
  pub why : OpenFault
  pub refuses : Refuses why store store'
  pub status_is : status ≡ open_status why
  pub silent : sink' ≡ sink

-- how many rows of each kind a state has, and its books, were told
abbrev pub TellsReport : ℕ → State → Outlet → Outlet → Type 0
TellsReport status state sink sink' = Tells status (report_of state) sink sink'

-- the entries of the keeper open to a state, of which was told; or they were not opened
abbrev pub Checks : ℕ → Outlet → Outlet → Store → Store → Type 0
Checks status sink sink' store store' =
    ((state : State) × OpensTo state store store' × TellsReport status state sink sink')
    ⊎ Unopened status sink sink' store store'

-- ---- `drill`

-- what is told of replies and of the rows after them
abbrev pub drilled_text : List ℕ → State → List ℕ
drilled_text replies state = summary replies ++ report_of state

-- Requests were answered from an empty buffer on, over a source that gives them all and a sink that had taken
-- nothing, and the worker made all of its steps after each. The replies are what the sink took.
pub record Answers (terms : Terms) (stream : List ℕ) (world later : SerialWorld) (replies : List ℕ)
    (ends : SessionEnd) : Type 0 where
  pub source : Inlet
  pub known : source.left ≡ Some stream
  pub sink : Outlet
  pub empty : sink.held ≡ Some []
  pub held : List ℕ
  pub source' : Inlet
  pub failures' : ℕ
  pub session : Session terms pace.All
      (record { held = []; source = source; sink = sink; serial_world = world })
      (record {
        held = held;
        source = source';
        sink = record { held = Some replies; failures = failures' };
        serial_world = later;
      })
      ends

-- Where all requests were answered, this text was told. Else memory was refused, and nothing is told.
abbrev pub TellsDrill : SessionEnd → ℕ → List ℕ → Outlet → Outlet → Type 0
TellsDrill end.Ended status text sink sink' = Tells status text sink sink'
TellsDrill other status text sink sink' = (status ≡ 9) × (sink' ≡ sink)

-- made requests were answered from here on, and what they came to was told
pub record Drilled (terms : Terms) (stream : List ℕ) (status : ℕ) (start : SerialWorld) (sink : Outlet) (store' : Store)
    (host' : Hosted) (clock' : Readings) (sink' : Outlet) : Type 0 where
  pub last : Serial
  pub replies : List ℕ
  pub ends : SessionEnd
  pub answers : Answers terms stream start (serial_world last store' host' clock') replies ends
  pub tells : TellsDrill ends status (drilled_text replies last.state) sink sink'

-- memory was refused before the first request
pub record OutOfMemory (status : ℕ) (start : SerialWorld) (sink : Outlet) (store' : Store) (host' : Hosted)
    (clock' : Readings)
    (sink' : Outlet) : Type 0 where
  pub status_is : status ≡ 9
  pub store : store' ≡ start.store
  pub host : host' ≡ start.host
  pub clock : clock' ≡ start.clock
  pub silent : sink' ≡ sink

abbrev pub DrillsOver : Terms → List ℕ → ℕ → SerialWorld → Outlet → Store → Hosted → Readings → Outlet → Type 0
DrillsOver terms stream status start sink store' host' clock' sink' =
    Drilled terms stream status start sink store' host' clock' sink'
    ⊎ OutOfMemory status start sink store' host' clock' sink'

-- the entries of the keeper open to a state, and made requests were answered from it on
pub record OpenedDrill (terms : Terms) (stream : List ℕ) (status : ℕ) (store : Store) (host : Hosted) (clock : Readings)
    (sink : Outlet) (store' : Store) (host' : Hosted) (clock' : Readings) (sink' : Outlet) : Type 0 where
  pub state : State
  pub opened : Store
  pub opens : OpensTo state store opened
  pub over : DrillsOver terms stream status
      (serial_world (serial state None) opened host clock) sink store' host' clock' sink'

-- the rows were not opened: no call of the host or of the clock was made either
pub record UnopenedDrill (status : ℕ) (store : Store) (host : Hosted) (clock : Readings) (sink : Outlet)
    (store' : Store) (host' : Hosted) (clock' : Readings) (sink' : Outlet) : Type 0 where
  pub unopened : Unopened status sink sink' store store'
  pub same_host : host' ≡ host
  pub same_clock : clock' ≡ clock

abbrev pub Drills : Terms → List ℕ → ℕ → Store → Hosted → Readings → Outlet → Store → Hosted → Readings → Outlet → Type 0
Drills terms stream status store host clock sink store' host' clock' sink' =
    OpenedDrill terms stream status store host clock sink store' host' clock' sink'
    ⊎ UnopenedDrill status store host clock sink store' host' clock' sink'

-- The drill did what its requests ask, and nothing else. They lead, each with its moment, its outcome, its reply and
-- the steps of the worker, from the rows that the keeper's entries open to, with no call in hand, to some rows, and
-- with them the store and the host to those at the end. What was written is the summary of their replies and the
-- report of the rows. The keeper has the records of the rows, and the counts of failures bear the outcomes out.
pub record DrillsText (terms : Terms) (messages : List Request) (status : ℕ) (store : Store) (host : Hosted)
    (clock : Readings) (sink : Outlet) (store' : Store) (host' : Hosted) (clock' : Readings) (sink' : Outlet)
    : Type 0 where
  pub state : State
  pub opened : Store
  pub opens : OpensTo state store opened
  pub exchanges : List Exchange
  pub last : Serial
  pub requests_are : requests_of exchanges ≡ answered messages
  pub leads : LeadTo terms pace.All (serial_world (serial state None) opened host clock) exchanges
      (serial_world last store' host' clock')
  pub moments : Reads clock (moments_of exchanges) clock'
  pub early : All (λ moment. moment < moment_limit) (moments_of exchanges)
  pub written : Tells status (drilled_text (printed_replies terms exchanges) last.state) sink sink'
  pub kept : store'.contents ≡ option_map (λ _. records_of last.state) store.contents
  pub keeper_failed : RoseBy (keeper_failures_of exchanges) store.failures store'.failures
  pub host_failed : RoseBy (host_failures_of exchanges) host.failures host'.failures
