-- Words for examples: commands and whole operations as lists of events, and what is read of a run.
use Rattle.std.specs.Prelude.{ℕ, List, [], ◌∷◌, ◌++◌, Option, Some, None, codes, option_map, option_and_then}
use Rattle.row_machine.specs.Words.{Amounts, Action, ObjectKind, Settings, NamedDevices, Target, Body, What, Refusal}
use Rattle.row_machine.specs.Words.kind
use Rattle.row_machine.specs.Words.report
use Rattle.row_machine.specs.Words.origin
use Rattle.row_machine.specs.Words.what
use Rattle.row_machine.specs.Words.reply
use Rattle.row_machine.specs.Words.driver
use Rattle.row_machine.specs.declared.events.Event.{Event}
use Rattle.row_machine.specs.declared.events.Event.TheVariants as event
use Rattle.row_machine.specs.declared.events.Answer.{Answer}
use Rattle.row_machine.specs.declared.events.Answer.TheVariants as answer
use Rattle.row_machine.specs.machine.State.{State}
use Rattle.row_machine.specs.opening.Opening.{with_rows, first_rows}
use Rattle.row_machine.specs.machine.Step.{Outcome, well}
use Rattle.row_machine.specs.machine.Runs.{run}
use Rattle.row_machine.specs.machine.Usage.{usage_of}

-- what happens, with what the outside made of it
abbrev pub Events : Type 0
Events = List (Event × Outcome)

-- ---- commands, all at the moment 0

-- the project and the profile that are there from the beginning
abbrev pub default : List ℕ
default = codes "default"

-- an object of this kind and name
abbrev pub named : ObjectKind → List ℕ → Target
named of name = record { kind = of; pool = []; instance = []; name = name }

-- a body without fields
abbrev pub no_body : Body
no_body = record {
  description = None;
  config = None;
  devices = None;
  profiles = None;
  kind = None;
  ephemeral = None;
  driver = None;
  origin = origin.None;
}

-- a body with settings alone
abbrev pub with_config : Settings → Body
with_config config = record no_body { config = Some config }

-- a command in a project, which goes well
abbrev pub ask : List ℕ → What → Events
ask project asked = (event.Ask (record { project = project; what = asked; expects = None }) 0, well) ∷ []

-- a creation of a project with these settings
abbrev pub make_project : List ℕ → Settings → Events
make_project name config = ask default (what.Create (named kind.Project name) (with_config config))

-- a change of these settings of a project
abbrev pub patch_project : List ℕ → Settings → Events
patch_project name config = ask default (what.Patch (named kind.Project name) (with_config config))

-- the pool `p0`
abbrev pub make_pool : Events
make_pool = ask default (what.Create (named kind.Pool (codes "p0")) (record no_body { driver = Some driver.Dir }))

-- a root disk of 1 GiB in that pool
abbrev pub root_disk : NamedDevices
root_disk = (
  codes "root",
  (codes "path", codes "/") ∷ (codes "pool", codes "p0") ∷ (codes "size", codes "1GiB")
      ∷ (codes "type", codes "disk") ∷ [],
) ∷ []

-- a creation of a profile
abbrev pub make_profile : List ℕ → List ℕ → Settings → NamedDevices → Events
make_profile project name config devices =
    ask project (what.Create (named kind.Profile name)
    (record no_body { config = Some config; devices = Some devices }))

-- a profile gets these settings and devices
abbrev pub put_profile : List ℕ → List ℕ → Settings → NamedDevices → Events
put_profile project name config devices =
    ask project (what.Put (named kind.Profile name) (record no_body { config = Some config; devices = Some devices }))

-- the profile `default` of a project gets the root disk
abbrev pub put_default : List ℕ → Events
put_default project = put_profile project default [] root_disk

-- a creation of a container from nothing
abbrev pub make_instance : List ℕ → List ℕ → Settings → Events
make_instance project name config = ask project (what.Create (named kind.Instance name) (with_config config))

-- a snapshot without a name is made
abbrev pub make_snapshot : List ℕ → List ℕ → Events
make_snapshot project instance = ask project
    (what.Create (record { kind = kind.Snapshot; pool = []; instance = instance; name = [] }) no_body)

-- a snapshot is deleted
abbrev pub delete_snapshot : List ℕ → List ℕ → List ℕ → Events
delete_snapshot project instance name = ask project
    (what.Delete (record { kind = kind.Snapshot; pool = []; instance = instance; name = name }))

-- the state of an instance is changed
abbrev pub act : List ℕ → List ℕ → Action → Events
act project name action = ask project (what.Act (named kind.Instance name) action)

-- an operation is cancelled
abbrev pub cancel : ℕ → Events
cancel number = ask default (what.Cancel number)

-- ---- work: an operation's calls are taken and done

-- a worker takes the next call
abbrev pub take : Events
take = (event.Take 0, well) ∷ []

-- a worker reports that a call was done
abbrev pub done : ℕ → Events
done number = (event.Done number report.Done 0, well) ∷ []

-- an operation of one call, and one of two
abbrev pub work : ℕ → Events
work number = take ++ done number

-- an operation of two calls
abbrev pub work_twice : ℕ → Events
work_twice number = take ++ done number ++ done number

-- ---- what is read of a run from a new server

-- a new server
abbrev pub begin : State
begin = with_rows first_rows

-- the last element
abbrev pub last_of : {X : Type 0} → List X → Option X
last_of [] = None
last_of (item ∷ []) = Some item
last_of (item ∷ other ∷ rest) = last_of (other ∷ rest)

-- the answer to the last event
abbrev pub last_answer : Events → Option Answer
last_answer events = option_and_then (λ ran. last_of ran.answers) (run begin events)

-- the refusal that an answer tells
abbrev pub refusal_in : Answer → Option Refusal
refusal_in (answer.Reply (reply.Refused refusal)) = Some refusal
refusal_in other = None

-- the refusal of the last event
abbrev pub last_refusal : Events → Option Refusal
last_refusal events = option_and_then refusal_in (last_answer events)

-- the operation that an answer tells of
abbrev pub number_in : Answer → Option ℕ
number_in (answer.Reply (reply.Started view)) = Some view.number
number_in other = None

-- the operation that the last event began
abbrev pub last_started : Events → Option ℕ
last_started events = option_and_then number_in (last_answer events)

-- the state after all events
abbrev pub state_after : Events → Option State
state_after events = option_map (λ ran. ran.state) (run begin events)

-- the usage of a project after all events
abbrev pub usage_after : Events → List ℕ → Option Amounts
usage_after events project = option_map (λ state. usage_of state project) (state_after events)
