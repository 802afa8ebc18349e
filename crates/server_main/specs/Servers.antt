-- What a server comes to, from its words on.
use Rattle.std.specs.Prelude.{◌≡◌, ◌⊎◌, ◌^◌, ℕ, true, List, Option, Some, None, is_some, Result, Ok, Err}
use Rattle.std.specs.Option.{option_map_or, unwrap_or}
use Rattle.record_keeper.specs.Store.{Store}
use Rattle.row_machine.specs.machine.State.{State}
use Rattle.start_faults.specs.core_rows.specs.Opening.{OpensTo, Refuses}
use Rattle.start_faults.specs.core_rows.specs.declared.opening.OpenFault.TheVariants as fault
use Rattle.serving.specs.Accepts.{Seen}
use Rattle.serving.specs.Counts.{Counts}
use Rattle.serving.specs.Serves.{IsServed}
use Rattle.serving.specs.Troubles.{IsCaused, status_of}
use Rattle.serving.specs.declared.trouble.Trouble.{Trouble}
use Rattle.command_words.specs.ServeWords.{serve_words_of}
use Rattle.command_words.specs.declared.serve_words.ServeWords.{ServeWords}
use Rattle.start_faults.specs.Starts.{IsUnopened, start_status}
use Rattle.start_faults.specs.declared.fault.StartFault.{StartFault}
use Rattle.start_faults.specs.declared.fault.StartFault.TheVariants as start

-- what a server sees of the outside at one moment: what its doors tell, what its spawner began, and how many starts
-- were refused
pub record Outside : Type 0 where
  pub doors : Seen
  pub counts : Counts
  pub refused : ℕ

abbrev pub outside : Seen → Counts → ℕ → Outside
outside doors counts refused = record { doors = doors; counts = counts; refused = refused }

-- Why no server was begun. Words that are not read leave the keeper as it was, as does out of memory while they are
-- read, and a refused opening does what it may do to it.
abbrev pub HasCauseToRefuse : StartFault → List (List ℕ) → Store → Store → Type 0
HasCauseToRefuse start.Words words keeper keeper' = (serve_words_of words ≡ None) × (keeper' ≡ keeper)
HasCauseToRefuse start.KeeperFailed words keeper keeper' = (is_some (serve_words_of words) ≡ true)
    × Refuses fault.KeeperFailed keeper keeper'
HasCauseToRefuse start.Unopened words keeper keeper' = (is_some (serve_words_of words) ≡ true)
    × IsUnopened keeper keeper'
HasCauseToRefuse start.NoMemory words keeper keeper' = (keeper' ≡ keeper)
    ⊎ ((is_some (serve_words_of words) ≡ true) × Refuses fault.NoMemory keeper keeper')

-- No server was begun. The keeper is given back, no link was accepted and no job begun.
pub record NotBegun (words : List (List ℕ)) (keeper : Store) (back : Option Store) (before after : Outside) (status : ℕ)
    : Type 0 where
  pub why : StartFault
  pub left : Store
  pub given_back : back ≡ Some left
  pub cause : HasCauseToRefuse why words keeper left
  pub status_is : status ≡ start_status why
  pub same : after ≡ before

-- how many connections are served in all: more than ever come, where the words say no number of them
abbrev pub connections_of : ServeWords → ℕ
connections_of said = unwrap_or said.connections (2 ^ 62)

-- how many connections are served at once by these words, and none where they are not read
abbrev pub at_once_in : List (List ℕ) → ℕ
at_once_in words = option_map_or (λ (said : ServeWords). said.at_once) (serve_words_of words) 0

-- A server served its links, or had trouble with its doors or its spawner, or was out of memory.
abbrev pub EndsBy : ServeWords → Result (Unit {0}) Trouble → Outside → Outside → Type 0
EndsBy said (Ok unit) before after =
    IsServed (connections_of said) said.at_once said.workers after.doors after.counts
EndsBy said (Err trouble) before after = IsCaused trouble before.doors.failed after.doors.failed
    before.refused after.refused

-- once the words are read and the rows are opened: the server kept the keeper, and ended so
pub record Begun (words : List (List ℕ)) (keeper : Store) (back : Option Store) (before after : Outside) (status : ℕ)
    : Type 0 where
  pub said : ServeWords
  pub read : serve_words_of words ≡ Some said
  pub state : State
  pub opened : Store
  pub opens : OpensTo state keeper opened
  pub kept : back ≡ None
  pub ends : Result (Unit {0}) Trouble
  pub ends_by : EndsBy said ends before after
  pub status_is : status ≡ status_of ends

-- a server was begun or not
abbrev pub Serves : List (List ℕ) → Store → Option Store → Outside → Outside → ℕ → Type 0
Serves words keeper back before after status =
    Begun words keeper back before after status ⊎ NotBegun words keeper back before after status

-- ---- what a status says

-- the keeper was given back, and this is true of it
abbrev pub GivesBack : Option Store → (Store → Type 0) → Type 0
GivesBack (Some left) P = P left
GivesBack None P = ⊥

-- the words were read, and the links and workers that they ask for were served
pub record ServesAll (words : List (List ℕ)) (after : Outside) : Type 0 where
  pub said : ServeWords
  pub read : serve_words_of words ≡ Some said
  pub served : IsServed (connections_of said) said.at_once said.workers after.doors after.counts
