-- A server that is begun, and one that is not.
use Rattle.std.proofs.Common.{◌≡◌, ℕ, ◌+◌, ◌∙◌, true, List, [], Option, Some, None, Result, Ok, Err, IfErr, OnOk}
use Rattle.std.proofs.Common.{refl, ap, sym, inl, inr}
use Rattle.std.proofs.lemmas.Iterator.Adapters.{option_map_id}
use Rattle.std.specs.Option.{is_some, option_map_or}
use Rattle.record_keeper.specs.Store.{Store}
use Rattle.row_machine.specs.machine.State.{State}
use Rattle.row_machine.specs.opening.Opening.{damaged, broken}
use Rattle.start_faults.specs.core_rows.specs.Opening.{OpensTo, Refuses}
use Rattle.start_faults.specs.core_rows.specs.declared.opening.OpenFault.{OpenFault}
use Rattle.start_faults.specs.core_rows.specs.declared.opening.OpenFault.TheVariants as fault
use Rattle.serving.specs.Counts.{Counts, none_begun}
use Rattle.serving.specs.Serves.{AreHandled, GivesFirst, IsServed}
use Rattle.serving.specs.Troubles.{IsCaused, status_of}
use Rattle.serving.specs.declared.trouble.Trouble.{Trouble}
use Rattle.command_words.specs.ServeWords.{serve_words_of}
use Rattle.command_words.specs.declared.serve_words.ServeWords.{ServeWords}
use Rattle.start_faults.specs.Starts.{start_fault, start_status}
use Rattle.start_faults.specs.declared.fault.StartFault.TheVariants as start
use Rattle.server_main.specs.Servers.{EndsBy, HasCauseToRefuse, Outside, Serves, at_once_in, connections_of}

-- doors that gave no link
pub gives_none : {T : Type 0} (given : ℕ) (left : Option (List T)) → given ≡ 0 → GivesFirst 0 given left left
gives_none given left none = record { links = []; count = none; first = sym (option_map_id left) }

-- doors that gave no link, and a spawner that had begun nothing
pub none_handled : {n given : ℕ} {counts : Counts} → given ≡ 0 → counts ≡ none_begun → AreHandled n given counts
none_handled none idle = record {
  away = 0;
  links = ap (λ c. c.links + c.declined + 0) idle ∙ sym none;
  full = inl refl;
}

-- how many connections are served at once, where the words are read
pub at_once_said : (words : List (List ℕ)) (said : ServeWords) → serve_words_of words ≡ Some said → at_once_in words ≡ said.at_once
at_once_said words said read = ap (λ o. option_map_or (λ (s : ServeWords). s.at_once) o 0) read

-- how a server ended, from what is known of each end
pub ends_so : (said : ServeWords) (ends : Result (Unit {0}) Trouble) (before after : Outside)
    → OnOk ends (IsServed (connections_of said) said.at_once said.workers after.doors after.counts)
    → IfErr ends (λ t. IsCaused t before.doors.failed after.doors.failed before.refused after.refused)
    → EndsBy said ends before after
ends_so said (Ok u) before after served caused = served
ends_so said (Err trouble) before after served caused = caused

-- a refused opening is a cause to begin no server
has_cause : (why : OpenFault) (words : List (List ℕ)) (keeper left : Store) → is_some (serve_words_of words) ≡ true
    → Refuses why keeper left → HasCauseToRefuse (start_fault why) words keeper left
has_cause fault.KeeperFailed words keeper left read refuses = (read, refuses)
has_cause (fault.Damaged kind key) words keeper left read refuses = (read, (damaged kind key, refl, refuses))
has_cause (fault.Broken rule kind key) words keeper left read refuses = (read, (broken rule kind key, refl, refuses))
has_cause fault.NoMemory words keeper left read refuses = inr (read, refuses)

module _ (words : List (List ℕ)) (keeper : Store) (before : Outside) where
  -- words that are not read
  pub words_unread : (status : ℕ) → status ≡ 8 → serve_words_of words ≡ None
      → Serves words keeper (Some keeper) before before status
  words_unread status is none = inr (record {
    why = start.Words;
    left = keeper;
    given_back = refl;
    cause = (none, refl);
    status_is = is;
    same = refl;
  })

  -- no memory for them
  pub words_refused : (status : ℕ) → status ≡ 9 → Serves words keeper (Some keeper) before before status
  words_refused status is = inr (record {
    why = start.NoMemory;
    left = keeper;
    given_back = refl;
    cause = inl refl;
    status_is = is;
    same = refl;
  })

  module _ (said : ServeWords) (read : serve_words_of words ≡ Some said) where
    -- rows that are not opened
    pub rows_unopened : (why : OpenFault) (left : Store) (status : ℕ) → Refuses why keeper left
        → status ≡ start_status (start_fault why) → Serves words keeper (Some left) before before status
    rows_unopened why left status refuses is = inr (record {
      why = start_fault why;
      left = left;
      given_back = refl;
      cause = has_cause why words keeper left (ap is_some read) refuses;
      status_is = is;
      same = refl;
    })

    -- a server that was begun
    pub server_begun : (state : State) (opened : Store) (ends : Result (Unit {0}) Trouble) (after : Outside) (status : ℕ)
        → OpensTo state keeper opened → EndsBy said ends before after → status ≡ status_of ends
        → Serves words keeper None before after status
    server_begun state opened ends after status opens by is = inl (record {
      said = said;
      read = read;
      state = state;
      opened = opened;
      opens = opens;
      kept = refl;
      ends = ends;
      ends_by = by;
      status_is = is;
    })
