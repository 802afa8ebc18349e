-- How the rows are opened.
use Rattle.std.specs.Prelude.{◌≡◌, ◌⊎◌, ℕ, List, [], ◌∷◌, IfSome, option_map, Bool, true, false, Result, Ok, Err}
use Rattle.plain_lists.specs.Members.{Each}
use Rattle.size_values.specs.CallCounts.{called}
use Rattle.size_values.specs.declared.entry.Entry.{Entry}
use Rattle.size_values.specs.declared.entry.EntryChange.{EntryChange}
use Rattle.record_keeper.specs.Entries.{IsOrderedEntries}
use Rattle.record_keeper.specs.Store.{Store, FailsAtCall, IsAfterUpTo, after_calls, after_commit}
use Rattle.row_machine.specs.machine.Plans.{put_all}
use Rattle.machine_laws.specs.Entries.{entry_changes}
use Rattle.machine_laws.specs.Openings.{HasBytes}
use Rattle.records.specs.declared.rows.Row.{Row}
use Rattle.core_drafts.specs.Drafted.{Drafted}
use Rattle.row_machine.specs.machine.State.{State}
use Rattle.row_machine.specs.opening.Opening.{Opening, opened, damaged, broken}
use Rattle.row_machine.specs.opening.Opening.{first_rows, with_rows, rows_in}
use Rattle.row_machine.specs.opening.Opening.{opening_by, opening_of}
use Rattle.row_machine.specs.opening.Records.{records_of}
use Rattle.core_rows.specs.EstateView.{EstateView}
use Rattle.core_rows.specs.declared.opening.OpenFault.{OpenFault}
use Rattle.core_rows.specs.declared.opening.OpenFault.TheVariants as fault

-- the state of a server without entries: the project `default` and its profile `default`
abbrev pub first_state : State
first_state = with_rows first_rows

-- these are the contents of a store, where it shows them
abbrev pub AreContents : List Entry → Store → Type 0
AreContents entries store = IfSome store.contents (λ contents. contents ≡ entries)

-- whether entries that open so give no state: one of them is damaged, or their rows break a rule
abbrev pub is_refused : Opening → Bool
is_refused (opened state) = false
is_refused (damaged kind key) = true
is_refused (broken rule kind key) = true

-- ---- the entries alone

-- A fault tells what entries open to: an entry is damaged, or the rows break a rule. Out of memory tells nothing of
-- them.
abbrev pub Tells : OpenFault → Opening → Type 0
Tells fault.KeeperFailed opening = ⊥
Tells (fault.Damaged kind key) opening = opening ≡ damaged kind key
Tells (fault.Broken rule kind key) opening = opening ≡ broken rule kind key
Tells fault.NoMemory opening = Unit {0}

-- these are the rows that entries spell; or a fault tells which entry spells none
abbrev pub GivesRows : Result (List Row) OpenFault → List Entry → Type 0
GivesRows (Ok rows) entries = rows_in entries ≡ Ok rows
GivesRows (Err why) entries = Tells why (opening_by (rows_in entries))

-- rows may stand, so that this state is what they open to; or a fault tells why not
abbrev pub Judges : {T : Type 0} → Result T OpenFault → State → Opening → Type 0
Judges (Ok unit) state opening = opening ≡ opened state
Judges (Err why) state opening = Tells why opening

-- settled rows in which no operation ever held a share are what entries open to; or a fault tells why there are none
abbrev pub GivesDraft : Result Drafted OpenFault → Opening → Type 0
GivesDraft (Ok draft) opening = (opening ≡ opened draft.state) × (draft.log ≡ []) × (draft.backing.greatest ≡ 0)
GivesDraft (Err why) opening = Tells why opening

-- the rows of the server are what entries open to, and nothing waits to be told; or a fault tells why there are none
abbrev pub Gives : Result EstateView OpenFault → Opening → Type 0
Gives (Ok kept) opening = (opening ≡ opened kept.state) × (kept.untold ≡ [])
Gives (Err why) opening = Tells why opening

-- ---- one call

-- A load found these entries, which are in order; or it failed or was out of memory.
abbrev pub Loads : Result (List Entry) OpenFault → Store → Store → Type 0
Loads (Ok entries) store store' =
    AreContents entries store × IsOrderedEntries entries × Each HasBytes entries × (store' ≡ after_calls 1 store)
Loads (Err fault.KeeperFailed) store store' = FailsAtCall 1 store store'
Loads (Err fault.NoMemory) store store' = store' ≡ after_calls 1 store
Loads (Err other) store store' = ⊥

-- these changes were committed in one call, or that call failed or was out of memory
abbrev pub Commits : {T : Type 0} → Result T OpenFault → List EntryChange → Store → Store → Type 0
Commits (Ok unit) changes store store' = store' ≡ after_commit changes store
Commits (Err fault.KeeperFailed) changes store store' = FailsAtCall 1 store store'
Commits (Err fault.NoMemory) changes store store' = store' ≡ after_calls 1 store
Commits (Err other) changes store store' = ⊥

-- the first rows were committed in one call, which may have failed; or memory was refused before it or in it
abbrev pub Begins : Result EstateView OpenFault → Store → Store → Type 0
Begins (Ok kept) store store' =
    (kept.state ≡ first_state) × (kept.untold ≡ []) × (store' ≡ after_commit (entry_changes (put_all first_rows)) store)
Begins (Err fault.KeeperFailed) store store' = FailsAtCall 1 store store'
Begins (Err fault.NoMemory) store store' = IsAfterUpTo 1 store store'
Begins (Err other) store store' = ⊥

-- after the load: without entries the first rows are committed, and else the entries are opened without a call
abbrev pub GoesOn : Result EstateView OpenFault → List Entry → Store → Store → Type 0
GoesOn result [] store store' = Begins result store store'
GoesOn result (entry ∷ entries) store store' = Gives result (opening_of (entry ∷ entries)) × (store' ≡ store)

-- ---- an opening

-- the calls of an opening: one load, and one commit of the first rows where there were no entries
abbrev pub opening_calls : List Entry → ℕ
opening_calls [] = 2
opening_calls (entry ∷ entries) = 1

-- a store after its entries were opened to this state: they are the records of the state
abbrev pub opened_store : List Entry → State → Store → Store
opened_store entries state store = record {
  contents = option_map (λ _. records_of state) store.contents;
  calls = called (opening_calls entries) store.calls;
  failures = store.failures;
}

-- the entries of the store open to this state, and are its records now
pub record OpensTo (state : State) (store store' : Store) : Type 0 where
  pub entries : List Entry
  pub contents : AreContents entries store
  pub opens : opening_of entries ≡ opened state
  pub after : store' ≡ opened_store entries state store

-- the entries of the store open to no state, and it is as it was but for the load
pub record OpensToNone (opening : Opening) (store store' : Store) : Type 0 where
  pub entries : List Entry
  pub contents : AreContents entries store
  pub opens : opening_of entries ≡ opening
  pub after : store' ≡ after_calls 1 store

-- An opening that was refused leaves the entries. One of them is damaged, or their rows break a rule; or the load
-- failed, or the commit of the first rows; or memory was refused, after two calls at the most.
abbrev pub Refuses : OpenFault → Store → Store → Type 0
Refuses (fault.Damaged kind key) store store' = OpensToNone (damaged kind key) store store'
Refuses (fault.Broken rule kind key) store store' = OpensToNone (broken rule kind key) store store'
Refuses fault.KeeperFailed store store' =
    FailsAtCall 1 store store' ⊎ (AreContents [] store × FailsAtCall 2 store store')
Refuses fault.NoMemory store store' = IsAfterUpTo 2 store store'

-- The rows are what the entries of the store open to, and nothing waits to be told; or the opening was refused.
abbrev pub Opens : Result EstateView OpenFault → Store → Store → Type 0
Opens (Ok kept) store store' = OpensTo kept.state store store' × (kept.untold ≡ [])
Opens (Err why) store store' = Refuses why store store'
