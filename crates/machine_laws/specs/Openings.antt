-- What an opening that is accepted gives.
use Rattle.std.specs.Prelude.{◌≡◌, ◌≢◌, ◌<◌, List, []}
use Rattle.plain_lists.specs.Members.{Each}
use Rattle.size_values.specs.declared.entry.Entry.{Entry}
use Rattle.record_keeper.specs.Entries.{IsOrderedEntries}
use Rattle.row_machine.specs.machine.State.{State}
use Rattle.row_machine.specs.opening.Records.{records_of}
use Rattle.row_machine.specs.opening.Opening.{opening_of, opened}
use Rattle.row_machine.specs.facts.Whole.{IsWhole}

-- each number of an entry's body is a byte
abbrev pub HasBytes : Entry → Type 0
HasBytes entry = Each (λ byte. byte < 256) entry.body

-- Entries that open to a state open to one in which all ten facts hold.
abbrev pub OpeningIsWhole : Type 0
OpeningIsWhole = (entries : List Entry) (state : State) → Each HasBytes entries → opening_of entries ≡ opened state
    → IsWhole state

-- The records of a state that entries open to are these entries, where they stand in order and there are some.
abbrev pub OpeningKeepsEntries : Type 0
OpeningKeepsEntries =
    (entries : List Entry) (state : State) → Each HasBytes entries → IsOrderedEntries entries → entries ≢ [] →
    opening_of entries ≡ opened state → records_of state ≡ entries
