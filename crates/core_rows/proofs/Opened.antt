-- What is true of a state that entries open to, and the steps of opening them.
use Rattle.std.proofs.Common.{◌≡◌, ◌≢◌, ◌<◌, ℕ, zero, suc, List, [], ◌∷◌, Ok, refl, ap, ◌∙◌}
use Rattle.plain_lists.specs.Members.{Each}
use Rattle.plain_lists.proofs.Elements.{Each-none, Each-cons}
use Rattle.size_values.specs.declared.entry.Entry.{Entry}
use Rattle.operations.specs.OperationTable.{no_operations}
use Rattle.records.specs.declared.rows.Row.{Row}
use Rattle.row_codec.proofs.Fields.{IsBytes}
use Rattle.row_machine.specs.machine.State.{State, empty_state}
use Rattle.row_machine.specs.opening.Opening.{opened, opening_of, opening_by, opening_with, rows_in, with_rows, first_rows}
use Rattle.machine_laws.proofs.OpeningKept.{IsOpening, anew, again, is-opening}
use Rattle.machine_laws.proofs.OpeningRows.{rows_alone, with_all, with_rows-is, opened-alone}
use Rattle.core_judging.specs.core_reports.specs.Waiting.{IsSilent}

-- ---- a state that entries open to

-- the state has some rows, and nothing else
with_rows-alone : (rows : List Row) → with_rows rows ≡ rows_alone (with_all rows empty_state)
with_rows-alone rows = with_rows-is rows ∙ opened-alone rows

is-alone : (entries : List Entry) (s : State) → IsOpening entries s → (t : State) × (s ≡ rows_alone t)
is-alone entries s (anew none is) = (with_all first_rows empty_state, is ∙ with_rows-alone first_rows)
is-alone entries s (again rows read free is) = (with_all rows empty_state, is ∙ with_rows-alone rows)

-- no operation was ever entered
pub opened-idle : (entries : List Entry) (s : State) → opening_of entries ≡ opened s → s.operations ≡ no_operations
opened-idle entries s h = ap (λ (t : State). t.operations) (is-alone entries s (is-opening entries s h)).1

-- and nothing was told
pub opened-silent : (entries : List Entry) (s : State) → opening_of entries ≡ opened s → IsSilent s
opened-silent entries s h = record {
  notices = ap (λ (t : State). t.notices) (is-alone entries s (is-opening entries s h)).1;
  next = ap (λ (t : State). t.next_notice) (is-alone entries s (is-opening entries s h)).1;
}

-- ---- steps

-- each number of these is a byte
pub each-byte : (bytes : List ℕ) → IsBytes bytes → Each (λ b. b < 256) bytes
each-byte [] h = Each-none
each-byte (b ∷ bs) h = Each-cons (λ c. c < 256) (h zero) (each-byte bs (λ i. h (suc i)))

-- entries that are there open by their rows
pub opening-some : (entries : List Entry) → entries ≢ [] → opening_of entries ≡ opening_by (rows_in entries)
unfolding opening_of
opening-some [] some = absurd (some refl)
opening-some (e ∷ es) some = refl

-- the rows of entries that are there open as they do
pub opening-rows : (entries : List Entry) (rows : List Row) → entries ≢ [] → rows_in entries ≡ Ok rows → opening_of entries ≡ opening_with rows
opening-rows entries rows some read = opening-some entries some ∙ ap opening_by read
