-- The rows of a state that entries open to have their settings and devices in order, and so each instance has what its layers say.
use Rattle.std.proofs.Common.{◌≡◌, ℕ, Option, Some, None, Result, Ok, Err, List, [], ◌∷◌, inl, inr, All, refl, sym, subst}
use Rattle.std.proofs.lemmas.List.Elements.{All-nil, All-cons, All-append, All-map}
use Rattle.plain_lists.specs.Members.{Mem, Each}
use Rattle.plain_lists.proofs.Elements.{Each-none, Each-cons, Each-head, Each-tail, Each-left, Each-right, Each-append, Mem-append}
use Rattle.plain_lists.proofs.Readings.{Mem-read, Mem-from_read}
use Rattle.plain_lists.proofs.Searches.{find-some}
use Rattle.size_values.specs.declared.entry.Entry.{Entry}
use Rattle.size_values.specs.declared.kinds.ObjectKind.TheVariants as kind
use Rattle.config_lists.specs.Settings.{IsFull}
use Rattle.config_lists.proofs.Keys.{KeysRise-nil}
use Rattle.config_lists.specs.Settings.{Settings}
use Rattle.expansion.specs.Layers.{IsLayer}
use Rattle.operations.specs.declared.operation.Operation.{Operation}
use Rattle.records.specs.declared.rows.Profile.{Profile}
use Rattle.records.specs.declared.rows.Instance.{Instance}
use Rattle.records.specs.declared.rows.Row.{Row}
use Rattle.records.specs.declared.rows.Row.TheVariants as row
use Rattle.row_codec.specs.Rows.{HasTypedParts}
use Rattle.row_codec.specs.Reading.{row_of}
use Rattle.row_codec.specs.declared.damage.Damaged.{Damaged}
use Rattle.row_codec.proofs.Entries.{row_found}
use Rattle.row_machine.specs.machine.Task.{Task}
use Rattle.row_machine.specs.machine.State.{State}
use Rattle.row_machine.specs.machine.Rows.{default_name, is_profile, profile_named}
use Rattle.row_machine.specs.machine.Homes.{home_of}
use Rattle.row_machine.specs.machine.Expansions.{layer_of, own_layer}
use Rattle.row_machine.specs.machine.Claims.{judged_instances, of_live, claimed_instance}
use Rattle.row_machine.specs.opening.Records.{rows_of}
use Rattle.row_machine.specs.opening.Opening.{opened, with_rows, first_rows, rows_in, opening_of}
use Rattle.row_machine.specs.facts.Whole.{claims_of}
use Rattle.machine_laws.specs.Openings.{HasBytes}
use Rattle.machine_laws.specs.Sorted.{IsSortedRow, AreSortedRows}
use Rattle.machine_laws.specs.Headline.{layers_of}
use Rattle.machine_laws.proofs.NamesRows.{each-row}
use Rattle.machine_laws.proofs.OpeningRows.{with_rows-is, only-rows, opened-alone}
use Rattle.machine_laws.proofs.OpeningKept.{IsOpening, is-opening, bytes_at}
use Rattle.machine_laws.proofs.OpeningKept.IsOpening.{anew, again}
use Rattle.machine_laws.proofs.SortedRows.{sorted-default}
use Rattle.machine_laws.proofs.SortedKept.{claim-is}

-- ---- openings

-- what every row of the program has by its type
typed-sorted : (r : Row) → HasTypedParts r → IsSortedRow r
typed-sorted (row.Project r) h = tt
typed-sorted (row.Profile r) h = record { config = h.1.0; devices = h.2.0 }
typed-sorted (row.Network r) h = tt
typed-sorted (row.Pool r) h = tt
typed-sorted (row.Volume r) h = tt
typed-sorted (row.Instance r) h = record { config = h.3.0; devices = h.4.0 }
typed-sorted (row.Snapshot r) h = record { config = h.1.0; devices = h.2.0 }

-- the rows of entries
read-sorted : (es : List Entry) (rows : List Row) → Each HasBytes es → rows_in es ≡ Ok rows → Each IsSortedRow rows
read-sorted [] rows bytes h = let none : [] ≡ rows = cc in subst (Each IsSortedRow) none Each-none
read-sorted (e ∷ es) rows bytes h = at (row_of e) refl (rows_in es) refl (λ rest is. read-sorted es rest (Each-tail bytes) is) where
  at : (r : Result Row Damaged) → row_of e ≡ r → (rest : Result (List Row) Entry) → rows_in es ≡ rest
      → ((rs : List Row) → rows_in es ≡ Ok rs → Each IsSortedRow rs) → Each IsSortedRow rows
  at (Err why) is rest are more = let bad : rows_in (e ∷ es) ≡ Err e = rw is refl in cc
  at (Ok r) is (Err other) are more = let bad : rows_in (e ∷ es) ≡ Err other = rw (is, are) refl in cc
  at (Ok r) is (Ok rs) are more =
      let good : rows_in (e ∷ es) ≡ Ok (r ∷ rs) = rw (is, are) refl in
      let same : r ∷ rs ≡ rows = cc in
      let first = row_found e r (bytes_at e.body (Each-head bytes)) is in
      subst (Each IsSortedRow) same (Each-cons IsSortedRow (typed-sorted r first.row.typed) (more rs are))

-- a state of rows that are in order, and of nothing else
rows-sorted : (rows : List Row) → Each IsSortedRow rows → AreSortedRows (with_rows rows)
rows-sorted rows h = subst AreSortedRows (sym (with_rows-is rows)) (Each-append
    (record { at = λ r m. h.at r (only-rows rows r m) })
    (subst (λ s. Each IsSortedRow (claims_of s)) (sym (opened-alone rows)) Each-none))

pub opening-sorted : (entries : List Entry) (s : State) → Each HasBytes entries → opening_of entries ≡ opened s → AreSortedRows s
opening-sorted entries s bytes h = by (is-opening entries s h) where
  by : IsOpening entries s → AreSortedRows s
  by (anew none is) = subst AreSortedRows (sym is) (rows-sorted first_rows (Each-cons IsSortedRow tt (Each-cons IsSortedRow (sorted-default default_name) Each-none)))
  by (again rows are unbroken is) = subst AreSortedRows (sym is) (rows-sorted rows (read-sorted entries rows bytes are))

-- ---- layers

all-of : {X : Type 0} (P : X → Type 0) → ((x : X) → P x) → (xs : List X) → All P xs
all-of P every [] = All-nil P
all-of P every (x ∷ xs) = All-cons P x xs (every x) (all-of P every xs)

no-layer : IsLayer (layer_of None)
no-layer = record { config = record { rising = KeysRise-nil (List ℕ); full = All-nil IsFull }; devices = record { rising = KeysRise-nil Settings } }

-- an instance that is there or claimed
judged-sorted : (s : State) (i : Instance) → AreSortedRows s → Mem i (judged_instances s) → IsSortedRow (row.Instance i)
unfolding judged_instances
judged-sorted s i h m = elim (Mem-append i s.instances (of_live claimed_instance s) m) [
  | inl there ↦ (each-row s (Each-left (claims_of s) h)).instances.at i there
  | inr claimed ↦ by claimed
] where
  by : Mem i (of_live claimed_instance s) → IsSortedRow (row.Instance i)
  by claimed =
      let found = Mem-from_read (λ (o : Operation Task). claimed_instance o.work) i s.operations.live claimed in
      (Each-right (rows_of s) h).at (row.Instance i)
      (Mem-read (λ (o : Operation Task). o.work.claim) found.0 (row.Instance i) s.operations.live found.1.0 (claim-is found.0.work i found.1.1))

pub layers-sorted : (s : State) (i : Instance) → AreSortedRows s → Mem i (judged_instances s) → All IsLayer (layers_of s i)
layers-sorted s i h m =
    All-append IsLayer _ (own_layer i ∷ []) (All-map IsLayer (λ name. layer_of (profile name)) i.profiles (all-of (λ name. IsLayer (layer_of (profile name))) every i.profiles))
    (All-cons IsLayer (own_layer i) [] (judged-sorted s i h m) (All-nil IsLayer)) where
      profile : List ℕ → Option Profile
      profile name = profile_named s.profiles (home_of s.projects i.project kind.Profile) name

      of : (o : Option Profile) → ((r : Profile) → o ≡ Some r → IsLayer (layer_of (Some r))) → IsLayer (layer_of o)
      of None known = no-layer
      of (Some r) known = known r refl

      every : (name : List ℕ) → IsLayer (layer_of (profile name))
      every name = of (profile name) (λ r e. (each-row s (Each-left (claims_of s) h)).profiles.at r
          (find-some (is_profile (home_of s.projects i.project kind.Profile) name) s.profiles r e).0)
