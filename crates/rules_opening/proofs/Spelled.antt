-- The rows of entries, one entry after another.
use Rattle.std.proofs.Common.{◌≡◌, ℕ, ◌+◌, ◌<◌, ◌≤◌, List, [], ◌∷◌, ◌++◌, length, drop, get_or, slice_get, Result, Ok, Err, Some, option_map, refl, ap, sym, ◌∙◌}
use Rattle.std.proofs.lemmas.List.{append_assoc, append-nil, at_drop_more, at_drop_all}
use Rattle.std.proofs.lemmas.Option.{slice_get_read}
use Rattle.size_values.specs.declared.entry.Entry.{Entry}
use Rattle.records.specs.declared.rows.Row.{Row}
use Rattle.row_codec.specs.Reading.{row_of}
use Rattle.row_codec.specs.declared.damage.Damaged.{Damaged}
use Rattle.row_machine.specs.opening.Opening.{rows_in}

-- rows before those of other entries
abbrev pub after_rows : List Row → Result (List Row) Entry → Result (List Row) Entry
after_rows rows (Ok more) = Ok (rows ++ more)
after_rows rows (Err e) = Err e

-- one entry

spelled-none : (e : Entry) (es : List Entry) (why : Damaged) → row_of e ≡ Err why → rows_in (e ∷ es) ≡ Err e
spelled-none e es why is = cc

spelled-bad : (e : Entry) (es : List Entry) (r : Row) (bad : Entry) → row_of e ≡ Ok r → rows_in es ≡ Err bad → rows_in (e ∷ es) ≡ Err bad
spelled-bad e es r bad is rest = cc

spelled-good : (e : Entry) (es : List Entry) (r : Row) (more : List Row) → row_of e ≡ Ok r → rows_in es ≡ Ok more → rows_in (e ∷ es) ≡ Ok (r ∷ more)
spelled-good e es r more is rest = cc

spelled-one : (rows : List Row) (e : Entry) (es : List Entry) (r : Row) → row_of e ≡ Ok r
    → after_rows rows (rows_in (e ∷ es)) ≡ after_rows (rows ++ r ∷ []) (rows_in es)
spelled-one rows e es r is = at (rows_in es) refl where
  at : (x : Result (List Row) Entry) → rows_in es ≡ x → after_rows rows (rows_in (e ∷ es)) ≡ after_rows (rows ++ r ∷ []) (rows_in es)
  at (Ok more) rest =
      ap (after_rows rows) (spelled-good e es r more is rest)
      ∙ ap Ok (sym (append_assoc rows (r ∷ []) more))
      ∙ sym (ap (after_rows (rows ++ r ∷ [])) rest)
  at (Err bad) rest = ap (after_rows rows) (spelled-bad e es r bad is rest) ∙ sym (ap (after_rows (rows ++ r ∷ [])) rest)

-- before the first entry
pub spelled-start : (rows : List Row) (entries : List Entry) → rows ≡ [] → rows_in entries ≡ after_rows rows (rows_in entries)
spelled-start rows entries none = at (rows_in entries) ∙ ap (λ (before : List Row). after_rows before (rows_in entries)) (sym none) where
  at : (x : Result (List Row) Entry) → x ≡ after_rows [] x
  at (Ok more) = refl
  at (Err e) = refl

module _ (rows : List Row) (entries : List Entry) (place : ℕ) where
  -- the entry at a place spells a row
  pub spelled-next : (e : Entry) (r : Row) → place < length entries → e ≡ get_or entries place e
      → rows_in entries ≡ after_rows rows (rows_in (drop place entries)) → row_of e ≡ Ok r
      → rows_in entries ≡ after_rows (rows ++ r ∷ []) (rows_in (drop (place + 1) entries))
  spelled-next e r within at before is =
      before
      ∙ at_drop_more (λ es. after_rows rows (rows_in es)) entries place e within
      ∙ ap (λ (x : Entry). after_rows rows (rows_in (x ∷ drop (place + 1) entries))) (sym at)
      ∙ spelled-one rows e (drop (place + 1) entries) r is

  -- it spells none
  pub spelled-first : (e : Entry) (why : Damaged) → place < length entries → e ≡ get_or entries place e
      → rows_in entries ≡ after_rows rows (rows_in (drop place entries)) → row_of e ≡ Err why
      → option_map Err (slice_get entries place) ≡ Some (rows_in entries)
  spelled-first e why within at before is =
      ap (option_map Err) (slice_get_read entries (length entries) place e refl within at)
      ∙ ap Some (sym (before
      ∙ at_drop_more (λ es. after_rows rows (rows_in es)) entries place e within
      ∙ ap (λ (x : Entry). after_rows rows (rows_in (x ∷ drop (place + 1) entries))) (sym at)
      ∙ ap (after_rows rows) (spelled-none e (drop (place + 1) entries) why is)))

  -- after the last entry
  pub spelled-end : length entries ≤ place → rows_in entries ≡ after_rows rows (rows_in (drop place entries)) → rows_in entries ≡ Ok rows
  spelled-end past before = before ∙ at_drop_all (λ es. after_rows rows (rows_in es)) entries place past ∙ ap Ok (append-nil rows)
