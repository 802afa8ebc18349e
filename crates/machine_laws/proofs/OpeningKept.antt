-- Entries that open to a state: all facts hold of it, and its records are these entries.
use Rattle.std.proofs.Common.{◌≡◌, ℕ, zero, suc, ◌<◌, Option, Some, None, Result, Ok, Err, List, [], ◌∷◌, ◌++◌, map, length, unwrap_or, ◌≤◌, append-nil, refl, sym, ap, subst, ◌∙◌, arith}
use Rattle.std.specs.List.{AllByRecursion}
use Rattle.std.specs.List.Sorted.{IsStrictlySortedBy}
use Rattle.std.specs.Ordering.{is_lt, is_gt}
use Rattle.std.specs.declared.cmp.Ordering.TheVariants.{Less}
use Rattle.std.proofs.lemmas.List.{append_assoc}
use Rattle.plain_lists.specs.Members.{Each}
use Rattle.plain_lists.proofs.Elements.{Each-none, Each-cons, Each-head, Each-tail, Each-map}
use Rattle.size_values.specs.declared.entry.Entry.{Entry}
use Rattle.size_values.specs.declared.kinds.ObjectKind.{ObjectKind}
use Rattle.size_values.specs.declared.kinds.ObjectKind.TheVariants as kind
use Rattle.record_keeper.specs.Entries.{entry_order, seen_from, IsOrderedEntries, put_entry, after_changes}
use Rattle.records.specs.declared.rows.Row.{Row}
use Rattle.row_codec.specs.Spelling.{entry_of}
use Rattle.row_codec.specs.Reading.{row_of}
use Rattle.row_codec.specs.declared.damage.Damaged.{Damaged}
use Rattle.row_codec.proofs.Fields.{IsBytes}
use Rattle.row_codec.proofs.Entries.{row_found}
use Rattle.row_machine.specs.machine.State.{State, empty_state}
use Rattle.row_machine.specs.opening.Records.{records_of}
use Rattle.row_machine.specs.machine.Plans.{put_all}
use Rattle.row_machine.specs.opening.Opening.{Opening, opened, damaged, broken, with_rows, first_rows, rows_in, rows_break, opening_by, opening_of}
use Rattle.row_machine.specs.machine.TableRules.{count_of}
use Rattle.row_machine.specs.facts.Whole.{IsWhole}
use Rattle.row_machine.proofs.Beginning.{new-whole}
use Rattle.machine_laws.specs.Entries.{entry_changes}
use Rattle.machine_laws.specs.Openings.{HasBytes, OpeningIsWhole, OpeningKeepsEntries}
use Rattle.machine_laws.proofs.RecordsPlaces.{filter-all, filter-none}
use Rattle.machine_laws.proofs.RecordsChanges.{records-after}
use Rattle.machine_laws.proofs.OpeningRows.{IsKeyed, of_kind, with_all, with_rows-is, only-rows, empty-named, rows-stay_named, rows-named, rows-count, rows_alone, opened-alone}
use Rattle.machine_laws.proofs.OpeningRules.{OpensNone, rows-accepted, rows-open_none}
use Rattle.machine_laws.proofs.OpeningFacts.{IsOpened, opened-whole}

-- ---- the rows of entries

pub bytes_at : (bytes : List ℕ) → Each (λ b. b < 256) bytes → IsBytes bytes
bytes_at [] e i = omega arith
bytes_at (b ∷ bs) e zero = Each-head e
bytes_at (b ∷ bs) e (suc i) = bytes_at bs (Each-tail e) i

-- the rows are keyed, and the entries are theirs
pub record AreRows (entries : List Entry) (rows : List Row) : Type 0 where
  pub keyed : Each IsKeyed rows
  pub spelled : entries ≡ map entry_of rows

pub rows-read : (es : List Entry) (rows : List Row) → Each HasBytes es → rows_in es ≡ Ok rows → AreRows es rows
rows-read [] rows bytes h =
    let none : [] ≡ rows = cc in
    subst (AreRows []) none (record { keyed = Each-none; spelled = refl })
rows-read (e ∷ es) rows bytes h = at (row_of e) refl (rows_in es) refl (λ rest is. rows-read es rest (Each-tail bytes) is) where
  at : (r : Result Row Damaged) → row_of e ≡ r → (rest : Result (List Row) Entry) → rows_in es ≡ rest
      → ((rs : List Row) → rows_in es ≡ Ok rs → AreRows es rs) → AreRows (e ∷ es) rows
  at (Err why) is rest are more = let bad : rows_in (e ∷ es) ≡ Err e = rw is refl in cc
  at (Ok r) is (Err other) are more = let bad : rows_in (e ∷ es) ≡ Err other = rw (is, are) refl in cc
  at (Ok r) is (Ok rs) are more =
      let good : rows_in (e ∷ es) ≡ Ok (r ∷ rs) = rw (is, are) refl in
      let same : r ∷ rs ≡ rows = cc in
      let first = row_found e r (bytes_at e.body (Each-head bytes)) is in
      let rest = more rs are in
      subst (AreRows (e ∷ es)) same (record {
        keyed = Each-cons IsKeyed (first.row.keyed, first.row.timely) rest.keyed;
        spelled = λ i. first.entry i ∷ rest.spelled i;
      })

-- ---- an accepted opening

-- the rows of entries that are there, and that they break no rule
pub data IsOpening (entries : List Entry) (s : State) : Type 0 where
  anew : entries ≡ [] → s ≡ with_rows first_rows → IsOpening entries s
  again : (rows : List Row) → rows_in entries ≡ Ok rows → rows_break (with_rows rows) rows ≡ None → s ≡ with_rows rows → IsOpening entries s

opened_same : (s t : State) → opened s ≡ opened t → t ≡ s
opened_same s t e = cc

pub is-opening : (entries : List Entry) (s : State) → opening_of entries ≡ opened s → IsOpening entries s
unfolding opening_of
is-opening [] s h = anew refl (opened_same (with_rows first_rows) s h)
is-opening (e ∷ es) s h = at (rows_in (e ∷ es)) refl h where
  with_break : (rows : List Row) → rows_in (e ∷ es) ≡ Ok rows → (o : Option Opening) → rows_break (with_rows rows) rows ≡ o → OpensNone o
      → unwrap_or o (opened (with_rows rows)) ≡ opened s → IsOpening (e ∷ es) s
  with_break rows are None none opens is = again rows are none (opened_same (with_rows rows) s is)
  with_break rows are (Some (opened t)) some opens is = absurd opens
  with_break rows are (Some (damaged number key)) some opens is = cc
  with_break rows are (Some (broken why number key)) some opens is = cc

  at : (read : Result (List Row) Entry) → rows_in (e ∷ es) ≡ read → opening_by read ≡ opened s → IsOpening (e ∷ es) s
  at (Err other) are is = cc
  at (Ok rows) are is = with_break rows are (rows_break (with_rows rows) rows) refl (rows-open_none (with_rows rows) rows) is

-- ---- all facts hold

rows-opened : (rows : List Row) → Each IsKeyed rows → rows_break (with_rows rows) rows ≡ None → IsOpened (rows_alone (with_all rows empty_state)) rows
rows-opened rows keyed none = subst (λ s. IsOpened s rows) (opened-alone rows) (record {
  named = rows-named rows keyed;
  only = only-rows rows;
  counts = λ k. by k;
  accepted = rows-accepted (with_all rows empty_state) rows (subst (λ s. rows_break s rows ≡ None) (with_rows-is rows) none);
}) where
  by : (k : ObjectKind) → count_of (with_all rows empty_state) k ≤ length (of_kind k rows)
  by k = omega (arith, rows-count rows empty_state k, nothing k) where
    nothing : (k : ObjectKind) → count_of empty_state k ≡ 0
    nothing kind.Project = refl
    nothing kind.Profile = refl
    nothing kind.Network = refl
    nothing kind.Pool = refl
    nothing kind.Volume = refl
    nothing kind.Instance = refl
    nothing kind.Snapshot = refl
    nothing kind.Operation = refl

pub opening-whole : OpeningIsWhole
opening-whole entries s bytes h = by (is-opening entries s h) where
  by : IsOpening entries s → IsWhole s
  by (anew none is) = subst IsWhole (sym is) new-whole
  by (again rows read none is) =
      subst IsWhole (sym (is ∙ with_rows-is rows ∙ opened-alone rows))
      (opened-whole (with_all rows empty_state) rows (rows-opened rows (rows-read entries rows bytes read).keyed none))

-- ---- the records are the entries

-- an entry after all others is put at the end
put-last : (e : Entry) (es : List Entry) → Each (λ x. entry_order x e ≡ Less) es → put_entry e es ≡ es ++ e ∷ []
unfolding put_entry
put-last e es low =
    λ i. filter-all (λ x. is_lt (seen_from e.kind e.key x)) es (Each-map (λ x is. ap is_lt is) low) i
    ++ e ∷ filter-none (λ x. is_gt (seen_from e.kind e.key x)) es (Each-map (λ x is. ap is_gt is) low) i

all-at : {X : Type 0} (P : X → Type 0) (front : List X) (x : X) (rest : List X) → AllByRecursion P (front ++ x ∷ rest) → P x
all-at P [] x rest all = all.0
all-at P (y ∷ front) x rest all = all-at P front x rest all.1

sorted-low : (front : List Entry) (e : Entry) (rest : List Entry) → IsOrderedEntries (front ++ e ∷ rest) → Each (λ x. entry_order x e ≡ Less) front
unfolding IsStrictlySortedBy
sorted-low [] e rest sorted = Each-none
sorted-low (x ∷ front) e rest sorted =
    Each-cons (λ y. entry_order y e ≡ Less) (all-at (λ y. entry_order x y ≡ Less) front e rest sorted.0) (sorted-low front e rest sorted.1)

put-sorted : (rows : List Row) (front : List Entry) → IsOrderedEntries (front ++ map entry_of rows)
    → after_changes (entry_changes (put_all rows)) front ≡ front ++ map entry_of rows
put-sorted [] front sorted = sym (append-nil front)
put-sorted (r ∷ rows) front sorted =
    let e = entry_of r in
    let assoc = append_assoc front (e ∷ []) (map entry_of rows) in
    ap (after_changes (entry_changes (put_all rows))) (put-last e front (sorted-low front e (map entry_of rows) sorted))
    ∙ put-sorted rows (front ++ e ∷ []) (subst IsOrderedEntries (sym assoc) sorted)
    ∙ assoc

records-none : records_of empty_state ≡ []
unfolding records_of
records-none = refl

-- the records of the state that rows of entries in their order make
pub records-all : (rows : List Row) → Each IsKeyed rows → IsOrderedEntries (map entry_of rows) → records_of (with_all rows empty_state) ≡ map entry_of rows
records-all rows keyed sorted =
    sym (records-after empty_state (put_all rows) empty-named (rows-stay_named rows keyed))
    ∙ ap (after_changes (entry_changes (put_all rows))) records-none
    ∙ put-sorted rows [] sorted

pub opening-entries : OpeningKeepsEntries
opening-entries entries s bytes sorted some h = by (is-opening entries s h) where
  by : IsOpening entries s → records_of s ≡ entries
  by (anew none is) = absurd (some none)
  by (again rows read none is) =
      let are = rows-read entries rows bytes read in
      ap records_of (is ∙ with_rows-is rows)
      ∙ records-all rows are.keyed (subst IsOrderedEntries are.spelled sorted)
      ∙ sym are.spelled
