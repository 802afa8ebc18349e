-- Entries of rows of one kind, put in the order of their keys: their order, what stands at each place, and that an entry
-- put or removed makes the section of the rows after the change.
use Rattle.std.proofs.Common.{◌≡◌, ◌≢◌, ℕ, Bool, true, false, cond, ◌||◌, List, [], ◌∷◌, map, Option, Some, None, option_map, refl, ap, sym, ◌∙◌}
use Rattle.std.specs.Cmp.{Equal-is, alike_right, tied_itself}
use Rattle.std.specs.Cmp.Lexicographic.{slice_cmp}
use Rattle.std.specs.List.{AllByRecursion, find, list_any}
use Rattle.std.specs.List.Sorted.{IsStrictlySortedBy}
use Rattle.std.specs.Ordering.{nat_cmp, is_eq, is_lt, ordering_then}
use Rattle.std.specs.declared.cmp.Ordering.{Ordering}
use Rattle.std.specs.declared.cmp.Ordering.TheVariants.{Less, Equal, Greater}
use Rattle.std.proofs.lemmas.Bool.{false_from_ne_true}
use Rattle.std.proofs.lemmas.Cmp.{ranked, nat_cmp_total}
use Rattle.std.proofs.lemmas.Map.Lookups.{exact_bytes}
use Rattle.plain_lists.specs.Members.{Each, Distinct}
use Rattle.plain_lists.specs.Edits.{changed_first, dropped, inserted, replaced}
use Rattle.plain_lists.proofs.Elements.{Mem-from_map, Each-head, Each-tail, Each-map}
use Rattle.plain_lists.proofs.PutsLemmas.{Each-puts}
use Rattle.plain_lists.proofs.Searches.{find-none, none-find, find-puts, find-Puts}
use Rattle.plain_lists.proofs.EditLemmas.{inserted-Puts, find-put, find-replaced, find-dropped, find-gone}
use Rattle.size_values.specs.declared.entry.Entry.{Entry}
use Rattle.record_keeper.specs.Entries.{seen_from, entry_order, IsOrderedEntries, entry_at, put_entry, remove_entry}
use Rattle.record_keeper.proofs.Lookups.{entry_at-put_entry, entry_at-remove_entry, entries-same}
use Rattle.record_keeper.proofs.Listed.{each-map}
use Rattle.record_keeper.proofs.Ordered.{entry_total, turned, here, ordered-put, ordered-remove}
use Rattle.row_machine.specs.machine.Rows.{text_before}
use Rattle.row_machine.specs.opening.Records.{by_key}

-- ---- places

then_equal : (a b : Ordering) → is_eq (ordering_then a b) ≡ true → (a ≡ Equal) × (b ≡ Equal)
then_equal Less b e = cc
then_equal Equal b e = (refl, (Equal-is b).0 e)
then_equal Greater b e = cc

-- an entry at a place has its kind and key
pub kind_at : (kind : ℕ) (key : List ℕ) (e : Entry) → is_eq (seen_from kind key e) ≡ true → e.kind ≡ kind
kind_at kind key e at = ranked e.kind kind Equal (sym (then_equal (nat_cmp e.kind kind) (slice_cmp nat_cmp e.key key) at).0)

pub key_at : (kind : ℕ) (key : List ℕ) (e : Entry) → is_eq (seen_from kind key e) ≡ true → e.key ≡ key
key_at kind key e at = exact_bytes e.key key (then_equal (nat_cmp e.kind kind) (slice_cmp nat_cmp e.key key) at).1

-- of entries of one kind the keys decide
by_keys : (a b : Entry) → b.kind ≡ a.kind → entry_order a b ≡ slice_cmp nat_cmp a.key b.key
by_keys a b same =
    ap (λ n. ordering_then (nat_cmp a.kind n) (slice_cmp nat_cmp a.key b.key)) same
    ∙ ap (λ o. ordering_then o (slice_cmp nat_cmp a.key b.key)) (tied_itself nat_cmp_total a.kind)

-- ---- tests that agree on the elements of a list

module _ {X : Type 0} (p q : X → Bool) where
  any-same : (xs : List X) → Each (λ y. p y ≡ q y) xs → list_any p xs ≡ list_any q xs
  any-same [] same = refl
  any-same (y ∷ ys) same = ap (λ b. b || list_any p ys) (Each-head same) ∙ ap (λ b. q y || b) (any-same ys (Each-tail same))

  changed-same : (f : X → X) (xs : List X) → Each (λ y. p y ≡ q y) xs → changed_first p f xs ≡ changed_first q f xs
  changed-same f [] same = refl
  changed-same f (y ∷ ys) same =
      ap (λ b. cond b (f y ∷ ys) (y ∷ changed_first p f ys)) (Each-head same)
      ∙ ap (λ zs. cond (q y) (f y ∷ ys) (y ∷ zs)) (changed-same f ys (Each-tail same))

  pub dropped-same : (xs : List X) → Each (λ y. p y ≡ q y) xs → dropped p xs ≡ dropped q xs
  dropped-same [] same = refl
  dropped-same (y ∷ ys) same =
      ap (λ b. cond b ys (y ∷ dropped p ys)) (Each-head same) ∙ ap (λ zs. cond (q y) ys (y ∷ zs)) (dropped-same ys (Each-tail same))

  pub replaced-same : (before : X → Bool) (x : X) (xs : List X) → Each (λ y. p y ≡ q y) xs → replaced p before x xs ≡ replaced q before x xs
  replaced-same before x xs same =
      ap (λ b. cond b (changed_first p (λ _. x) xs) (inserted before x xs)) (any-same xs same)
      ∙ ap (λ zs. cond (list_any q xs) zs (inserted before x xs)) (changed-same (λ _. x) xs same)

  pub find-same : (xs : List X) → Each (λ y. p y ≡ q y) xs → find p xs ≡ find q xs
  find-same [] same = refl
  find-same (y ∷ ys) same = ap (λ b. cond b (Some y) (find p ys)) (Each-head same) ∙ ap (λ o. cond (q y) (Some y) o) (find-same ys (Each-tail same))

-- ---- what stands at a place, of rows by their entries

module _ {X : Type 0} (f : X → Entry) where
  -- the row's entry stands at the place of this entry
  abbrev pub stands_with : Entry → X → Bool
  stands_with e y = is_eq (entry_order (f y) e)

  module _ (kind : ℕ) (key : List ℕ) where
    -- the row's entry stands at this place
    abbrev pub stands_at : X → Bool
    stands_at y = is_eq (seen_from kind key (f y))

    at-same : (e : Entry) → is_eq (seen_from kind key e) ≡ true → (y : X) → stands_at y ≡ stands_with e y
    at-same e at y = ap is_eq (sym (alike_right entry_total e (here kind key) (f y) ((Equal-is (seen_from kind key e)).0 at)))

    at-other : (e : Entry) → is_eq (seen_from kind key e) ≡ false → (y : X) → stands_with e y ≡ true → stands_at y ≡ false
    at-other e fails y at = ap is_eq (entry_total.congr (f y) e (here kind key) ((Equal-is (entry_order (f y) e)).0 at)) ∙ fails

    -- after a row was put in place of the one of its kind and key
    pub find-put_row : (p before : X → Bool) (x : X) (xs : List X) → Each (λ y. p y ≡ stands_with (f x) y) xs
        → find stands_at (replaced p before x xs) ≡ cond (stands_at x) (Some x) (find stands_at xs)
    find-put_row p before x xs tells =
        ap (find stands_at) (replaced-same p (stands_with (f x)) before x xs tells) ∙ by (stands_at x) refl
      where
        by : (b : Bool) → stands_at x ≡ b → find stands_at (replaced (stands_with (f x)) before x xs) ≡ cond b (Some x) (find stands_at xs)
        by true at =
            find-same stands_at (stands_with (f x)) (replaced (stands_with (f x)) before x xs) (record { at = λ y m. at-same (f x) at y })
            ∙ find-put (stands_with (f x)) before x xs (ap is_eq (tied_itself entry_total (f x)))
        by false fails = find-replaced (stands_with (f x)) before stands_at x xs fails (at-other (f x) fails)

    -- after the row of a kind and key was dropped
    pub find-dropped_row : (p : X → Bool) (e : Entry) (xs : List X) → Distinct (λ x. (f x).key) xs → ((y : X) → p y ≡ stands_with e y)
        → find stands_at (dropped p xs) ≡ cond (is_eq (seen_from kind key e)) None (find stands_at xs)
    find-dropped_row p e xs distinct tells =
        ap (find stands_at) (dropped-same p (stands_with e) xs (record { at = λ y m. tells y })) ∙ by (is_eq (seen_from kind key e)) refl
      where
        one : (x y : X) → stands_with e x ≡ true → stands_with e y ≡ true → (f y).key ≡ (f x).key
        one x y at too = key_at e.kind e.key (f y) too ∙ sym (key_at e.kind e.key (f x) at)

        by : (b : Bool) → is_eq (seen_from kind key e) ≡ b → find stands_at (dropped (stands_with e) xs) ≡ cond b None (find stands_at xs)
        by true at =
            find-same stands_at (stands_with e) (dropped (stands_with e) xs) (record { at = λ y m. at-same e at y })
            ∙ find-gone (λ x. (f x).key) (stands_with e) xs distinct one
        by false fails = find-dropped (stands_with e) stands_at xs (at-other e fails)

    -- rows of another kind stand elsewhere
    pub find-elsewhere : (k : ℕ) → ((x : X) → (f x).kind ≡ k) → kind ≢ k → (xs : List X) → find stands_at xs ≡ None
    find-elsewhere k kinds apart xs =
        none-find stands_at xs (record { at = λ x m. false_from_ne_true (stands_at x) (λ at. apart (sym (kind_at kind key (f x) at) ∙ kinds x)) })

-- ---- entries in the order of their keys

find-map : {X Y : Type 0} (q : Y → Bool) (f : X → Y) (xs : List X) → find q (map f xs) ≡ option_map f (find (λ x. q (f x)) xs)
find-map q f [] = refl
find-map {X} {Y} q f (x ∷ xs) = by (q (f x)) (find-map q f xs) where
  by : (b : Bool) → find q (map f xs) ≡ option_map f (find (λ x. q (f x)) xs)
      → cond b (Some (f x)) (find q (map f xs)) ≡ option_map f (cond b (Some x) (find (λ x. q (f x)) xs))
  by true e = refl
  by false e = e

find-inserted : (q before : Entry → Bool) (e : Entry) (es : List Entry) → (q e ≡ true → Each (λ y. q y ≡ false) es)
    → find q (inserted before e es) ≡ cond (q e) (Some e) (find q es)
find-inserted q before e es alone = by (q e) refl where
  by : (b : Bool) → q e ≡ b → find q (inserted before e es) ≡ cond b (Some e) (find q es)
  by true is = find-Puts q (inserted-Puts before e es) is (alone is)
  by false is = find-puts q (inserted-Puts before e es) is

-- where keys are distinct, each place has what it had before
entry_at-by_key : (kind : ℕ) (key : List ℕ) (es : List Entry) → Distinct (λ e. e.key) es → entry_at kind key (by_key es) ≡ entry_at kind key es
entry_at-by_key kind key [] d = refl
entry_at-by_key kind key (e ∷ es) d =
    let rest = entry_at-by_key kind key es d.1 in
    find-inserted (λ x. is_eq (seen_from kind key x)) (λ other. text_before e.key other.key) e (by_key es) (alone rest)
    ∙ ap (λ o. cond (is_eq (seen_from kind key e)) (Some e) o) rest
  where
    fails : is_eq (seen_from kind key e) ≡ true → (y : Entry) → y.key ≢ e.key → is_eq (seen_from kind key y) ≡ false
    fails at y apart =
        false_from_ne_true (is_eq (seen_from kind key y)) (λ too. apart (key_at kind key y too ∙ sym (key_at kind key e at)))

    alone : entry_at kind key (by_key es) ≡ entry_at kind key es → is_eq (seen_from kind key e) ≡ true
        → Each (λ y. is_eq (seen_from kind key y) ≡ false) (by_key es)
    alone rest at = find-none _ (by_key es) (rest ∙ none-find _ es (Each-map (fails at) d.0))

Each-by_key : (P : Entry → Type 0) (es : List Entry) → Each P es → Each P (by_key es)
Each-by_key P [] each = each
Each-by_key P (e ∷ es) each =
    Each-puts P (inserted-Puts (λ other. text_before e.key other.key) e (by_key es)) (Each-head each) (Each-by_key P es (Each-tail each))

All-inserted : (P : Entry → Type 0) (before : Entry → Bool) (e : Entry) (es : List Entry) → P e → AllByRecursion P es → AllByRecursion P (inserted before e es)
All-inserted P before e [] p all = (p, tt)
All-inserted P before e (y ∷ ys) p all = by (before y) (All-inserted P before e ys p all.1) where
  by : (b : Bool) → AllByRecursion P (inserted before e ys) → AllByRecursion P (cond b (e ∷ y ∷ ys) (y ∷ inserted before e ys))
  by true rest = (p, all)
  by false rest = (all.0, rest)

ordered-inserted : (e : Entry) (es : List Entry) → Each (λ y. y.kind ≡ e.kind) es → Each (λ y. y.key ≢ e.key) es
    → IsOrderedEntries es → IsOrderedEntries (inserted (λ other. text_before e.key other.key) e es)
unfolding IsStrictlySortedBy
ordered-inserted e [] kinds apart ordered = (tt, tt)
ordered-inserted e (y ∷ ys) kinds apart ordered =
    by (slice_cmp nat_cmp e.key y.key) refl (ordered-inserted e ys (Each-tail kinds) (Each-tail apart) ordered.1)
  where
    order : (o : Ordering) → slice_cmp nat_cmp e.key y.key ≡ o → entry_order e y ≡ o
    order o is = by_keys e y (Each-head kinds) ∙ is

    by : (o : Ordering) → slice_cmp nat_cmp e.key y.key ≡ o → IsOrderedEntries (inserted (λ other. text_before e.key other.key) e ys)
        → IsOrderedEntries (cond (is_lt o) (e ∷ y ∷ ys) (y ∷ inserted (λ other. text_before e.key other.key) e ys))
    by Less is rest = ((order Less is, each-map _ _ (λ z above. entry_total.trans e y z (order Less is) above) ys ordered.0), ordered)
    by Equal is rest = absurd (Each-head apart (sym (exact_bytes e.key y.key is)))
    by Greater is rest =
        (All-inserted (λ z. entry_order y z ≡ Less) (λ other. text_before e.key other.key) e ys (turned y e Greater (order Greater is)) ordered.0, rest)

-- entries of one kind with distinct keys stand in order
ordered-by_key : (k : ℕ) (es : List Entry) → Each (λ e. e.kind ≡ k) es → Distinct (λ e. e.key) es → IsOrderedEntries (by_key es)
unfolding IsStrictlySortedBy
ordered-by_key k [] kinds d = tt
ordered-by_key k (e ∷ es) kinds d =
    ordered-inserted e (by_key es)
    (Each-by_key _ es (Each-map (λ y is. is ∙ sym (Each-head kinds)) (Each-tail kinds)))
    (Each-by_key _ es d.0)
    (ordered-by_key k es (Each-tail kinds) d.1)

-- ---- the section of the entries of one kind

module _ {X : Type 0} (f : X → Entry) where
  Distinct-map : (xs : List X) → Distinct (λ x. (f x).key) xs → Distinct (λ e. e.key) (map f xs)
  Distinct-map [] d = tt
  Distinct-map (x ∷ xs) d = (record { at = λ e m. let found = Mem-from_map f e xs m in λ same. d.0.at found.0 found.1.0 (sym (ap (λ (z : Entry). z.key) found.1.1) ∙ same) }, Distinct-map xs d.1)

  pub section_kinds : (k : ℕ) → ((x : X) → (f x).kind ≡ k) → (xs : List X) → Each (λ e. e.kind ≡ k) (by_key (map f xs))
  section_kinds k kinds xs =
      Each-by_key (λ e. e.kind ≡ k) (map f xs)
      (record { at = λ e m. let found = Mem-from_map f e xs m in ap (λ (z : Entry). z.kind) found.1.1 ∙ kinds found.0 })

  pub section_ordered : (k : ℕ) → ((x : X) → (f x).kind ≡ k) → (xs : List X) → Distinct (λ x. (f x).key) xs → IsOrderedEntries (by_key (map f xs))
  section_ordered k kinds xs d =
      ordered-by_key k (map f xs)
      (record { at = λ e m. let found = Mem-from_map f e xs m in ap (λ (z : Entry). z.kind) found.1.1 ∙ kinds found.0 })
      (Distinct-map xs d)

  pub section_at : (kind : ℕ) (key : List ℕ) (xs : List X) → Distinct (λ x. (f x).key) xs
      → entry_at kind key (by_key (map f xs)) ≡ option_map f (find (stands_at f kind key) xs)
  section_at kind key xs d = entry_at-by_key kind key (map f xs) (Distinct-map xs d) ∙ find-map (λ e. is_eq (seen_from kind key e)) f xs

-- ---- an entry of the section is put or removed

module _ {X : Type 0} (f : X → Entry) (k : ℕ) (kinds : (x : X) → (f x).kind ≡ k) where
  pub put-section : (p before : X → Bool) (x : X) (xs : List X) → Distinct (λ y. (f y).key) xs → Distinct (λ y. (f y).key) (replaced p before x xs)
      → Each (λ y. p y ≡ stands_with f (f x) y) xs → put_entry (f x) (by_key (map f xs)) ≡ by_key (map f (replaced p before x xs))
  put-section p before x xs d after tells =
      entries-same _ _ (ordered-put (f x) (by_key (map f xs)) (section_ordered f k kinds xs d)) (section_ordered f k kinds (replaced p before x xs) after) at
    where
      by : (b : Bool) (o : Option X) → cond b (Some (f x)) (option_map f o) ≡ option_map f (cond b (Some x) o)
      by true o = refl
      by false o = refl

      at : (number : ℕ) (key : List ℕ) → entry_at number key (put_entry (f x) (by_key (map f xs))) ≡ entry_at number key (by_key (map f (replaced p before x xs)))
      at number key =
          entry_at-put_entry number key (f x) (by_key (map f xs))
          ∙ ap (cond (is_eq (seen_from number key (f x))) (Some (f x))) (section_at f number key xs d)
          ∙ by (stands_at f number key x) (find (stands_at f number key) xs)
          ∙ ap (option_map f) (sym (find-put_row f number key p before x xs tells))
          ∙ sym (section_at f number key (replaced p before x xs) after)

  pub remove-section : (p : X → Bool) (key : List ℕ) (xs : List X) → Distinct (λ y. (f y).key) xs → Distinct (λ y. (f y).key) (dropped p xs)
      → ((y : X) → p y ≡ stands_with f (here k key) y) → remove_entry k key (by_key (map f xs)) ≡ by_key (map f (dropped p xs))
  remove-section p key xs d after tells =
      entries-same _ _ (ordered-remove k key (by_key (map f xs)) (section_ordered f k kinds xs d)) (section_ordered f k kinds (dropped p xs) after) at
    where
      by : (b : Bool) (o : Option X) → cond b None (option_map f o) ≡ option_map f (cond b None o)
      by true o = refl
      by false o = refl

      at : (number : ℕ) (place : List ℕ) → entry_at number place (remove_entry k key (by_key (map f xs))) ≡ entry_at number place (by_key (map f (dropped p xs)))
      at number place =
          entry_at-remove_entry number place k key (by_key (map f xs))
          ∙ ap (cond (is_eq (seen_from number place (here k key))) None) (section_at f number place xs d)
          ∙ by (is_eq (seen_from number place (here k key))) (find (stands_at f number place) xs)
          ∙ ap (option_map f) (sym (find-dropped_row f number place p (here k key) xs d tells))
          ∙ sym (section_at f number place (dropped p xs) after)
