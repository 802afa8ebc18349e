-- The list of entries: where a place is, and that every change keeps the order.
use Rattle.std.proofs.Common.{◌≡◌, ℕ, suc, ◌+◌, ◌<◌, ◌≤◌, true, false, List, ◌++◌, ◌∷◌, [], length, get_or, set, take, drop, refl, ap, sym, subst, ◌∙◌, arith, Result, Ok, Err}
use Rattle.std.specs.Cmp.{IsTotalOrder, alike_right}
use Rattle.std.specs.List.{AllWithin, HoldsAt, AllByRecursion, insert, remove}
use Rattle.std.specs.List.Sorted.{IsStrictlySortedBy, IsBinarySearchResult, IsSearchInRange, IsNonDecreasingBy}
use Rattle.std.specs.Ordering.{is_lt, is_gt, ordering_reverse, ordering_index}
use Rattle.std.specs.declared.cmp.Ordering.{Ordering}
use Rattle.std.specs.declared.cmp.Ordering.TheVariants.{Less, Equal, Greater}
use Rattle.std.proofs.lemmas.Cmp.{then_total, on_total, nat_cmp_total, nat_list_cmp_total}
use Rattle.std.proofs.lemmas.List.{take-append-drop, take_more}
use Rattle.std.proofs.lemmas.List.Kept.{IsStrictlySortedBy-filter}
use Rattle.std.proofs.lemmas.List.Sorted.{searchable_from_sorted}
use Rattle.std.proofs.lemmas.Map.Keys.{Less-from_sorted}
use Rattle.size_values.specs.declared.entry.Entry.{Entry}
use Rattle.size_values.specs.declared.entry.EntryChange.{EntryChange}
use Rattle.record_keeper.specs.Entries.{seen_from, entry_order, IsOrderedEntries, entries_before, entries_after, put_entry, remove_entry, after_change, after_changes, entries_put}
use Rattle.record_keeper.specs.Places.{SplitsAt, Finds}
use Rattle.record_keeper.proofs.Listed.{filter-front, filter-back, within-from, within-to, set-split, each-filter, each-map, sorted-append}

-- entries are in a total order
pub entry_total : IsTotalOrder entry_order
entry_total = then_total (on_total (λ (e : Entry). e.kind) nat_cmp_total) (on_total (λ (e : Entry). e.key) nat_list_cmp_total)

-- an order read from the other side
pub turned : (a b : Entry) (o : Ordering) → entry_order b a ≡ o → entry_order a b ≡ ordering_reverse o
turned a b o e = entry_total.antisymm a b ∙ ap ordering_reverse e

module _ (kind : ℕ) (key : List ℕ) where
  -- an entry at the place
  abbrev pub here : Entry
  here = record { kind = kind; key = key; body = [] }

  -- what stands below an entry at the place is seen as Less, and what stands above it as Greater
  below-Less : (a b : Entry) → seen_from kind key b ≡ Equal → entry_order a b ≡ Less → seen_from kind key a ≡ Less
  below-Less a b at low = sym (alike_right entry_total b here a at) ∙ low

  pub above-Greater : (a b : Entry) → seen_from kind key a ≡ Equal → entry_order a b ≡ Less → seen_from kind key b ≡ Greater
  above-Greater a b at low = turned b here Less (sym (entry_total.congr a here b at) ∙ low)

  -- the order seen from a place never falls along a sorted list
  seen-rises : (es : List Entry) → IsOrderedEntries es → IsNonDecreasingBy (λ e. ordering_index (seen_from kind key e)) es
  seen-rises es ordered =
      searchable_from_sorted entry_total (λ (e : Entry). e) es here
      (λ k d low high. ap is_lt (turned (get_or es (k + 1) d) (get_or es k d) Less (Less-from_sorted entry_order es k (k + 1) d ordered (omega arith) high)))

  -- the entry at an index is at the place
  found-at : (es : List Entry) (i : ℕ) → IsOrderedEntries es → i < length es → HoldsAt (λ e. seen_from kind key e ≡ Equal) es i → SplitsAt kind key es i (i + 1)
  found-at es i ordered within at = record {
    within = omega arith;
    front = filter-front (λ e. is_lt (seen_from kind key e)) es i
        (λ k d a b. ap is_lt (low k d a b))
        (within-from (λ e. is_lt (seen_from kind key e) ≡ false) es i (length es) (λ d. ap is_lt (at d)) (λ k d a b. ap is_lt (high k d a b)));
    back = filter-back (λ e. is_gt (seen_from kind key e)) es (i + 1)
        (within-to (λ e. is_gt (seen_from kind key e) ≡ false) es i (λ k d a b. ap is_gt (low k d a b)) (λ d. ap is_gt (at d)))
        (λ k d a b. ap is_gt (high k d a b));
  } where
    low : AllWithin (λ e. seen_from kind key e ≡ Less) es 0 i
    low k d a b = below-Less (get_or es k d) (get_or es i d) (at d) (Less-from_sorted entry_order es k i d ordered b within)

    high : AllWithin (λ e. seen_from kind key e ≡ Greater) es (i + 1) (length es)
    high k d a b = above-Greater (get_or es i d) (get_or es k d) (at d) (Less-from_sorted entry_order es i k d ordered (omega arith) b)

  -- no entry is at the place, which lies before the index
  found-between : (es : List Entry) (i : ℕ) → i ≤ length es → AllWithin (λ e. seen_from kind key e ≡ Less) es 0 i → AllWithin (λ e. seen_from kind key e ≡ Greater) es i (length es) → SplitsAt kind key es i i
  found-between es i within low high = record {
    within = within;
    front = filter-front (λ e. is_lt (seen_from kind key e)) es i (λ k d a b. ap is_lt (low k d a b)) (λ k d a b. ap is_lt (high k d a b));
    back = filter-back (λ e. is_gt (seen_from kind key e)) es i (λ k d a b. ap is_gt (low k d a b)) (λ k d a b. ap is_gt (high k d a b));
  }

  -- a binary search finds the place
  pub found : (es : List Entry) (r : Result ℕ ℕ) → IsOrderedEntries es → IsSearchInRange r (length es) → IsBinarySearchResult (seen_from kind key) es r → Finds kind key es r
  found es (Ok i) ordered within at = found-at es i ordered within at
  found es (Err i) ordered within splits = let both = splits (seen-rises es ordered) in found-between es i within both.0 both.1

  -- the list without the place, as the edits of a vector give it
  pub removed-found : (es : List Entry) (i : ℕ) → SplitsAt kind key es i (i + 1) → remove es i ≡ remove_entry kind key es
  unfolding remove_entry
  removed-found es i s = let e : i + 1 ≡ suc i = omega arith in
      ap (λ j. take i es ++ drop j es) (sym e) ∙ ap (λ ys. ys ++ drop (i + 1) es) (sym s.front) ∙ ap (λ ys. entries_before kind key es ++ ys) (sym s.back)

  pub removed-none : (es : List Entry) (i : ℕ) → SplitsAt kind key es i i → es ≡ remove_entry kind key es
  unfolding remove_entry
  removed-none es i s =
      sym (take-append-drop i es) ∙ ap (λ ys. ys ++ drop i es) (sym s.front) ∙ ap (λ ys. entries_before kind key es ++ ys) (sym s.back)

-- the list with the entry put, as the edits of a vector give it
pub put-found : (e : Entry) (es : List Entry) (i : ℕ) → SplitsAt e.kind e.key es i (i + 1) → set es i e ≡ put_entry e es
unfolding put_entry
put-found e es i s =
    set-split es i e (omega (arith, s.within)) ∙ ap (λ ys. ys ++ e ∷ drop (i + 1) es) (sym s.front) ∙ ap (λ ys. entries_before e.kind e.key es ++ e ∷ ys) (sym s.back)

pub put-new : (e : Entry) (es : List Entry) (i : ℕ) → SplitsAt e.kind e.key es i i → insert es i e ≡ put_entry e es
unfolding put_entry
put-new e es i s =
    ap (λ ys. ys ++ e ∷ drop i es) (sym s.front) ∙ ap (λ ys. entries_before e.kind e.key es ++ e ∷ ys) (sym s.back)

-- what the tests of a filter say
lt-Less : (o : Ordering) → is_lt o ≡ true → o ≡ Less
lt-Less Less e = refl
lt-Less Equal e = cc
lt-Less Greater e = cc

gt-Greater : (o : Ordering) → is_gt o ≡ true → o ≡ Greater
gt-Greater Less e = cc
gt-Greater Equal e = cc
gt-Greater Greater e = refl

module _ (e : Entry) (es : List Entry) where
  -- the entries before a place are below it, and those after it above
  all-before : AllByRecursion (λ x. entry_order x e ≡ Less) (entries_before e.kind e.key es)
  all-before = each-map _ _ (λ x t. lt-Less _ t) _ (each-filter (λ x. is_lt (seen_from e.kind e.key x)) es)

  all-after : AllByRecursion (λ x. entry_order e x ≡ Less) (entries_after e.kind e.key es)
  all-after = each-map _ _ (λ x t. turned e x Greater (gt-Greater _ t)) _ (each-filter (λ x. is_gt (seen_from e.kind e.key x)) es)

  -- each before is below the entry and each after
  across : (x : Entry) → entry_order x e ≡ Less → AllByRecursion (λ y. entry_order x y ≡ Less) (entries_after e.kind e.key es)
  across x low = each-map _ _ (λ y high. entry_total.trans x e y low high) _ all-after

  pub ordered-put : IsOrderedEntries es → IsOrderedEntries (put_entry e es)
  unfolding put_entry IsStrictlySortedBy
  ordered-put ordered =
      sorted-append entry_order (entries_before e.kind e.key es) (e ∷ entries_after e.kind e.key es)
      (IsStrictlySortedBy-filter entry_order _ es ordered)
      (all-after, IsStrictlySortedBy-filter entry_order _ es ordered)
      (each-map _ _ (λ x low. (low, across x low)) _ all-before)

  removed-ordered : IsOrderedEntries es → IsOrderedEntries (remove_entry e.kind e.key es)
  unfolding remove_entry
  removed-ordered ordered =
      sorted-append entry_order (entries_before e.kind e.key es) (entries_after e.kind e.key es)
      (IsStrictlySortedBy-filter entry_order _ es ordered)
      (IsStrictlySortedBy-filter entry_order _ es ordered)
      (each-map _ _ across _ all-before)

pub ordered-remove : (kind : ℕ) (key : List ℕ) (es : List Entry) → IsOrderedEntries es → IsOrderedEntries (remove_entry kind key es)
ordered-remove kind key es ordered = removed-ordered (record { kind = kind; key = key; body = [] }) es ordered

-- the empty list is in order
pub ordered-none : (es : List Entry) → es ≡ [] → IsOrderedEntries es
unfolding IsStrictlySortedBy
ordered-none es none = subst IsOrderedEntries (sym none) tt

-- one more change at the end
pub after_changes-push : (cs : List EntryChange) (c : EntryChange) (es : List Entry) → after_changes (cs ++ c ∷ []) es ≡ after_change c (after_changes cs es)
after_changes-push [] c es = refl
after_changes-push (x ∷ xs) c es = after_changes-push xs c (after_change x es)

-- one more entry put at the end
entries_put-push : (xs : List Entry) (x : Entry) (es : List Entry) → entries_put (xs ++ x ∷ []) es ≡ put_entry x (entries_put xs es)
entries_put-push [] x es = refl
entries_put-push (y ∷ ys) x es = entries_put-push ys x (put_entry y es)

-- the entries up to an index, and the one at it
pub entries_put-more : (xs : List Entry) (i : ℕ) (d : Entry) (es : List Entry) → i < length xs
    → entries_put (take (i + 1) xs) es ≡ put_entry (get_or xs i d) (entries_put (take i xs) es)
entries_put-more xs i d es within = ap (λ ys. entries_put ys es) (take_more xs i d within) ∙ entries_put-push (take i xs) (get_or xs i d) es
