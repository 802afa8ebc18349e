-- What stands at a place after a change, and that a list in order is known by what stands at each place.
use Rattle.std.proofs.Common.{◌≡◌, ℕ, Bool, true, false, cond, List, ◌∷◌, [], Option, Some, None, refl, ap, sym, ◌∙◌}
use Rattle.std.specs.Cmp.{Equal-is, alike_right, tied_itself}
use Rattle.std.specs.List.{AllByRecursion, filter, find}
use Rattle.std.specs.List.Sorted.{IsStrictlySortedBy}
use Rattle.std.specs.Option.{option_or}
use Rattle.std.specs.Ordering.{is_lt, is_gt, is_eq, ordering_reverse}
use Rattle.std.specs.declared.cmp.Ordering.{Ordering}
use Rattle.std.specs.declared.cmp.Ordering.TheVariants.{Less, Equal, Greater}
use Rattle.std.proofs.lemmas.List.Folds.{find-append}
use Rattle.size_values.specs.declared.entry.Entry.{Entry}
use Rattle.record_keeper.specs.Entries.{seen_from, entry_order, IsOrderedEntries, entries_before, entries_after, put_entry, remove_entry, entry_at, is_place}
use Rattle.record_keeper.proofs.Listed.{each-map}
use Rattle.record_keeper.proofs.Ordered.{entry_total, turned, here, above-Greater}

-- the same on both sides
same-cond : {A : Type 0} (b : Bool) (x : A) → x ≡ cond b x x
same-cond true x = refl
same-cond false x = refl

-- a filter keeps all that the search may find, or none of it
find-filter : {X : Type 0} (p q : X → Bool) (b : Bool) → ((x : X) → p x ≡ true → q x ≡ b) → (xs : List X) → find p (filter q xs) ≡ cond b (find p xs) None
find-filter p q b says [] = same-cond b None
find-filter p q b says (x ∷ xs) = of (p x) (q x) refl refl (find-filter p q b says xs)
  where
    of : (s t : Bool) → p x ≡ s → q x ≡ t → find p (filter q xs) ≡ cond b (find p xs) None
        → find p (cond t (x ∷ filter q xs) (filter q xs)) ≡ cond b (cond s (Some x) (find p xs)) None
    of true true e f rest =
        ap (λ c. cond c (Some x) (find p (filter q xs))) e ∙ ap (λ c. cond c (Some x) None) (sym f ∙ says x e)
    of true false e f rest =
        rest ∙ ap (λ c. cond c (find p xs) None) (sym (says x e) ∙ f) ∙ ap (λ c. cond c (Some x) None) (sym f ∙ says x e)
    of false true e f rest = ap (λ c. cond c (Some x) (find p (filter q xs))) e ∙ rest
    of false false e f rest = rest

or-None : {A : Type 0} (o : Option A) → option_or o None ≡ o
or-None None = refl
or-None (Some x) = refl

module _ (kind : ℕ) (key : List ℕ) (e : Entry) (es : List Entry) where
  -- whatever stands at the place is seen from the entry as the entry from the place, the other way round
  seen : (x : Entry) → is_eq (seen_from kind key x) ≡ true → entry_order x e ≡ ordering_reverse (seen_from kind key e)
  seen x at = turned x e (seen_from kind key e) (alike_right entry_total x (here kind key) e ((Equal-is (seen_from kind key x)).0 at))

  found-before : entry_at kind key (entries_before e.kind e.key es) ≡ cond (is_lt (ordering_reverse (seen_from kind key e))) (entry_at kind key es) None
  found-before = find-filter _ _ _ (λ x at. ap is_lt (seen x at)) es

  found-after : entry_at kind key (entries_after e.kind e.key es) ≡ cond (is_gt (ordering_reverse (seen_from kind key e))) (entry_at kind key es) None
  found-after = find-filter _ _ _ (λ x at. ap is_gt (seen x at)) es

  -- after a put the place has the entry, if it is the entry's, and else what it had
  pub entry_at-put_entry : entry_at kind key (put_entry e es) ≡ cond (is_eq (seen_from kind key e)) (Some e) (entry_at kind key es)
  unfolding put_entry
  entry_at-put_entry =
      find-append (λ x. is_eq (seen_from kind key x)) (entries_before e.kind e.key es) (e ∷ entries_after e.kind e.key es)
      ∙ (λ i. option_or (found-before i) (cond (is_eq (seen_from kind key e)) (Some e) (found-after i)))
      ∙ by (seen_from kind key e)
    where
      by : (o : Ordering) → option_or (cond (is_lt (ordering_reverse o)) (entry_at kind key es) None) (cond (is_eq o) (Some e) (cond (is_gt (ordering_reverse o)) (entry_at kind key es) None))
          ≡ cond (is_eq o) (Some e) (entry_at kind key es)
      by Less = refl
      by Equal = refl
      by Greater = or-None (entry_at kind key es)

  removed : entry_at kind key (remove_entry e.kind e.key es) ≡ cond (is_eq (seen_from kind key e)) None (entry_at kind key es)
  unfolding remove_entry
  removed =
      find-append (λ x. is_eq (seen_from kind key x)) (entries_before e.kind e.key es) (entries_after e.kind e.key es)
      ∙ (λ i. option_or (found-before i) (found-after i))
      ∙ by (seen_from kind key e)
    where
      by : (o : Ordering) → option_or (cond (is_lt (ordering_reverse o)) (entry_at kind key es) None) (cond (is_gt (ordering_reverse o)) (entry_at kind key es) None)
          ≡ cond (is_eq o) None (entry_at kind key es)
      by Less = refl
      by Equal = refl
      by Greater = or-None (entry_at kind key es)

-- after a removal the place has nothing, if it was the one removed, and else what it had
pub entry_at-remove_entry : (kind : ℕ) (key : List ℕ) (kind' : ℕ) (key' : List ℕ) (es : List Entry)
    → entry_at kind key (remove_entry kind' key' es) ≡ cond (is_place kind key kind' key') None (entry_at kind key es)
entry_at-remove_entry kind key kind' key' es = removed kind key (here kind' key') es

-- all that stands above an entry leaves its place empty
above-None : (kind : ℕ) (key : List ℕ) (x : Entry) (zs : List Entry) → seen_from kind key x ≡ Equal → AllByRecursion (λ z. entry_order x z ≡ Less) zs → entry_at kind key zs ≡ None
above-None kind key x [] at above = refl
above-None kind key x (z ∷ zs) at above =
    ap (λ o. cond (is_eq o) (Some z) (entry_at kind key zs)) (above-Greater kind key x z at above.0) ∙ above-None kind key x zs at above.1

-- the first entry stands at its own place
first-Some : (x : Entry) (xs : List Entry) → entry_at x.kind x.key (x ∷ xs) ≡ Some x
first-Some x xs = ap (λ o. cond (is_eq o) (Some x) (entry_at x.kind x.key xs)) (tied_itself entry_total x)

abbrev no_entry : Option Entry
no_entry = None

-- an entry at the place of the first one, in a list that has another entry first
module _ (x y : Entry) (xs ys : List Entry) (same : (kind : ℕ) (key : List ℕ) → entry_at kind key (x ∷ xs) ≡ entry_at kind key (y ∷ ys)) where
  -- the place of x in the other list
  other-Some : entry_at x.kind x.key (y ∷ ys) ≡ Some x
  other-Some = sym (same x.kind x.key) ∙ first-Some x xs

  -- the first entries are the same, if they stand at one place
  heads : entry_order y x ≡ Equal → x ≡ y
  heads at =
      let found : Some x ≡ Some y = sym other-Some ∙ ap (λ o. cond (is_eq o) (Some y) (entry_at x.kind x.key ys)) at in
      cc

  -- the first entry of one list is not below all of the other
  not-below : AllByRecursion (λ z. entry_order x z ≡ Less) (y ∷ ys) → ⊥
  not-below above =
      let found : Some x ≡ no_entry = sym other-Some ∙ above-None x.kind x.key x (y ∷ ys) (tied_itself entry_total x) above in
      cc

  -- what stands after the first entries is the same at each place
  tails : entry_order y x ≡ Equal → AllByRecursion (λ z. entry_order x z ≡ Less) xs → AllByRecursion (λ z. entry_order y z ≡ Less) ys
      → (kind : ℕ) (key : List ℕ) → entry_at kind key xs ≡ entry_at kind key ys
  tails at low low' kind key = by (seen_from kind key x) refl
    where
      y-like : seen_from kind key y ≡ seen_from kind key x
      y-like = entry_total.congr y x (here kind key) at

      by : (o : Ordering) → seen_from kind key x ≡ o → entry_at kind key xs ≡ entry_at kind key ys
      by Equal e = above-None kind key x xs e low ∙ sym (above-None kind key y ys (y-like ∙ e) low')
      by Less e =
          sym (ap (λ o. cond (is_eq o) (Some x) (entry_at kind key xs)) e) ∙ same kind key
          ∙ ap (λ o. cond (is_eq o) (Some y) (entry_at kind key ys)) (y-like ∙ e)
      by Greater e =
          sym (ap (λ o. cond (is_eq o) (Some x) (entry_at kind key xs)) e) ∙ same kind key
          ∙ ap (λ o. cond (is_eq o) (Some y) (entry_at kind key ys)) (y-like ∙ e)

-- two lists in order that have the same entry at each place are the same list
pub entries-same : (xs ys : List Entry) → IsOrderedEntries xs → IsOrderedEntries ys
    → ((kind : ℕ) (key : List ℕ) → entry_at kind key xs ≡ entry_at kind key ys) → xs ≡ ys
unfolding IsStrictlySortedBy
entries-same [] [] ordered ordered' same = refl
entries-same [] (y ∷ ys) ordered ordered' same =
    let found : no_entry ≡ Some y = same y.kind y.key ∙ first-Some y ys in cc
entries-same (x ∷ xs) [] ordered ordered' same =
    let found : Some x ≡ no_entry = sym (first-Some x xs) ∙ same x.kind x.key in cc
entries-same (x ∷ xs) (y ∷ ys) ordered ordered' same =
    by (entry_order y x) refl (λ at. entries-same xs ys ordered.1 ordered'.1 (tails x y xs ys same at ordered.0 ordered'.0))
  where
    by : (o : Ordering) → entry_order y x ≡ o → (entry_order y x ≡ Equal → xs ≡ ys) → x ∷ xs ≡ y ∷ ys
    by Equal e rest = λ i. heads x y xs ys same e i ∷ rest e i
    by Less e rest =
        absurd (not-below y x ys xs (λ kind key. sym (same kind key)) (e, each-map _ _ (λ z low. entry_total.trans y x z e low) xs ordered.0))
    by Greater e rest =
        let low : entry_order x y ≡ Less = turned x y Greater e in
        absurd (not-below x y xs ys same (low, each-map _ _ (λ z above. entry_total.trans x y z low above) ys ordered'.0))
