-- An entry put or removed among entries of other kinds: those of lower kinds stay before it, and those of higher kinds after.
use Rattle.std.proofs.Common.{◌≡◌, ℕ, ◌<◌, Bool, true, false, cond, List, [], ◌∷◌, ◌++◌, filter, refl, sym, ap, ◌∙◌, append-nil}
use Rattle.std.specs.Cmp.{nat_cmp_is}
use Rattle.std.specs.Cmp.Lexicographic.{slice_cmp}
use Rattle.std.specs.Ordering.{nat_cmp, is_lt, is_gt, ordering_then}
use Rattle.std.specs.declared.cmp.Ordering.TheVariants.{Less, Greater}
use Rattle.std.proofs.lemmas.List.{append_assoc}
use Rattle.std.proofs.lemmas.List.Elements.{filter-append}
use Rattle.plain_lists.specs.Members.{Each}
use Rattle.plain_lists.proofs.Elements.{Each-head, Each-tail, Each-map}
use Rattle.size_values.specs.declared.entry.Entry.{Entry}
use Rattle.record_keeper.specs.Entries.{seen_from, entries_before, entries_after, put_entry, remove_entry}

-- ---- what is seen from a place

seen_low : (k : ℕ) (key : List ℕ) (x : Entry) → x.kind < k → seen_from k key x ≡ Less
seen_low k key x lt = ap (λ o. ordering_then o (slice_cmp nat_cmp x.key key)) (sym (nat_cmp_is x.kind k Less lt))

seen_high : (k : ℕ) (key : List ℕ) (x : Entry) → k < x.kind → seen_from k key x ≡ Greater
seen_high k key x lt = ap (λ o. ordering_then o (slice_cmp nat_cmp x.key key)) (sym (nat_cmp_is x.kind k Greater lt))

pub filter-all : {X : Type 0} (p : X → Bool) (xs : List X) → Each (λ x. p x ≡ true) xs → filter p xs ≡ xs
filter-all p [] e = refl
filter-all p (x ∷ xs) e = ap (λ b. cond b (x ∷ filter p xs) (filter p xs)) (Each-head e) ∙ ap (λ ys. x ∷ ys) (filter-all p xs (Each-tail e))

pub filter-none : {X : Type 0} (p : X → Bool) (xs : List X) → Each (λ x. p x ≡ false) xs → filter p xs ≡ []
filter-none p [] e = refl
filter-none p (x ∷ xs) e = ap (λ b. cond b (x ∷ filter p xs) (filter p xs)) (Each-head e) ∙ filter-none p xs (Each-tail e)

module _ (k : ℕ) (key : List ℕ) where
  before_front : (front es : List Entry) → Each (λ x. x.kind < k) front → entries_before k key (front ++ es) ≡ front ++ entries_before k key es
  before_front front es low =
      filter-append (λ x. is_lt (seen_from k key x)) front es
      ∙ ap (λ xs. xs ++ entries_before k key es) (filter-all (λ x. is_lt (seen_from k key x)) front (Each-map (λ x lt. ap is_lt (seen_low k key x lt)) low))

  after_front : (front es : List Entry) → Each (λ x. x.kind < k) front → entries_after k key (front ++ es) ≡ entries_after k key es
  after_front front es low =
      filter-append (λ x. is_gt (seen_from k key x)) front es
      ∙ ap (λ xs. xs ++ entries_after k key es) (filter-none (λ x. is_gt (seen_from k key x)) front (Each-map (λ x lt. ap is_gt (seen_low k key x lt)) low))

  before_back : (es back : List Entry) → Each (λ x. k < x.kind) back → entries_before k key (es ++ back) ≡ entries_before k key es
  before_back es back high =
      filter-append (λ x. is_lt (seen_from k key x)) es back
      ∙ ap (λ xs. entries_before k key es ++ xs) (filter-none (λ x. is_lt (seen_from k key x)) back (Each-map (λ x lt. ap is_lt (seen_high k key x lt)) high))
      ∙ append-nil (entries_before k key es)

  after_back : (es back : List Entry) → Each (λ x. k < x.kind) back → entries_after k key (es ++ back) ≡ entries_after k key es ++ back
  after_back es back high =
      filter-append (λ x. is_gt (seen_from k key x)) es back
      ∙ ap (λ xs. entries_after k key es ++ xs) (filter-all (λ x. is_gt (seen_from k key x)) back (Each-map (λ x lt. ap is_gt (seen_high k key x lt)) high))

  -- ---- a removal

  pub remove-front : (front es : List Entry) → Each (λ x. x.kind < k) front → remove_entry k key (front ++ es) ≡ front ++ remove_entry k key es
  unfolding remove_entry
  remove-front front es low =
      (λ i. before_front front es low i ++ after_front front es low i)
      ∙ append_assoc front (entries_before k key es) (entries_after k key es)

  pub remove-back : (es back : List Entry) → Each (λ x. k < x.kind) back → remove_entry k key (es ++ back) ≡ remove_entry k key es ++ back
  unfolding remove_entry
  remove-back es back high =
      (λ i. before_back es back high i ++ after_back es back high i)
      ∙ sym (append_assoc (entries_before k key es) (entries_after k key es) back)

  pub remove-none : remove_entry k key [] ≡ []
  unfolding remove_entry
  remove-none = refl

-- ---- an entry is put

pub put-front : (e : Entry) (front es : List Entry) → Each (λ x. x.kind < e.kind) front → put_entry e (front ++ es) ≡ front ++ put_entry e es
unfolding put_entry
put-front e front es low =
    (λ i. before_front e.kind e.key front es low i ++ e ∷ after_front e.kind e.key front es low i)
    ∙ append_assoc front (entries_before e.kind e.key es) (e ∷ entries_after e.kind e.key es)

pub put-back : (e : Entry) (es back : List Entry) → Each (λ x. e.kind < x.kind) back → put_entry e (es ++ back) ≡ put_entry e es ++ back
unfolding put_entry
put-back e es back high =
    (λ i. before_back e.kind e.key es back high i ++ e ∷ after_back e.kind e.key es back high i)
    ∙ sym (append_assoc (entries_before e.kind e.key es) (e ∷ entries_after e.kind e.key es) back)
