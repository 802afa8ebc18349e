-- Lists that rise by their names keep rising where one element is put in, changed under its name, or dropped.
use Rattle.std.proofs.Common.{◌≡◌, ◌≢◌, ℕ, ◌≤◌, suc, Bool, true, false, cond, List, [], ◌∷◌, length, refl, sym, ap, subst, ◌∙◌, inl, inr, arith}
use Rattle.std.specs.Cmp.{IsTotalOrder, tied_itself}
use Rattle.std.specs.Cmp.Lexicographic.{slice_cmp}
use Rattle.std.specs.declared.cmp.Ordering.{Ordering}
use Rattle.std.specs.declared.cmp.Ordering.TheVariants.{Less, Equal, Greater}
use Rattle.std.specs.List.{list_any}
use Rattle.std.specs.Ordering.{nat_cmp, is_lt, ordering_reverse, ordering_then}
use Rattle.std.proofs.lemmas.Cmp.{nat_list_cmp_total, lists_total}
use Rattle.std.proofs.lemmas.Map.Lookups.{exact_bytes}
use Rattle.std.proofs.lemmas.Bool.{true≢false}
use Rattle.plain_lists.specs.Members.{Mem, Each, Distinct}
use Rattle.plain_lists.specs.Edits.{changed_first, dropped, inserted, replaced}
use Rattle.plain_lists.proofs.Elements.{Each-none, Each-cons, Each-head, Each-tail, Each-map}
use Rattle.plain_lists.proofs.PutsLemmas.{Each-puts}
use Rattle.plain_lists.proofs.Searches.{any-none}
use Rattle.plain_lists.proofs.EditLemmas.{Each-changed, Each-dropped, inserted-Puts}
use Rattle.row_machine.specs.machine.Rows.{texts_before}
use Rattle.row_machine.specs.facts.Whole.{Rise}

-- ---- the order of lists of texts is total

abbrev order : List (List ℕ) → List (List ℕ) → Ordering
order = slice_cmp (slice_cmp nat_cmp)

total : IsTotalOrder order
total = lists_total nat_list_cmp_total

less : (o : Ordering) → is_lt o ≡ true → o ≡ Less
less Less h = refl
less Equal h = cc
less Greater h = cc

both_equal : (a b : Ordering) → ordering_then a b ≡ Equal → (a ≡ Equal) × (b ≡ Equal)
both_equal Less b e = cc
both_equal Equal b e = (refl, e)
both_equal Greater b e = cc

exact_texts : (a b : List (List ℕ)) → order a b ≡ Equal → a ≡ b
exact_texts [] [] e = refl
exact_texts [] (y ∷ ys) e = cc
exact_texts (x ∷ xs) [] e = cc
exact_texts (x ∷ xs) (y ∷ ys) e =
    let parts = both_equal (slice_cmp nat_cmp x y) (order xs ys) e in
    let first : x ≡ y = exact_bytes x y parts.0 in
    let rest : xs ≡ ys = exact_texts xs ys parts.1 in
    cc

pub before_trans : (a b c : List (List ℕ)) → texts_before a b ≡ true → texts_before b c ≡ true → texts_before a c ≡ true
before_trans a b c h k = ap is_lt (total.trans a b c (less (order a b) h) (less (order b c) k))

-- of two that differ one is before the other
pub before_back : (a b : List (List ℕ)) → texts_before a b ≡ false → b ≢ a → texts_before b a ≡ true
before_back a b h differs = at (order a b) refl h where
  at : (o : Ordering) → order a b ≡ o → is_lt o ≡ false → is_lt (order b a) ≡ true
  at Less is k = cc
  at Equal is k = absurd (differs (sym (exact_texts a b is)))
  at Greater is k = ap is_lt (total.antisymm b a ∙ ap ordering_reverse is)

-- ---- changes of a list that rises

pub Rise-inserted : {X : Type 0} (names : X → List (List ℕ)) (x : X) (xs : List X)
    → Each (λ y. names y ≢ names x) xs → Rise names xs → Rise names (inserted (λ y. texts_before (names x) (names y)) x xs)
Rise-inserted names x [] fresh up = (Each-none, tt)
Rise-inserted names x (y ∷ ys) fresh up = at (texts_before (names x) (names y)) refl (Rise-inserted names x ys (Each-tail fresh) up.1) where
  at : (b : Bool) → texts_before (names x) (names y) ≡ b
      → Rise names (inserted (λ z. texts_before (names x) (names z)) x ys)
      → Rise names (cond b (x ∷ y ∷ ys) (y ∷ inserted (λ z. texts_before (names x) (names z)) x ys))
  at true is more = (
    Each-cons (λ z. texts_before (names x) (names z) ≡ true) is (Each-map (λ z. before_trans (names x) (names y) (names z) is) up.0),
    up,
  )
  at false is more = (
    Each-puts
        (λ z. texts_before (names y) (names z) ≡ true)
        (inserted-Puts (λ z. texts_before (names x) (names z)) x ys)
        (before_back (names x) (names y) is (Each-head fresh))
        up.0,
    more,
  )

pub Rise-changed : {X : Type 0} (names : X → List (List ℕ)) (p : X → Bool) (f : X → X) (xs : List X)
    → ((y : X) → p y ≡ true → names (f y) ≡ names y) → Rise names xs → Rise names (changed_first p f xs)
Rise-changed names p f [] keeps up = up
Rise-changed names p f (y ∷ ys) keeps up = at (p y) refl (Rise-changed names p f ys keeps up.1) where
  at : (b : Bool) → p y ≡ b → Rise names (changed_first p f ys) → Rise names (cond b (f y ∷ ys) (y ∷ changed_first p f ys))
  at true is more = (subst (λ k. Each (λ z. texts_before k (names z) ≡ true) ys) (sym (keeps y is)) up.0, up.1)
  at false is more = (
    Each-changed
        (λ z. texts_before (names y) (names z) ≡ true)
        p
        f
        ys
        (λ z passes below. subst (λ k. texts_before (names y) k ≡ true) (sym (keeps z passes)) below)
        up.0,
    more,
  )

pub Rise-dropped : {X : Type 0} (names : X → List (List ℕ)) (p : X → Bool) (xs : List X) → Rise names xs → Rise names (dropped p xs)
Rise-dropped names p [] up = up
Rise-dropped names p (y ∷ ys) up = at (p y) (Rise-dropped names p ys up.1) where
  at : (b : Bool) → Rise names (dropped p ys) → Rise names (cond b ys (y ∷ dropped p ys))
  at true more = up.1
  at false more = (Each-dropped p up.0, more)

-- one is put in, or in place of the one of its names
pub Rise-replaced : {X : Type 0} (names : X → List (List ℕ)) (p : X → Bool) (x : X) (xs : List X)
    → ((y : X) → p y ≡ true → names y ≡ names x) → ((y : X) → p y ≡ false → names y ≢ names x)
    → Rise names xs → Rise names (replaced p (λ y. texts_before (names x) (names y)) x xs)
Rise-replaced names p x xs tells differs up = at (list_any p xs) refl where
  at : (b : Bool) → list_any p xs ≡ b
      → Rise names (cond b (changed_first p (λ _. x) xs) (inserted (λ y. texts_before (names x) (names y)) x xs))
  at true is = Rise-changed names p (λ _. x) xs (λ y passes. sym (tells y passes)) up
  at false is = Rise-inserted names x xs (Each-map differs (any-none p xs is)) up

pub length-dropped : {X : Type 0} (p : X → Bool) (xs : List X) → length (dropped p xs) ≤ length xs
length-dropped p [] = omega arith
length-dropped p (y ∷ ys) = at (p y) (length-dropped p ys) where
  at : (b : Bool) → length (dropped p ys) ≤ length ys → length (cond b ys (y ∷ dropped p ys)) ≤ suc (length ys)
  at true more = omega arith
  at false more = omega arith

-- ---- what rises is distinct

not_before_itself : (names : List (List ℕ)) → texts_before names names ≡ false
not_before_itself names = ap is_lt (tied_itself total names)

-- elements that rise by their names have distinct keys, where a key tells the names
pub rise_distinct : {X K : Type 0} (names : X → List (List ℕ)) (key : X → K) (xs : List X) → Rise names xs
    → ((x y : X) → Mem x xs → Mem y xs → key y ≡ key x → names y ≡ names x) → Distinct key xs
rise_distinct names key [] rise tells = tt
rise_distinct names key (x ∷ xs) rise tells = (
  record { at = λ y m e. true≢false (sym (rise.0.at y m) ∙ ap (texts_before (names x)) (tells x y (inl refl) (inr m) e) ∙ not_before_itself (names x)) },
  rise_distinct names key xs rise.1 (λ y z m n. tells y z (inr m) (inr n)),
)

pub Rise-Distinct : {X : Type 0} (names : X → List (List ℕ)) (xs : List X) → Rise names xs → Distinct names xs
Rise-Distinct names xs rise = rise_distinct names names xs rise (λ x y m n e. e)
