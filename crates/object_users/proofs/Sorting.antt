-- A list in byte order is known by its elements: what a sort gives is what texts put in one by one give.
use Rattle.std.proofs.Common.{◌≡◌, ℕ, ◌+◌, ◌<◌, suc, Bool, true, false, cond, List, [], ◌∷◌, length, get_or, refl, sym, ap, subst, ◌∙◌, arith, Ordering, Less, Equal, Greater}
use Rattle.std.specs.Cmp.{IsStrictWeakOrder}
use Rattle.std.specs.Cmp.Lexicographic.{slice_cmp}
use Rattle.std.specs.Ordering.{nat_cmp, is_lt, is_eq, ordering_reverse}
use Rattle.std.proofs.lemmas.Map.Text.{is_eq-slice_cmp}
use Rattle.config_lists.proofs.Keys.{same}
use Rattle.std.specs.List.{sum_by}
use Rattle.std.specs.List.Sorted.{IsSortedBy, IsPermutation}
use Rattle.std.proofs.lemmas.List.Sums.{sum_by-cons}
use Rattle.std.proofs.lemmas.Cmp.{nat_list_cmp_total}
use Rattle.std.proofs.lemmas.List.MinMax.{ranks_by}
use Rattle.std.proofs.lemmas.List.Sorted.{sum_by-IsPermutation}
use Rattle.plain_lists.specs.Members.{Each}
use Rattle.plain_lists.specs.Edits.{inserted}
use Rattle.plain_lists.proofs.Elements.{Each-none, Each-cons, Each-head, Each-tail, Each-map}
use Rattle.plain_lists.proofs.PutsLemmas.{Each-puts, sum_by-Puts}
use Rattle.plain_lists.proofs.EditLemmas.{inserted-Puts}
use Rattle.row_machine.specs.machine.Rows.{text_before}
use Rattle.row_machine.specs.shown.Urls.{sorted}

-- the order of texts
pub texts-ranked : IsStrictWeakOrder text_before
texts-ranked = ranks_by nat_list_cmp_total (λ (t : List ℕ). t)

-- no text is before one that stands in front of it
abbrev Rises : List (List ℕ) → Type 0
Rises [] = Unit {0}
Rises (x ∷ xs) = Each (λ y. text_before y x ≡ false) xs × Rises xs

-- a text put in at its place
rises-inserted : (x : List ℕ) (ys : List (List ℕ)) → Rises ys → Rises (inserted (text_before x) x ys)
rises-inserted x [] h = (Each-none, tt)
rises-inserted x (y ∷ ys) h = at (text_before x y) refl (rises-inserted x ys h.1) where
  at : (b : Bool) → text_before x y ≡ b → Rises (inserted (text_before x) x ys) → Rises (cond b (x ∷ y ∷ ys) (y ∷ inserted (text_before x) x ys))
  at true e more =
      let under : text_before y x ≡ false = texts-ranked.one_way x y e in
      (Each-cons _ under (Each-map (λ z below. texts-ranked.chain z y x below under) h.0), h)
  at false e more = (Each-puts _ (inserted-Puts (text_before x) x ys) e h.0, more)

-- sorted texts rise
rises-sorted : (xs : List (List ℕ)) → Rises (sorted xs)
rises-sorted [] = tt
rises-sorted (x ∷ xs) = rises-inserted x (sorted xs) (rises-sorted xs)

-- and their sums are those of the texts
sum-sorted : (f : List ℕ → ℕ) (xs : List (List ℕ)) → sum_by f (sorted xs) ≡ sum_by f xs
sum-sorted f [] = refl
sum-sorted f (x ∷ xs) =
    sum_by-Puts f (inserted-Puts (text_before x) x (sorted xs)) ∙ ap (λ n. f x + n) (sum-sorted f xs) ∙ sym (sum_by-cons f x xs)

-- no text is before itself
itself : (x : List ℕ) → text_before x x ≡ false
itself x = at (text_before x x) refl where
  at : (b : Bool) → text_before x x ≡ b → b ≡ false
  at false e = refl
  at true e = sym e ∙ texts-ranked.one_way x x e

-- of two texts that are not before each other
tied : (x y : List ℕ) → text_before x y ≡ false → text_before y x ≡ false → x ≡ y
tied x y a b = at (slice_cmp nat_cmp x y) refl where
  at : (o : Ordering) → slice_cmp nat_cmp x y ≡ o → x ≡ y
  at Less e = let up : true ≡ false = sym (ap is_lt e) ∙ a in cc
  at Equal e = same x y (sym (is_eq-slice_cmp x y) ∙ ap is_eq e)
  at Greater e =
      let back : slice_cmp nat_cmp y x ≡ Less = nat_list_cmp_total.antisymm y x ∙ ap ordering_reverse e in
      let up : true ≡ false = sym (ap is_lt back) ∙ b in
      cc

-- a text that is before the first of rising ones is none of them
none-before : (x y : List ℕ) (ys : List (List ℕ)) → Each (λ z. text_before z y ≡ false) ys → sum_by (λ z. cond (text_before z y) 1 0) ys ≡ 0
none-before x y [] h = refl
none-before x y (z ∷ ys) h =
    let f : List ℕ → ℕ = λ t. cond (text_before t y) 1 0 in
    let more : sum_by f (z ∷ ys) ≡ f z + sum_by f ys = sum_by-cons f z ys in
    let own : f z ≡ 0 = ap (λ b. cond b 1 0) (Each-head h) in
    let rest : sum_by f ys ≡ 0 = none-before x y ys (Each-tail h) in
    omega (arith, more, own, rest)

-- the first of rising texts is before none of their own number
first-up : (x y : List ℕ) (xs ys : List (List ℕ)) → Rises (y ∷ ys)
    → ((f : List ℕ → ℕ) → sum_by f (x ∷ xs) ≡ sum_by f (y ∷ ys)) → text_before x y ≡ false
first-up x y xs ys h equal = at (text_before x y) refl where
  at : (b : Bool) → text_before x y ≡ b → b ≡ false
  at false e = refl
  at true e =
      let f : List ℕ → ℕ = λ z. cond (text_before z y) 1 0 in
      let left : sum_by f (x ∷ xs) ≡ f x + sum_by f xs = sum_by-cons f x xs in
      let one : f x ≡ 1 = ap (λ b. cond b 1 0) e in
      let right : sum_by f (y ∷ ys) ≡ f y + sum_by f ys = sum_by-cons f y ys in
      let rest : sum_by f ys ≡ 0 = none-before x y ys h.0 in
      let own : f y ≡ 0 = ap (λ b. cond b 1 0) (itself y) in
      let both : sum_by f (x ∷ xs) ≡ sum_by f (y ∷ ys) = equal f in
      absurd (omega (arith, left, one, right, rest, own, both))

-- rising texts with the same sums are the same
only-one : (xs ys : List (List ℕ)) → Rises xs → Rises ys → ((f : List ℕ → ℕ) → sum_by f xs ≡ sum_by f ys) → xs ≡ ys
only-one [] [] h k equal = refl
only-one [] (y ∷ ys) h k equal =
    let one : sum_by (λ t. 1) (y ∷ ys) ≡ 1 + sum_by (λ t. 1) ys = sum_by-cons (λ t. 1) y ys in
    let both : 0 ≡ sum_by (λ t. 1) (y ∷ ys) = equal (λ t. 1) in
    absurd (omega (arith, one, both))
only-one (x ∷ xs) [] h k equal =
    let one : sum_by (λ t. 1) (x ∷ xs) ≡ 1 + sum_by (λ t. 1) xs = sum_by-cons (λ t. 1) x xs in
    let both : sum_by (λ t. 1) (x ∷ xs) ≡ 0 = equal (λ t. 1) in
    absurd (omega (arith, one, both))
only-one (x ∷ xs) (y ∷ ys) h k equal =
    let heads : x ≡ y = tied x y (first-up x y xs ys k equal) (first-up y x ys xs h (λ f. sym (equal f))) in
    let rest : (f : List ℕ → ℕ) → sum_by f xs ≡ sum_by f ys = λ f. tails f in
    ap (λ (t : List ℕ). t ∷ xs) heads ∙ ap (λ ts. y ∷ ts) (only-one xs ys h.1 k.1 rest)
  where
    tails : (f : List ℕ → ℕ) → sum_by f xs ≡ sum_by f ys
    tails f =
        let left : sum_by f (x ∷ xs) ≡ f x + sum_by f xs = sum_by-cons f x xs in
        let right : sum_by f (y ∷ ys) ≡ f y + sum_by f ys = sum_by-cons f y ys in
        let both : sum_by f (x ∷ xs) ≡ sum_by f (y ∷ ys) = equal f in
        let heads : f x ≡ f y = ap f (tied x y (first-up x y xs ys k equal) (first-up y x ys xs h (λ g. sym (equal g)))) in
        omega (arith, left, right, both, heads)

-- what a sort gives rises
rises-from : (xs : List (List ℕ)) → IsSortedBy text_before xs → Rises xs
rises-from [] h = tt
rises-from (x ∷ []) h = (Each-none, tt)
rises-from (x ∷ y ∷ ys) h = at (rises-from (y ∷ ys) (λ k d low high. after k d high)) where
  after : (k : ℕ) (d : List ℕ) → k + 1 < length (y ∷ ys) → text_before (get_or (y ∷ ys) (k + 1) d) (get_or (y ∷ ys) k d) ≡ false
  after k d high =
      let next : suc k + 1 ≡ suc (k + 1) = omega arith in
      subst (λ n. text_before (get_or (x ∷ y ∷ ys) n d) (get_or (y ∷ ys) k d) ≡ false) next (h (suc k) d (omega arith) (omega (arith, high)))

  up : text_before y x ≡ false
  up = h 0 [] (omega arith) (omega arith)

  at : Rises (y ∷ ys) → Rises (x ∷ y ∷ ys)
  at more = (Each-cons _ up (Each-map (λ z above. texts-ranked.chain z y x above up) more.0), more)

-- the texts that a sort gives
pub sorted-is : (xs ys : List (List ℕ)) → IsPermutation xs ys → IsSortedBy text_before ys → ys ≡ sorted xs
sorted-is xs ys moved up =
    only-one ys (sorted xs) (rises-from ys up) (rises-sorted xs) (λ f. sum_by-IsPermutation f xs ys moved ∙ sym (sum-sorted f xs))
