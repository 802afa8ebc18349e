-- Lists in which one element was put in, replaced or dropped: their members, and the keys of the rest.
use Rattle.std.proofs.Common.{◌≡◌, ◌≢◌, ◌+◌, ◌≤◌, Bool, true, false, cond, ◌||◌, ◌⊎◌, List, [], ◌∷◌, ◌++◌, map, length, refl, sym, ap, subst, ◌∙◌, inl, inr, arith, true≢false}
use Rattle.std.specs.List.{list_any}
use Rattle.plain_lists.specs.Members.{Mem, Each, Distinct}
use Rattle.plain_lists.specs.Edits.{changed_first, dropped, inserted, replaced, Replaces}
use Rattle.plain_lists.specs.Edits.Replaces.{new, instead}
use Rattle.plain_lists.proofs.Elements.{Mem-from_map}
use Rattle.plain_lists.proofs.Keys.{Distinct-append, Distinct-left, Distinct-right, Distinct-apart}
use Rattle.plain_lists.proofs.PutsLemmas.{Mem-Puts, Mem-puts, Mem-unputs, length-Puts}
use Rattle.plain_lists.proofs.Searches.{any-mem, any-find}
use Rattle.plain_lists.proofs.EditLemmas.{replaced-is, Each-Replaces, Distinct-Replaces, Distinct-dropped, Each-dropped, dropped-Puts, length-changed}

-- ---- members

pub Each-to_map : {X Y : Type 0} (f : X → Y) (P : Y → Type 0) {xs : List X} → Each (λ x. P (f x)) xs → Each P (map f xs)
Each-to_map f P {xs} e = record { at = λ y m. let found = Mem-from_map f y xs m in subst P (sym found.1.1) (e.at found.0 found.1.0) }

-- what is in the list after one was put is it, or was there
pub Mem-replaced : {X : Type 0} (p before : X → Bool) (x y : X) (xs : List X) → Mem y (replaced p before x xs) → (y ≡ x) ⊎ Mem y xs
Mem-replaced {X} p before x y xs m = by (replaced p before x xs) m (replaced-is p before x xs) where
  by : (ys : List X) → Mem y ys → Replaces p x xs ys → (y ≡ x) ⊎ Mem y xs
  by ys m (new fresh put) = Mem-unputs y put m
  by ys m (instead old base is out back) = elim (Mem-unputs y back m) [ inl e ↦ inl e | inr n ↦ inr (Mem-puts y out n) ]

-- the one put is there
pub Mem-put : {X : Type 0} (p before : X → Bool) (x : X) (xs : List X) → Mem x (replaced p before x xs)
Mem-put {X} p before x xs = by (replaced-is p before x xs) where
  by : {ys : List X} → Replaces p x xs ys → Mem x ys
  by (new fresh put) = Mem-Puts put
  by (instead old base is out back) = Mem-Puts back

-- and each other that does not pass the test stays
pub Mem-stays : {X : Type 0} (p before : X → Bool) (x y : X) (xs : List X) → Mem y xs → p y ≡ false → Mem y (replaced p before x xs)
Mem-stays {X} p before x y xs m fails = by (replaced-is p before x xs) where
  by : {ys : List X} → Replaces p x xs ys → Mem y ys
  by (new fresh put) = Mem-puts y put m
  by (instead old base is out back) =
      elim (Mem-unputs y out m) [ inl e ↦ absurd (true≢false (sym is ∙ sym (ap p e) ∙ fails)) | inr n ↦ Mem-puts y back n ]

-- one that does not pass the test is not dropped
pub Mem-undropped : {X : Type 0} (p : X → Bool) (y : X) (xs : List X) → Mem y xs → p y ≡ false → Mem y (dropped p xs)
Mem-undropped p y [] m fails = m
Mem-undropped {X} p y (x ∷ xs) m fails = at (p x) refl m (λ n. Mem-undropped p y xs n fails) where
  at : (b : Bool) → p x ≡ b → Mem y (x ∷ xs) → (Mem y xs → Mem y (dropped p xs)) → Mem y (cond b xs (x ∷ dropped p xs))
  at true is (inl e) more = absurd (true≢false (sym is ∙ sym (ap p e) ∙ fails))
  at true is (inr n) more = n
  at false is (inl e) more = inl e
  at false is (inr n) more = inr (more n)

-- ---- keys with more after the list

-- one whose key none after the list has is put
pub Distinct-put : {X K : Type 0} (key : X → K) (p before : X → Bool) (x : X) (xs ys : List X)
    → ((y : X) → p y ≡ true → key y ≡ key x) → ((y : X) → p y ≡ false → key y ≢ key x)
    → Each (λ y. key y ≢ key x) ys → Distinct key (xs ++ ys) → Distinct key (replaced p before x xs ++ ys)
Distinct-put key p before x xs ys tells differs apart d =
    Distinct-append key (replaced p before x xs) ys
    (Distinct-Replaces key (replaced-is p before x xs) tells differs (Distinct-left key xs ys d))
    (Distinct-right key xs ys d)
    (Each-Replaces (λ z. Each (λ y. key y ≢ key z) ys) (replaced-is p before x xs) apart (Distinct-apart key xs ys d))

pub Distinct-less : {X K : Type 0} (key : X → K) (p : X → Bool) (xs ys : List X) → Distinct key (xs ++ ys) → Distinct key (dropped p xs ++ ys)
Distinct-less key p xs ys d =
    Distinct-append key (dropped p xs) ys
    (Distinct-dropped key p xs (Distinct-left key xs ys d))
    (Distinct-right key xs ys d)
    (Each-dropped p (Distinct-apart key xs ys d))

-- ---- names of the elements

-- a change that leaves the name of the first that passes
pub map-put : {X K : Type 0} (f : X → K) (p : X → Bool) (x : X) (xs : List X)
    → ((y : X) → p y ≡ true → f y ≡ f x) → map f (changed_first p (λ _. x) xs) ≡ map f xs
map-put f p x [] tells = refl
map-put {X} {K} f p x (y ∷ ys) tells = at (p y) refl (map-put f p x ys tells) where
  at : (b : Bool) → p y ≡ b → map f (changed_first p (λ _. x) ys) ≡ map f ys
      → map f (cond b (x ∷ ys) (y ∷ changed_first p (λ _. x) ys)) ≡ f y ∷ map f ys
  at true is more = ap (λ k. k ∷ map f ys) (sym (tells y is))
  at false is more = ap (λ ks. f y ∷ ks) more

pub any-map : {X K : Type 0} (f : X → K) (q : K → Bool) (xs : List X) → list_any q (map f xs) ≡ list_any (λ x. q (f x)) xs
any-map f q [] = refl
any-map f q (x ∷ xs) = ap (λ b. q (f x) || b) (any-map f q xs)

pub map-inserted : {X K : Type 0} (f : X → K) (b : K → Bool) (x : X) (xs : List X)
    → map f (inserted (λ y. b (f y)) x xs) ≡ inserted b (f x) (map f xs)
map-inserted f b x [] = refl
map-inserted {X} {K} f b x (y ∷ ys) = at (b (f y)) (map-inserted f b x ys) where
  at : (t : Bool) → map f (inserted (λ z. b (f z)) x ys) ≡ inserted b (f x) (map f ys)
      → map f (cond t (x ∷ y ∷ ys) (y ∷ inserted (λ z. b (f z)) x ys)) ≡ cond t (f x ∷ f y ∷ map f ys) (f y ∷ inserted b (f x) (map f ys))
  at true more = refl
  at false more = ap (λ ks. f y ∷ ks) more

pub map-dropped : {X K : Type 0} (f : X → K) (q : K → Bool) (xs : List X) → map f (dropped (λ x. q (f x)) xs) ≡ dropped q (map f xs)
map-dropped f q [] = refl
map-dropped {X} {K} f q (x ∷ xs) = at (q (f x)) (map-dropped f q xs) where
  at : (t : Bool) → map f (dropped (λ y. q (f y)) xs) ≡ dropped q (map f xs)
      → map f (cond t xs (x ∷ dropped (λ y. q (f y)) xs)) ≡ cond t (map f xs) (f x ∷ dropped q (map f xs))
  at true more = refl
  at false more = ap (λ ks. f x ∷ ks) more

-- ---- lengths

-- one put makes the list longer by one at most
pub length-put : {X : Type 0} (p before : X → Bool) (x : X) (xs : List X) → length (replaced p before x xs) ≤ length xs + 1
length-put {X} p before x xs = by (replaced-is p before x xs) where
  by : {ys : List X} → Replaces p x xs ys → length ys ≤ length xs + 1
  by (new fresh put) = omega (arith, length-Puts put)
  by (instead old base is out back) = omega (arith, length-Puts out, length-Puts back)

-- and leaves its length where it stands for another
pub length-instead : {X : Type 0} (p before : X → Bool) (x y : X) (xs : List X) → Mem y xs → p y ≡ true → length (replaced p before x xs) ≡ length xs
length-instead p before x y xs m passes =
    ap (λ b. length (cond b (changed_first p (λ _. x) xs) (inserted before x xs))) (any-mem p y xs m passes)
    ∙ length-changed p (λ _. x) xs

-- one that is there is dropped
pub length-gone : {X : Type 0} (p : X → Bool) (y : X) (xs : List X) → Mem y xs → p y ≡ true → length (dropped p xs) + 1 ≡ length xs
length-gone p y xs m passes =
    let found = any-find p xs (any-mem p y xs m passes) in
    omega (arith, length-Puts (dropped-Puts p found.0 xs found.1))
