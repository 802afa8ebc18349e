use Rattle.std.proofs.Common.{◌≡◌, ℕ, suc, ◌+◌, ◌≤◌, Option, Some, None, List, [], ◌∷◌, ◌++◌, length, refl, sym, ◌∙◌, ap, subst, inl, inr, arith}
use Rattle.std.specs.List.{filter_map, sum_by, cons_option}
use Rattle.std.specs.Option.{option_map_or}
use Rattle.std.proofs.lemmas.List.Elements.{filter_map-append}
use Rattle.std.proofs.lemmas.List.Sums.{sum_by-cons}
use Rattle.plain_lists.specs.Members.{Mem, Each}
use Rattle.plain_lists.specs.Puts.{Puts}
use Rattle.plain_lists.specs.Puts.Puts.{here, later}
use Rattle.plain_lists.proofs.Elements.{Each-head, Each-tail}

-- what h reads of the elements

pub read-push : {X Y : Type 0} (h : X → Option Y) (xs : List X) (x : X) (y : Y)
    → h x ≡ Some y → filter_map h (xs ++ x ∷ []) ≡ filter_map h xs ++ y ∷ []
read-push h xs x y e = filter_map-append h xs (x ∷ []) ∙ ap (λ o. filter_map h xs ++ cons_option o []) e

-- an element of which nothing is read, wherever it is put
pub read-same : {X Y : Type 0} (h : X → Option Y) {x : X} {xs ys : List X}
    → Puts x xs ys → h x ≡ None → filter_map h ys ≡ filter_map h xs
read-same h (here {rest = xs}) e = ap (λ o. cons_option o (filter_map h xs)) e
read-same h (later {other = y} p) e = ap (λ zs. cons_option (h y) zs) (read-same h p e)

-- what is read of one more element is one more that is read
pub read-Puts : {X Y : Type 0} (h : X → Option Y) {x : X} {y : Y} {xs ys : List X}
    → Puts x xs ys → h x ≡ Some y → Puts y (filter_map h xs) (filter_map h ys)
read-Puts h {y} (here {rest = xs}) e = subst (λ o. Puts y (filter_map h xs) (cons_option o (filter_map h xs))) (sym e) here
read-Puts h {y} (later {other = z} {rest = xs} {whole = ys} p) e = at (h z) (read-Puts h p e) where
  at : {Y : Type 0} {y : Y} {xs ys : List Y} (o : Option Y) → Puts y xs ys → Puts y (cons_option o xs) (cons_option o ys)
  at None p = p
  at (Some w) p = later p

pub Mem-read : {X Y : Type 0} (h : X → Option Y) (x : X) (y : Y) (xs : List X) → Mem x xs → h x ≡ Some y → Mem y (filter_map h xs)
Mem-read h x y [] m e = absurd m
Mem-read h x y (z ∷ zs) (inl q) e = subst (λ o. Mem y (cons_option o (filter_map h zs))) (sym (sym (ap h q) ∙ e)) (inl refl)
Mem-read h x y (z ∷ zs) (inr m) e = at y (filter_map h zs) (h z) (Mem-read h x y zs m e) where
  at : {Y : Type 0} (y : Y) (ys : List Y) (o : Option Y) → Mem y ys → Mem y (cons_option o ys)
  at y ys None n = n
  at y ys (Some w) n = inr n

pub Mem-from_read : {X Y : Type 0} (h : X → Option Y) (y : Y) (xs : List X)
    → Mem y (filter_map h xs) → (x : X) × (Mem x xs × (h x ≡ Some y))
Mem-from_read h y [] m = absurd m
Mem-from_read {X} {Y} h y (x ∷ xs) m = at (h x) refl m (Mem-from_read h y xs) where
  further : (w : X) × (Mem w xs × (h w ≡ Some y)) → (w : X) × (Mem w (x ∷ xs) × (h w ≡ Some y))
  further found = (found.0, (inr found.1.0, found.1.1))

  at : (o : Option Y) → h x ≡ o → Mem y (cons_option o (filter_map h xs))
      → (Mem y (filter_map h xs) → (w : X) × (Mem w xs × (h w ≡ Some y))) → (w : X) × (Mem w (x ∷ xs) × (h w ≡ Some y))
  at None is n more = further (more n)
  at (Some z) is (inl q) more = (x, (inl refl, is ∙ ap Some (sym q)))
  at (Some z) is (inr n) more = further (more n)

pub length-read : {X Y : Type 0} (h : X → Option Y) (xs : List X) → length (filter_map h xs) ≤ length xs
length-read h [] = omega arith
length-read h (x ∷ xs) = at (length xs) (filter_map h xs) (h x) (length-read h xs) where
  at : {Y : Type 0} (n : ℕ) (ys : List Y) (o : Option Y) → length ys ≤ n → length (cons_option o ys) ≤ suc n
  at n ys None le = omega arith
  at n ys (Some w) le = omega arith

-- sums

pub sum_by-same : {X : Type 0} (f g : X → ℕ) (xs : List X) → Each (λ x. f x ≡ g x) xs → sum_by f xs ≡ sum_by g xs
sum_by-same f g [] e = refl
sum_by-same f g (x ∷ xs) e =
    let here_same : f x ≡ g x = Each-head e in
    omega (arith, sum_by-cons f x xs, sum_by-cons g x xs, sum_by-same f g xs (Each-tail e))

-- a sum over what is read is a sum over the elements
pub sum_by-read : {X Y : Type 0} (h : X → Option Y) (f : Y → ℕ) (xs : List X)
    → sum_by f (filter_map h xs) ≡ sum_by (λ x. option_map_or f (h x) 0) xs
sum_by-read h f [] = refl
sum_by-read {X} {Y} h f (x ∷ xs) = at (h x) (sum_by-read h f xs) ∙ sym (sum_by-cons (λ z. option_map_or f (h z) 0) x xs) where
  at : (o : Option Y) → sum_by f (filter_map h xs) ≡ sum_by (λ z. option_map_or f (h z) 0) xs
      → sum_by f (cons_option o (filter_map h xs)) ≡ option_map_or f o 0 + sum_by (λ z. option_map_or f (h z) 0) xs
  at None e = omega arith
  at (Some y) e = omega (arith, sum_by-cons f y (filter_map h xs))
