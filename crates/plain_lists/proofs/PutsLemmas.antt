use Rattle.std.proofs.Common.{◌≡◌, ◌≢◌, ℕ, zero, suc, ◌+◌, ◌<◌, List, [], ◌∷◌, ◌++◌, map, length, drop, take, get_or, set, refl, sym, subst, ◌⊎◌, inl, inr, arith}
use Rattle.std.proofs.lemmas.List.{take-append-drop}
use Rattle.std.specs.List.{sum_by, insert, remove}
use Rattle.std.proofs.lemmas.List.Sums.{sum_by-cons}
use Rattle.plain_lists.specs.Members.{Mem, Each, Distinct}
use Rattle.plain_lists.specs.Puts.{Puts}
use Rattle.plain_lists.specs.Puts.Puts.{here, later}
use Rattle.plain_lists.proofs.Elements.{Each-head, Each-tail, Each-cons}

-- what one more element adds

pub length-Puts : {X : Type 0} {x : X} {xs ys : List X} → Puts x xs ys → length ys ≡ length xs + 1
length-Puts here = omega arith
length-Puts (later p) = let e = length-Puts p in omega arith

pub sum_by-Puts : {X : Type 0} (f : X → ℕ) {x : X} {xs ys : List X} → Puts x xs ys → sum_by f ys ≡ f x + sum_by f xs
sum_by-Puts f (here {rest = xs}) = sum_by-cons f _ xs
sum_by-Puts f (later {other = y} {rest = xs} {whole = ys} p) = let e = sum_by-Puts f p in omega (arith, sum_by-cons f y xs, sum_by-cons f y ys)

pub Mem-Puts : {X : Type 0} {x : X} {xs ys : List X} → Puts x xs ys → Mem x ys
Mem-Puts here = inl refl
Mem-Puts (later p) = inr (Mem-Puts p)

-- an element of the longer list is the one put in, or was there
pub Mem-unputs : {X : Type 0} {x : X} {xs ys : List X} (y : X) → Puts x xs ys → Mem y ys → (y ≡ x) ⊎ Mem y xs
Mem-unputs y here m = m
Mem-unputs y (later p) (inl e) = inr (inl e)
Mem-unputs y (later p) (inr m) = elim (Mem-unputs y p m) [ inl e ↦ inl e | inr n ↦ inr (inr n) ]

pub Mem-puts : {X : Type 0} {x : X} {xs ys : List X} (y : X) → Puts x xs ys → Mem y xs → Mem y ys
Mem-puts y here m = inr m
Mem-puts y (later p) (inl e) = inl e
Mem-puts y (later p) (inr m) = inr (Mem-puts y p m)

pub Each-puts : {X : Type 0} (P : X → Type 0) {x : X} {xs ys : List X} → Puts x xs ys → P x → Each P xs → Each P ys
Each-puts P p here_is e = record { at = λ y m. elim (Mem-unputs y p m) [ inl q ↦ subst P (sym q) here_is | inr n ↦ e.at y n ] }

-- what each element of the longer list meets, the one put in and the others meet
pub Each-unputs : {X : Type 0} {P : X → Type 0} {x : X} {xs ys : List X} → Puts x xs ys → Each P ys → P x × Each P xs
Each-unputs {x} p e = (e.at x (Mem-Puts p), record { at = λ y m. e.at y (Mem-puts y p m) })

-- keys stay distinct where a fresh one is put in
pub Distinct-puts : {X K : Type 0} (key : X → K) {x : X} {xs ys : List X}
    → Puts x xs ys → Each (λ y. key y ≢ key x) xs → Distinct key xs → Distinct key ys
Distinct-puts key here fresh d = (fresh, d)
Distinct-puts key (later {other = y} p) fresh d = (
  Each-puts (λ z. key z ≢ key y) p (λ e. Each-head fresh (sym e)) d.0,
  Distinct-puts key p (Each-tail fresh) d.1,
)

-- of distinct keys, the one put in is fresh for the others
pub Distinct-unputs : {X K : Type 0} (key : X → K) {x : X} {xs ys : List X}
    → Puts x xs ys → Distinct key ys → Each (λ y. key y ≢ key x) xs × Distinct key xs
Distinct-unputs key here d = d
Distinct-unputs key {x} (later {other = y} p) d =
    let apart = Each-unputs p d.0 in
    let rest = Distinct-unputs key p d.1 in
    (Each-cons (λ z. key z ≢ key x) (λ e. apart.0 (sym e)) rest.0, (apart.1, rest.1))

-- where something may be put

pub Puts-left : {X : Type 0} {x : X} {xs ys : List X} (zs : List X) → Puts x xs ys → Puts x (xs ++ zs) (ys ++ zs)
Puts-left zs here = here
Puts-left zs (later p) = later (Puts-left zs p)

pub Puts-right : {X : Type 0} {x : X} {xs ys : List X} (zs : List X) → Puts x xs ys → Puts x (zs ++ xs) (zs ++ ys)
Puts-right [] p = p
Puts-right (z ∷ zs) p = later (Puts-right zs p)

pub Puts-between : {X : Type 0} {x : X} (xs ys : List X) → Puts x (xs ++ ys) (xs ++ x ∷ ys)
Puts-between [] ys = here
Puts-between (y ∷ xs) ys = later (Puts-between xs ys)

pub Puts-push : {X : Type 0} {x : X} (xs : List X) → Puts x xs (xs ++ x ∷ [])
Puts-push [] = here
Puts-push (y ∷ xs) = later (Puts-push xs)

pub Puts-map : {X Y : Type 0} (f : X → Y) {x : X} {xs ys : List X} → Puts x xs ys → Puts (f x) (map f xs) (map f ys)
Puts-map f here = here
Puts-map f (later p) = later (Puts-map f p)

-- an element of a list is put into the others
pub Puts-Mem : {X : Type 0} (x : X) (ys : List X) → Mem x ys → (xs : List X) × Puts x xs ys
Puts-Mem x [] m = absurd m
Puts-Mem x (y ∷ ys) (inl e) = (ys, subst (λ z. Puts x ys (z ∷ ys)) e here)
Puts-Mem x (y ∷ ys) (inr m) = let found = Puts-Mem x ys m in (y ∷ found.0, later found.1)

-- the edits of a vector

pub Puts-insert : {X : Type 0} (xs : List X) (i : ℕ) (x : X) → Puts x xs (insert xs i x)
Puts-insert xs i x = subst (λ zs. Puts x zs (take i xs ++ x ∷ drop i xs)) (take-append-drop i xs) (Puts-between (take i xs) (drop i xs))

pub Puts-remove : {X : Type 0} (xs : List X) (i : ℕ) (d : X) → i < length xs → Puts (get_or xs i d) (remove xs i) xs
Puts-remove [] i d h = absurd (omega arith)
Puts-remove (x ∷ xs) zero d h = here
Puts-remove (x ∷ xs) (suc i) d h = later (Puts-remove xs i d (omega arith))

pub Puts-set : {X : Type 0} (xs : List X) (i : ℕ) (y d : X) → i < length xs
    → (base : List X) × (Puts (get_or xs i d) base xs × Puts y base (set xs i y))
Puts-set [] i y d h = absurd (omega arith)
Puts-set (x ∷ xs) zero y d h = (xs, (here, here))
Puts-set (x ∷ xs) (suc i) y d h = let found = Puts-set xs i y d (omega arith) in (x ∷ found.0, (later found.1.0, later found.1.1))
