use Rattle.std.proofs.Common.{◌≡◌, ℕ, zero, suc, ◌<◌, List, [], ◌∷◌, ◌++◌, map, length, drop, take, get_or, refl, sym, ap, subst, inl, inr, ◌⊎◌, arith}
use Rattle.plain_lists.specs.Members.{Mem, Each}

-- membership in parts of a list

pub Mem-left : {X : Type 0} (x : X) (xs ys : List X) → Mem x xs → Mem x (xs ++ ys)
Mem-left x [] ys m = absurd m
Mem-left x (y ∷ xs) ys (inl e) = inl e
Mem-left x (y ∷ xs) ys (inr m) = inr (Mem-left x xs ys m)

pub Mem-right : {X : Type 0} (x : X) (xs ys : List X) → Mem x ys → Mem x (xs ++ ys)
Mem-right x [] ys m = m
Mem-right x (y ∷ xs) ys m = inr (Mem-right x xs ys m)

pub Mem-append : {X : Type 0} (x : X) (xs ys : List X) → Mem x (xs ++ ys) → Mem x xs ⊎ Mem x ys
Mem-append x [] ys m = inr m
Mem-append x (y ∷ xs) ys (inl e) = inl (inl e)
Mem-append x (y ∷ xs) ys (inr m) = elim (Mem-append x xs ys m) [ inl a ↦ inl (inr a) | inr b ↦ inr b ]

pub Mem-drop : {X : Type 0} (x : X) (n : ℕ) (xs : List X) → Mem x (drop n xs) → Mem x xs
Mem-drop x zero xs m = m
Mem-drop x (suc n) [] m = m
Mem-drop x (suc n) (y ∷ xs) m = inr (Mem-drop x n xs m)

pub Mem-take : {X : Type 0} (x : X) (n : ℕ) (xs : List X) → Mem x (take n xs) → Mem x xs
Mem-take x zero [] m = m
Mem-take x zero (y ∷ xs) m = absurd m
Mem-take x (suc n) [] m = m
Mem-take x (suc n) (y ∷ xs) (inl e) = inl e
Mem-take x (suc n) (y ∷ xs) (inr m) = inr (Mem-take x n xs m)

-- the element at a place is one of the list
pub Mem-get_or : {X : Type 0} (xs : List X) (i : ℕ) (d : X) → i < length xs → Mem (get_or xs i d) xs
Mem-get_or [] i d h = absurd (omega arith)
Mem-get_or (y ∷ xs) zero d h = inl refl
Mem-get_or (y ∷ xs) (suc i) d h = inr (Mem-get_or xs i d (omega arith))

pub Mem-map : {X Y : Type 0} (f : X → Y) (x : X) (xs : List X) → Mem x xs → Mem (f x) (map f xs)
Mem-map f x [] m = absurd m
Mem-map f x (y ∷ xs) (inl e) = inl (ap f e)
Mem-map f x (y ∷ xs) (inr m) = inr (Mem-map f x xs m)

pub Mem-from_map : {X Y : Type 0} (f : X → Y) (y : Y) (xs : List X) → Mem y (map f xs) → (x : X) × (Mem x xs × (y ≡ f x))
Mem-from_map f y [] m = absurd m
Mem-from_map f y (x ∷ xs) (inl e) = (x, (inl refl, e))
Mem-from_map f y (x ∷ xs) (inr m) = let found = Mem-from_map f y xs m in (found.0, (inr found.1.0, found.1.1))

-- what each element meets

pub Each-none : {X : Type 0} {P : X → Type 0} → Each P []
Each-none = record { at = λ x m. absurd m }

pub Each-cons : {X : Type 0} (P : X → Type 0) {x : X} {xs : List X} → P x → Each P xs → Each P (x ∷ xs)
Each-cons P p e = record { at = λ y m. elim m [ inl q ↦ subst P (sym q) p | inr n ↦ e.at y n ] }

pub Each-head : {X : Type 0} {P : X → Type 0} {x : X} {xs : List X} → Each P (x ∷ xs) → P x
Each-head {x} e = e.at x (inl refl)

pub Each-tail : {X : Type 0} {P : X → Type 0} {x : X} {xs : List X} → Each P (x ∷ xs) → Each P xs
Each-tail e = record { at = λ y m. e.at y (inr m) }

pub Each-map : {X : Type 0} {P Q : X → Type 0} {xs : List X} → ((x : X) → P x → Q x) → Each P xs → Each Q xs
Each-map f e = record { at = λ x m. f x (e.at x m) }

pub Each-both : {X : Type 0} {P Q : X → Type 0} {xs : List X} → Each P xs → Each Q xs → Each (λ x. P x × Q x) xs
Each-both e g = record { at = λ x m. (e.at x m, g.at x m) }

pub Each-append : {X : Type 0} {P : X → Type 0} {xs ys : List X} → Each P xs → Each P ys → Each P (xs ++ ys)
Each-append {xs} {ys} e g = record { at = λ x m. elim (Mem-append x xs ys m) [ inl a ↦ e.at x a | inr b ↦ g.at x b ] }

pub Each-left : {X : Type 0} {P : X → Type 0} {xs : List X} (ys : List X) → Each P (xs ++ ys) → Each P xs
Each-left {xs} ys e = record { at = λ x m. e.at x (Mem-left x xs ys m) }

pub Each-right : {X : Type 0} {P : X → Type 0} (xs : List X) {ys : List X} → Each P (xs ++ ys) → Each P ys
Each-right xs {ys} e = record { at = λ x m. e.at x (Mem-right x xs ys m) }

pub Each-push : {X : Type 0} (P : X → Type 0) {x : X} {xs : List X} → Each P xs → P x → Each P (xs ++ x ∷ [])
Each-push P e p = Each-append e (Each-cons P p Each-none)

pub Each-drop : {X : Type 0} {P : X → Type 0} (n : ℕ) {xs : List X} → Each P xs → Each P (drop n xs)
Each-drop n {xs} e = record { at = λ x m. e.at x (Mem-drop x n xs m) }

pub Each-take : {X : Type 0} {P : X → Type 0} (n : ℕ) {xs : List X} → Each P xs → Each P (take n xs)
Each-take n {xs} e = record { at = λ x m. e.at x (Mem-take x n xs m) }

pub Each-get_or : {X : Type 0} {P : X → Type 0} {xs : List X} (i : ℕ) (d : X) → Each P xs → i < length xs → P (get_or xs i d)
Each-get_or {xs} i d e h = e.at (get_or xs i d) (Mem-get_or xs i d h)

-- each element of a map, by what the map is made of
pub Each-from_map : {X Y : Type 0} (f : X → Y) {P : Y → Type 0} {xs : List X} → Each P (map f xs) → Each (λ x. P (f x)) xs
Each-from_map f {xs} e = record { at = λ x m. e.at (f x) (Mem-map f x xs m) }
