use Rattle.std.proofs.Common.{◌≡◌, ℕ, ◌-◌, ◌<◌, ◌≤◌, List, [], ◌∷◌, ◌++◌, length, drop, sym, ◌∙◌, ap, arith, length-drop}
use Rattle.std.proofs.lemmas.List.{drop-append-le, length_push}
use Rattle.plain_lists.specs.Rings.{keep_last, ring_push}
use Rattle.plain_lists.specs.Members.{Each}
use Rattle.plain_lists.proofs.Elements.{Each-drop, Each-push}

pub length-keep_last : {X : Type 0} (n : ℕ) (xs : List X) → length (keep_last n xs) ≤ n
length-keep_last n xs = omega (arith, length-drop (length xs - n) xs)

pub ring-few : {X : Type 0} (cap : ℕ) (x : X) (xs : List X) → length (ring_push cap x xs) ≤ cap
ring-few cap x xs = length-keep_last cap (xs ++ x ∷ [])

-- a ring with room keeps all
pub ring-room : {X : Type 0} (cap : ℕ) (x : X) (xs : List X) → length xs < cap → ring_push cap x xs ≡ xs ++ x ∷ []
ring-room cap x xs h = ap (λ n. drop n (xs ++ x ∷ [])) (let e : length (xs ++ x ∷ []) - cap ≡ 0 = omega (arith, length_push xs x) in e)

-- a full ring loses its first
pub ring-full : {X : Type 0} (cap : ℕ) (x : X) (xs : List X) → length xs ≡ cap → 0 < cap → ring_push cap x xs ≡ drop 1 xs ++ x ∷ []
ring-full cap x xs h some =
    ap (λ n. drop n (xs ++ x ∷ [])) (let e : length (xs ++ x ∷ []) - cap ≡ 1 = omega (arith, length_push xs x) in e)
    ∙ drop-append-le 1 xs (x ∷ []) (omega arith)

pub Each-ring : {X : Type 0} (P : X → Type 0) (cap : ℕ) {x : X} {xs : List X} → Each P xs → P x → Each P (ring_push cap x xs)
Each-ring P cap {x} {xs} e p = Each-drop (length (xs ++ x ∷ []) - cap) (Each-push P e p)

-- the oldest goes first, and then the new one is put at the end
pub ring-place : {X : Type 0} (cap : ℕ) (x : X) (xs : List X) → 0 < cap → keep_last (cap - 1) xs ++ x ∷ [] ≡ ring_push cap x xs
ring-place cap x xs some =
    sym (drop-append-le (length xs - (cap - 1)) xs (x ∷ []) (omega arith))
    ∙ ap (λ n. drop n (xs ++ x ∷ [])) (let e : length xs - (cap - 1) ≡ length (xs ++ x ∷ []) - cap = omega (arith, length_push xs x) in e)
