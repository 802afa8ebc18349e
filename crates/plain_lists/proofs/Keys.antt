use Rattle.std.proofs.Common.{◌≡◌, ◌≢◌, ℕ, zero, suc, List, [], ◌∷◌, ◌++◌, drop, sym, ◌∙◌, ap, inl, inr}
use Rattle.plain_lists.specs.Members.{Mem, Each, Distinct}
use Rattle.plain_lists.proofs.Elements.{Each-head, Each-tail, Each-none, Each-cons, Each-append, Each-left, Each-right}

-- elements of one key are one element
pub Distinct-same : {X K : Type 0} (key : X → K) (xs : List X) (x y : X)
    → Distinct key xs → Mem x xs → Mem y xs → key x ≡ key y → x ≡ y
Distinct-same key [] x y d m n e = absurd m
Distinct-same key (z ∷ xs) x y d (inl a) (inl b) e = a ∙ sym b
Distinct-same key (z ∷ xs) x y d (inl a) (inr n) e = absurd (d.0.at y n (sym e ∙ ap key a))
Distinct-same key (z ∷ xs) x y d (inr m) (inl b) e = absurd (d.0.at x m (e ∙ ap key b))
Distinct-same key (z ∷ xs) x y d (inr m) (inr n) e = Distinct-same key xs x y d.1 m n e

-- one more element, of a key that is not there
pub Distinct-push : {X K : Type 0} (key : X → K) (xs : List X) (x : X)
    → Distinct key xs → Each (λ y. key y ≢ key x) xs → Distinct key (xs ++ x ∷ [])
Distinct-push key [] x d e = (Each-none, tt)
Distinct-push key (y ∷ xs) x d e = (
  Each-append d.0 (Each-cons (λ z. key z ≢ key y) (λ p. Each-head e (sym p)) Each-none),
  Distinct-push key xs x d.1 (Each-tail e),
)

pub Distinct-left : {X K : Type 0} (key : X → K) (xs ys : List X) → Distinct key (xs ++ ys) → Distinct key xs
Distinct-left key [] ys d = tt
Distinct-left key (x ∷ xs) ys d = (Each-left ys d.0, Distinct-left key xs ys d.1)

pub Distinct-right : {X K : Type 0} (key : X → K) (xs ys : List X) → Distinct key (xs ++ ys) → Distinct key ys
Distinct-right key [] ys d = d
Distinct-right key (x ∷ xs) ys d = Distinct-right key xs ys d.1

-- two lists of distinct keys that share none
pub Distinct-append : {X K : Type 0} (key : X → K) (xs ys : List X)
    → Distinct key xs → Distinct key ys → Each (λ x. Each (λ y. key y ≢ key x) ys) xs → Distinct key (xs ++ ys)
Distinct-append key [] ys d e apart = e
Distinct-append key (x ∷ xs) ys d e apart =
    (Each-append d.0 (Each-head apart), Distinct-append key xs ys d.1 e (Each-tail apart))

-- the lists of a joined one share no key
pub Distinct-apart : {X K : Type 0} (key : X → K) (xs ys : List X)
    → Distinct key (xs ++ ys) → Each (λ x. Each (λ y. key y ≢ key x) ys) xs
Distinct-apart key [] ys d = Each-none
Distinct-apart key (x ∷ xs) ys d =
    Each-cons (λ z. Each (λ y. key y ≢ key z) ys) (Each-right xs d.0) (Distinct-apart key xs ys d.1)

pub Distinct-drop : {X K : Type 0} (key : X → K) (n : ℕ) (xs : List X) → Distinct key xs → Distinct key (drop n xs)
Distinct-drop key zero xs d = d
Distinct-drop key (suc n) [] d = d
Distinct-drop key (suc n) (x ∷ xs) d = Distinct-drop key n xs d.1
