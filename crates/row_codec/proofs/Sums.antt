-- Sums of bytes that stop at the greatest number that eight bytes hold.
use Rattle.std.proofs.Common.{◌≡◌, ℕ, ◌+◌, ◌-◌, ◌^◌, ◌≤◌, ◌<◌, min, List, [], ◌∷◌, ◌++◌, length, take, sym, ap, ◌∙◌, arith, length-append}
use Rattle.std.specs.List.{flat_map}
use Rattle.std.proofs.lemmas.Grind.{flat_map-append}
use Rattle.std.proofs.lemmas.List.{append-nil, take_all}
use Rattle.std.proofs.lemmas.List.Concat.{flat_map-cons}
use Rattle.row_codec.specs.Spelling.{list_bytes}
use Rattle.row_codec.proofs.Lengths.{list-length}
use Rattle.row_codec.specs.Sizes.{capped}

min-plus : (a b m : ℕ) → m - min b m < min a m → m ≡ min (a + b) m
min-plus a b m h = omega arith

min-sum : (a b m : ℕ) → min a m ≤ m - min b m → min a m + min b m ≡ min (a + b) m
min-sum a b m h = omega arith

pub capped-over : (a b : ℕ) → 18446744073709551615 - capped b < capped a → 18446744073709551615 ≡ capped (a + b)
unfolding capped
capped-over a b h = min-plus a b 18446744073709551615 h

pub capped-sum : (a b : ℕ) → capped a ≤ 18446744073709551615 - capped b → capped a + capped b ≡ capped (a + b)
unfolding capped
capped-sum a b h = min-sum a b 18446744073709551615 h

min-small : (n m : ℕ) → n ≤ m → n ≡ min n m
min-small n m h = omega arith

pub capped-fits : (n : ℕ) → n < 2 ^ 64 → n ≡ capped n
unfolding capped
capped-fits n h = min-small n 18446744073709551615 (omega arith)

-- the bytes of one item more
pub bytes-more : {X : Type 0} (f : X → List ℕ) (xs : List X) (i : ℕ) (x : X) → take (i + 1) xs ≡ take i xs ++ x ∷ []
    → length (flat_map f (take (i + 1) xs)) ≡ length (flat_map f (take i xs)) + length (f x)
bytes-more f xs i x more =
    ap (λ ys. length (flat_map f ys)) more
    ∙ ap length (flat_map-append f (take i xs) (x ∷ []) ∙ ap (λ ys. flat_map f (take i xs) ++ ys) (flat_map-cons f x [] ∙ append-nil (f x)))
    ∙ length-append (flat_map f (take i xs)) (f x)

-- the sum so far, with one item more
pub sum-more : {X : Type 0} (f : X → List ℕ) (xs : List X) (i : ℕ) (x : X) (sum one new : ℕ)
    → take (i + 1) xs ≡ take i xs ++ x ∷ []
    → sum ≡ capped (4 + length (flat_map f (take i xs)))
    → one ≡ capped (length (f x))
    → ((m n : ℕ) → sum ≡ capped m → one ≡ capped n → new ≡ capped (m + n))
    → new ≡ capped (4 + length (flat_map f (take (i + 1) xs)))
sum-more f xs i x sum one new more before is plus =
    plus (4 + length (flat_map f (take i xs))) (length (f x)) before is
    ∙ ap capped (let e : 4 + length (flat_map f (take i xs)) + length (f x) ≡ 4 + length (flat_map f (take (i + 1) xs)) = omega (arith, bytes-more f xs i x more) in e)

pub sum-all : {X : Type 0} (f : X → List ℕ) (xs : List X) (i : ℕ) (sum : ℕ) → length xs ≤ i
    → sum ≡ capped (4 + length (flat_map f (take i xs))) → sum ≡ capped (length (list_bytes f xs))
sum-all f xs i sum past is = is ∙ ap (λ ys. capped (4 + length (flat_map f ys))) (take_all i xs past) ∙ ap capped (sym (list-length f xs))

min-le : (n m k : ℕ) → min n m ≤ k → k < m → n ≤ k
min-le n m k h less = omega arith

min-lt : (n m k : ℕ) → k < min n m → k < n
min-lt n m k h = omega arith

pub capped-le : (n : ℕ) → capped n ≤ 65536 → n ≤ 65536
unfolding capped
capped-le n h = min-le n 18446744073709551615 65536 h (omega arith)

pub capped-lt : (n : ℕ) → 65536 < capped n → 65536 < n
unfolding capped
capped-lt n h = min-lt n 18446744073709551615 65536 h
