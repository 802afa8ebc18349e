-- A number that may be more than a bound, and a size that stops at the greatest number of eight bytes.
use Rattle.std.proofs.Common.{◌≡◌, ℕ, ◌≤◌, ◌<◌, nat_lt, cond, Some, None, sym, ap, ◌∙◌, arith}
use Rattle.std.proofs.lemmas.Bool.{le-ltb, lt-ltb}
use Rattle.row_codec.specs.Sizes.{capped}
use Rattle.row_codec.proofs.Sums.{capped-le, capped-lt}

-- it is not more: nothing is told
pub not-more : {R : Type 0} (bound n : ℕ) (r : R) → n ≤ bound → cond (nat_lt bound n) (Some r) None ≡ None
not-more bound n r h = ap (λ b. cond b (Some r) None) (le-ltb bound n h)

-- it is more: that is told
pub is-more : {R : Type 0} (bound n : ℕ) (r told : R) → bound < n → told ≡ r → cond (nat_lt bound n) (Some r) None ≡ Some told
is-more bound n r told h e = ap (λ b. cond b (Some r) None) (lt-ltb bound n h) ∙ ap Some (sym e)

-- a size of a row that is small
pub small-size : (size n : ℕ) → size ≡ capped n → size ≤ 65536 → n ≤ 65536
small-size size n is h = capped-le n (omega arith)

-- a size of a row that is large
pub large-size : (size n : ℕ) → size ≡ capped n → 65536 < size → 65536 < n
large-size size n is h = capped-lt n (omega arith)
