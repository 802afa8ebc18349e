-- What stands before a last byte, and what stands behind a beginning.
use Rattle.std.proofs.Common.{◌≡◌, ◌≢◌, ℕ, ◌+◌, ◌-◌, ◌<◌, ◌&&◌, Bool, true, false, List, [], ◌∷◌, ◌++◌, None, length, take, drop, length-append, nat_eq, nat_lt, refl, sym, ap, ◌∙◌, ◌==◌, arith}
use Rattle.std.specs.Prelude.{slice_index}
use Rattle.std.specs.List.{starts_with}
use Rattle.std.specs.Str.Pattern.{FindsTextPrefix, StripsPrefix}
use Rattle.std.proofs.Math.Seq.{take-append_seam, take-length}
use Rattle.std.proofs.lemmas.Bool.Decides.{nat_tests}
use Rattle.std.proofs.lemmas.List.{take_more}
use Rattle.std.proofs.lemmas.Str.Pattern.{starts_text}
use Rattle.config_lists.proofs.Keys.{bytes_eq-itself}
use Rattle.std.specs.Str.{bytes_eq}
use Rattle.option_tables.specs.Tables.{front_of, has_sign}

-- the byte behind a text
behind : (front : List ℕ) (x : ℕ) → slice_index (front ++ x ∷ []) (length front) ≡ x
behind [] x = refl
behind (y ∷ front) x = behind front x

one-more : (front : List ℕ) (x : ℕ) → length (front ++ x ∷ []) - 1 ≡ length front
one-more front x = omega (arith, length-append front (x ∷ []))

-- a text with the sign behind it
module _ (front : List ℕ) where
  pub signed : has_sign (front ++ 35 ∷ []) ≡ true
  signed =
      let some : nat_lt 0 (length (front ++ 35 ∷ [])) ≡ true = grind (arith, nat_tests, length-append front (35 ∷ [])) in
      ap (λ b. b && slice_index (front ++ 35 ∷ []) (length (front ++ 35 ∷ []) - 1) == 35) some
      ∙ ap (λ n. slice_index (front ++ 35 ∷ []) n == 35) (one-more front 35) ∙ ap (λ x. x == 35) (behind front 35)

  pub front-signed : front_of (front ++ 35 ∷ []) ≡ front
  front-signed = ap (λ n. take n (front ++ 35 ∷ [])) (one-more front 35) ∙ take-append_seam front (35 ∷ [])

-- a text without it
pub unsigned : (s : List ℕ) → ((front : List ℕ) → s ≢ front ++ 35 ∷ []) → has_sign s ≡ false
unsigned s none = at (nat_lt 0 (length s)) (slice_index s (length s - 1) == 35) refl refl where
  at : (b c : Bool) → nat_lt 0 (length s) ≡ b → (slice_index s (length s - 1) == 35) ≡ c → (b && c) ≡ false
  at false c some is = refl
  at true false some is = refl
  at true true some is =
      let within : length s - 1 < length s = grind (arith, nat_tests, some) in
      let whole : length s - 1 + 1 ≡ length s = omega (arith, within) in
      let last : slice_index s (length s - 1) ≡ 35 = grind (arith, nat_tests, is) in
      absurd (none (take (length s - 1) s)
      (sym (take-length s) ∙ ap (λ n. take n s) (sym whole) ∙ take_more s (length s - 1) 0 within ∙ ap (λ x. take (length s - 1) s ++ x ∷ []) last))

-- ---- a beginning

pub begun : (p s rest : List ℕ) → StripsPrefix (FindsTextPrefix p) s rest → (starts_with nat_eq s p ≡ true) × (drop (length p) s ≡ rest)
begun p s rest h = (
  ap (λ t. starts_with nat_eq t p) h.1.1 ∙ ap (bytes_eq p) (take-append_seam p (drop h.0 s)) ∙ bytes_eq-itself p,
  ap (λ n. drop n s) (sym h.1.0) ∙ sym h.2,
)

pub unbegun : (p s : List ℕ) → FindsTextPrefix p s None → starts_with nat_eq s p ≡ false
unbegun p s lacks = sym (starts_text false p s lacks)
