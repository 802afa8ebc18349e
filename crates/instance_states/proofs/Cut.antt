-- Where a text is cut at its first `%d`.
use Rattle.std.proofs.Common.{◌≡◌, ◌≢◌, ℕ, zero, suc, ◌<◌, ◌≤◌, Bool, true, false, cond, eqb, List, [], ◌∷◌, length, take, drop, refl, ◌∙◌, ap, arith}
use Rattle.std.proofs.lemmas.Bool.{and_parts, eqb-true}
use Rattle.instance_states.specs.Numbers.{is_hole, before_hole, after_hole}

no-text : (i a : ℕ) (rest : List ℕ) → drop i [] ≢ a ∷ rest
no-text zero a rest e = cc
no-text (suc i) a rest e = cc

-- two bytes that are a `%d`
hole-bytes : (a b : ℕ) (rest : List ℕ) → is_hole a b ≡ true → a ∷ b ∷ rest ≡ 37 ∷ 100 ∷ rest
hole-bytes a b rest is =
    let signs = and_parts (eqb a 37) (eqb b 100) is in
    let first : a ≡ 37 = eqb-true a 37 signs.0 in
    let second : b ≡ 100 = eqb-true b 100 signs.1 in
    ap (λ x. x ∷ b ∷ rest) first ∙ ap (λ x. 37 ∷ x ∷ rest) second

-- there is none: all of the text stands before it
pub uncut : (text : List ℕ) → ((i : ℕ) → i ≤ length text → (rest : List ℕ) → drop i text ≢ 37 ∷ 100 ∷ rest)
    → (before_hole text ≡ text) × (after_hole text ≡ [])
uncut [] lacks = (refl, refl)
uncut (a ∷ []) lacks = (refl, refl)
uncut (a ∷ b ∷ rest) lacks = at (is_hole a b) refl (uncut (b ∷ rest) (λ i within. lacks (suc i) (omega arith))) where
  at : (hole : Bool) → is_hole a b ≡ hole → (before_hole (b ∷ rest) ≡ b ∷ rest) × (after_hole (b ∷ rest) ≡ [])
      → (cond hole [] (a ∷ before_hole (b ∷ rest)) ≡ a ∷ b ∷ rest) × (cond hole rest (after_hole (b ∷ rest)) ≡ [])
  at true is more = absurd (lacks 0 (omega arith) rest (hole-bytes a b rest is))
  at false is more = (ap (λ zs. a ∷ zs) more.0, more.1)

-- the first one stands at a place
pub cut-at : (text : List ℕ) (i : ℕ) (back : List ℕ) → ((k : ℕ) → k < i → (rest : List ℕ) → drop k text ≢ 37 ∷ 100 ∷ rest)
    → drop i text ≡ 37 ∷ 100 ∷ back → (before_hole text ≡ take i text) × (after_hole text ≡ back)
cut-at [] i back lacks e = absurd (no-text i 37 (100 ∷ back) e)
cut-at (a ∷ []) zero back lacks e = cc
cut-at (a ∷ []) (suc i) back lacks e = absurd (no-text i 37 (100 ∷ back) e)
cut-at (a ∷ b ∷ rest) zero back lacks e =
    let first : a ≡ 37 = cc in
    let second : b ≡ 100 = cc in
    let more : rest ≡ back = cc in
    let hole : is_hole a b ≡ true = ap (λ x. is_hole x b) first ∙ ap (λ x. is_hole 37 x) second in
    (ap (λ t. cond t [] (a ∷ before_hole (b ∷ rest))) hole, ap (λ t. cond t rest (after_hole (b ∷ rest))) hole ∙ more)
cut-at (a ∷ b ∷ rest) (suc i) back lacks e =
    at (is_hole a b) refl (cut-at (b ∷ rest) i back (λ k below. lacks (suc k) (omega arith)) e) where
      at : (hole : Bool) → is_hole a b ≡ hole → (before_hole (b ∷ rest) ≡ take i (b ∷ rest)) × (after_hole (b ∷ rest) ≡ back)
          → (cond hole [] (a ∷ before_hole (b ∷ rest)) ≡ a ∷ take i (b ∷ rest)) × (cond hole rest (after_hole (b ∷ rest)) ≡ back)
      at true is more = absurd (lacks 0 (omega arith) rest (hole-bytes a b rest is))
      at false is more = (ap (λ zs. a ∷ zs) more.0, more.1)
