-- Two lists that rise by their names and have the same elements are the same list.
use Rattle.std.proofs.Common.{◌≡◌, ℕ, true, List, [], ◌∷◌, refl, sym, ap, ◌∙◌, inl, inr}
use Rattle.plain_lists.specs.Members.{Mem, Each}
use Rattle.plain_lists.proofs.Elements.{Each-none, Each-cons, Each-head}
use Rattle.row_machine.specs.machine.Rows.{texts_before}
use Rattle.row_machine.specs.facts.Whole.{Rise}
use Rattle.machine_laws.proofs.NamesRise.{before_trans, Rise-Distinct}

module _ {X : Type 0} (names : X → List (List ℕ)) where
  abbrev before : X → X → Type 0
  before x y = texts_before (names x) (names y) ≡ true

  not_before_itself : (x : X) → before x x → ⊥
  not_before_itself x h =
      let up : Rise names (x ∷ x ∷ []) = (Each-cons (before x) h Each-none, (Each-none, tt)) in
      (Rise-Distinct names (x ∷ x ∷ []) up).0.at x (inl refl) refl

  not_before_same : (x y : X) → before x y → y ≡ x → ⊥
  not_before_same x y h is = not_before_itself x (ap (λ z. texts_before (names x) (names z)) (sym is) ∙ h)

  -- each first one is in the other list
  same-first : (x y : X) (xs ys : List X) → Rise names (x ∷ xs) → Rise names (y ∷ ys) → Mem x (y ∷ ys) → Mem y (x ∷ xs) → x ≡ y
  same-first x y xs ys up other (inl e) n = e
  same-first x y xs ys up other (inr m) (inl e) = sym e
  same-first x y xs ys up other (inr m) (inr n) =
      absurd (not_before_itself x (before_trans (names x) (names y) (names x) (up.0.at y n) (other.0.at x m)))

  -- the rest of the one is in the rest of the other
  in-rest : (x y : X) (xs ys : List X) → Rise names (x ∷ xs) → x ≡ y → Each (λ z. Mem z (y ∷ ys)) (x ∷ xs) → Each (λ z. Mem z ys) xs
  in-rest x y xs ys up same all = record {
    at = λ z m. elim (all.at z (inr m)) [ inl is ↦ absurd (not_before_same x z (up.0.at z m) (is ∙ sym same)) | inr n ↦ n ];
  }

  pub rise-same : (xs ys : List X) → Rise names xs → Rise names ys → Each (λ x. Mem x ys) xs → Each (λ y. Mem y xs) ys → xs ≡ ys
  rise-same [] [] up other there back = refl
  rise-same [] (y ∷ ys) up other there back = absurd (Each-head back)
  rise-same (x ∷ xs) [] up other there back = absurd (Each-head there)
  rise-same (x ∷ xs) (y ∷ ys) up other there back =
      let first = same-first x y xs ys up other (Each-head there) (Each-head back) in
      let rest = rise-same xs ys up.1 other.1 (in-rest x y xs ys up first there) (in-rest y x ys xs other (sym first) back) in
      λ i. first i ∷ rest i
