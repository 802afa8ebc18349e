-- Which rows look-ups find after a row was put or removed.
use Rattle.std.proofs.Common.{◌≡◌, ◌≢◌, ℕ, Bool, true, false, Option, Some, None, List, ◌⊎◌, refl, sym, ap, subst, ◌∙◌, inl, inr, true≢false}
use Rattle.std.specs.List.{find}
use Rattle.std.specs.Option.{is_some}
use Rattle.plain_lists.specs.Members.{Mem, Each, Distinct}
use Rattle.plain_lists.specs.Edits.{dropped, replaced, Replaces}
use Rattle.plain_lists.specs.Edits.Replaces.{new, instead}
use Rattle.plain_lists.proofs.PutsLemmas.{Mem-Puts, Mem-puts, Mem-unputs, Distinct-unputs}
use Rattle.plain_lists.proofs.Searches.{any-mem, any-find, find-some, find-none, none-any}
use Rattle.plain_lists.proofs.EditLemmas.{replaced-is, find-replaced, dropped-Puts, dropped-none}
use Rattle.machine_laws.proofs.ExpansionsApart.{fails-by, find-dropped_each}
use Rattle.machine_laws.proofs.Found.{there-is}

-- ---- one list of rows that are found by their names

-- p and q are the tests of two lists of names
pub record Tells {X : Type 0} (names : X → List (List ℕ)) (p : X → Bool) (k : List (List ℕ)) : Type 0 where
  pub is : (y : X) → p y ≡ true → names y ≡ k
  pub passes : (y : X) → names y ≡ k → p y ≡ true

module _ {X : Type 0} (names : X → List (List ℕ)) where
  -- one that has other names fails
  pub fails-other : {p : X → Bool} {k : List (List ℕ)} (y : X) → Tells names p k → names y ≢ k → p y ≡ false
  fails-other {p} y tells other = fails-by (p y) (λ passes. other (tells.is y passes))

  -- one that is there stays there where one is put
  pub still-there : {p q : X → Bool} {k : List (List ℕ)} (before : X → Bool) (x : X) (xs : List X)
      → Tells names p (names x) → Tells names q k
      → is_some (find q xs) ≡ true → is_some (find q (replaced p before x xs)) ≡ true
  still-there {p} {q} {k} before x xs put named there =
      let was = there-is (find q xs) there in
      let found = find-some q xs was.0 was.1 in
      let kept = keeps (replaced p before x xs) was.0 found.0 found.1 (replaced-is p before x xs) in
      ap is_some (any-find q (replaced p before x xs) (any-mem q kept.0 (replaced p before x xs) kept.1.0 kept.1.1)).1
    where
      keeps : (ys : List X) (y : X) → Mem y xs → q y ≡ true → Replaces p x xs ys → (z : X) × (Mem z ys × (q z ≡ true))
      keeps ys y m passes (new fresh put_in) = (y, (Mem-puts y put_in m, passes))
      keeps ys y m passes (instead old base is out back) =
          elim (Mem-unputs y out m) [
            | inl e ↦ (x, (Mem-Puts back, named.passes x (sym (put.is old is) ∙ sym (ap names e) ∙ named.is y passes)))
            | inr n ↦ (y, (Mem-puts y back n, passes))
          ]

  -- others are found as before where one is put
  pub other-found : {p q : X → Bool} {k : List (List ℕ)} (before : X → Bool) (x : X) (xs : List X)
      → Tells names p (names x) → Tells names q k
      → names x ≢ k → find q (replaced p before x xs) ≡ find q xs
  other-found {p} {q} before x xs put named other = find-replaced p before q x xs
      (fails-other x named other)
      (λ y hit. fails-other y named (λ e. other (sym (put.is y hit) ∙ e)))

  -- others are found as before where the row of a name is dropped
  pub other-undropped : {d q : X → Bool} {k kd : List (List ℕ)} (xs : List X)
      → Each (λ y. d y ≡ true → names y ≡ kd) xs → Tells names q k
      → kd ≢ k → find q (dropped d xs) ≡ find q xs
  other-undropped {d} {q} xs drops named other = find-dropped_each d q xs
      (record { at = λ y m hit. fails-other y named (λ e. other (sym (drops.at y m hit) ∙ e)) })

  -- what is left has not the name of the row that was dropped
  pub left-other : {d : X → Bool} {kd : List (List ℕ)} (xs : List X) → Distinct names xs
      → Each (λ y. d y ≡ true → names y ≡ kd) xs
      → ((y : X) → names y ≡ kd → d y ≡ true) → (y : X) → Mem y (dropped d xs) → names y ≢ kd
  left-other {d} {kd} xs distinct drops passes y m same = at (find d xs) refl where
    at : (o : Option X) → find d xs ≡ o → ⊥
    at None is =
        let all = find-none d xs is in
        let there : Mem y xs = subst (Mem y) (dropped-none d xs (none-any d xs all)) m in
        true≢false (sym (passes y same) ∙ all.at y there)
    at (Some x) is =
        let out = dropped-Puts d x xs is in
        let found = find-some d xs x is in
        (Distinct-unputs names out distinct).0.at y m (same ∙ sym (drops.at x found.0 found.1))

  -- what is there after a put is the row itself, or another that was there
  pub after-put : {p : X → Bool} (before : X → Bool) (x : X) (xs : List X) → Distinct names xs
      → Tells names p (names x)
      → (y : X) → Mem y (replaced p before x xs) → (y ≡ x) ⊎ (Mem y xs × (names y ≢ names x))
  after-put {p} before x xs distinct put y m = by (replaced p before x xs) m (replaced-is p before x xs) where
    by : (ys : List X) → Mem y ys → Replaces p x xs ys → (y ≡ x) ⊎ (Mem y xs × (names y ≢ names x))
    by ys m (new fresh put_in) = elim (Mem-unputs y put_in m) [
      | inl e ↦ inl e
      | inr n ↦ inr (n, λ same. true≢false (sym (put.passes y same) ∙ fresh.at y n))
    ]
    by ys m (instead old base is out back) = elim (Mem-unputs y back m) [
      | inl e ↦ inl e
      | inr n ↦ inr (Mem-puts y out n, λ same. (Distinct-unputs names out distinct).0.at y n (same ∙ sym (put.is old is)))
    ]
