use Rattle.std.proofs.Common.{◌≡◌, ◌≢◌, ℕ, ◌<◌, ◌≤◌, cond, nat_lt, eqb, List, [], ◌∷◌, ◌++◌, length, refl, sym, ◌∙◌, ap, inl, inr, arith}
use Rattle.std.proofs.lemmas.Bool.{lt-ltb, le-ltb, cases_lt, cases_order, eq-eqb, ne_eqb}
use Rattle.plain_lists.specs.Members.{Each}
use Rattle.plain_lists.specs.Puts.{Puts}
use Rattle.plain_lists.specs.Puts.Puts.{here, later}
use Rattle.plain_lists.specs.Edits.{inserted, dropped}
use Rattle.plain_lists.proofs.Elements.{Each-head, Each-tail}
use Rattle.plain_lists.proofs.PutsLemmas.{Each-puts, length-Puts}
use Rattle.plain_lists.proofs.EditLemmas.{inserted-Puts}
use Rattle.operations.specs.Inside.{rising}

-- a number at its place
abbrev pub ranked : ℕ → List ℕ → List ℕ
ranked n ns = inserted (λ m. nat_lt n m) n ns

pub ranked-lt : (n m : ℕ) (ms : List ℕ) → n < m → ranked n (m ∷ ms) ≡ n ∷ m ∷ ms
ranked-lt n m ms h = ap (λ b. cond b (n ∷ m ∷ ms) (m ∷ ranked n ms)) (lt-ltb n m h)

pub ranked-ge : (n m : ℕ) (ms : List ℕ) → m ≤ n → ranked n (m ∷ ms) ≡ m ∷ ranked n ms
ranked-ge n m ms h = ap (λ b. cond b (n ∷ m ∷ ms) (m ∷ ranked n ms)) (le-ltb n m h)

-- the order in which two numbers are put in does not matter
ranked-below : (a b : ℕ) (ns : List ℕ) → a < b → ranked a (ranked b ns) ≡ ranked b (ranked a ns)
ranked-below a b [] h = ranked-lt a b [] h ∙ sym (ranked-ge b a [] (omega arith))
ranked-below a b (n ∷ ns) h = elim (cases_lt b n) [ inl bn ↦ first_three bn | inr nb ↦ elim (cases_lt a n) [ inl an ↦ between an nb | inr na ↦ after na (ranked-below a b ns h) ] ] where
  first_three : b < n → ranked a (ranked b (n ∷ ns)) ≡ ranked b (ranked a (n ∷ ns))
  first_three bn =
      ap (ranked a) (ranked-lt b n ns bn) ∙ ranked-lt a b (n ∷ ns) h
      ∙ sym (ap (ranked b) (ranked-lt a n ns (omega arith)) ∙ ranked-ge b a (n ∷ ns) (omega arith) ∙ ap (λ ms. a ∷ ms) (ranked-lt b n ns bn))

  between : a < n → n ≤ b → ranked a (ranked b (n ∷ ns)) ≡ ranked b (ranked a (n ∷ ns))
  between an nb =
      ap (ranked a) (ranked-ge b n ns nb) ∙ ranked-lt a n (ranked b ns) an
      ∙ sym (ap (ranked b) (ranked-lt a n ns an) ∙ ranked-ge b a (n ∷ ns) (omega arith) ∙ ap (λ ms. a ∷ ms) (ranked-ge b n ns nb))

  after : n ≤ a → ranked a (ranked b ns) ≡ ranked b (ranked a ns) → ranked a (ranked b (n ∷ ns)) ≡ ranked b (ranked a (n ∷ ns))
  after na same =
      ap (ranked a) (ranked-ge b n ns (omega arith)) ∙ ranked-ge a n (ranked b ns) na
      ∙ ap (λ ms. n ∷ ms) same
      ∙ sym (ap (ranked b) (ranked-ge a n ns na) ∙ ranked-ge b n (ranked a ns) (omega arith))

pub ranked-both : (a b : ℕ) (ns : List ℕ) → ranked a (ranked b ns) ≡ ranked b (ranked a ns)
ranked-both a b ns = elim (cases_order a b) [
  | inl same ↦ ap (λ n. ranked a (ranked n ns)) (sym same) ∙ ap (λ n. ranked n (ranked a ns)) same
  | inr apart ↦ elim apart [ inl h ↦ ranked-below a b ns h | inr h ↦ sym (ranked-below b a ns h) ]
]

-- what is put in stands at its place among the others
pub rising-Puts : {n : ℕ} {ns ms : List ℕ} → Puts n ns ms → rising ms ≡ ranked n (rising ns)
rising-Puts here = refl
rising-Puts {n} (later {other = m} {rest = ns} p) = ap (ranked m) (rising-Puts p) ∙ ranked-both m n (rising ns)

pub length-rising : (ns : List ℕ) → length (rising ns) ≡ length ns
length-rising [] = refl
length-rising (n ∷ ns) = omega (arith, length-Puts (inserted-Puts (λ m. nat_lt n m) n (rising ns)), length-rising ns)

pub Each-rising : (P : ℕ → Type 0) (ns : List ℕ) → Each P ns → Each P (rising ns)
Each-rising P [] e = e
Each-rising P (n ∷ ns) e = Each-puts P (inserted-Puts (λ m. nat_lt n m) n (rising ns)) (Each-head e) (Each-rising P ns (Each-tail e))

-- the greatest stands at the end
pub ranked-last : (n : ℕ) (ns : List ℕ) → Each (λ m. m < n) ns → ranked n ns ≡ ns ++ n ∷ []
ranked-last n [] e = refl
ranked-last n (m ∷ ms) e = let h : m < n = Each-head e in ranked-ge n m ms (omega arith) ∙ ap (λ ks. m ∷ ks) (ranked-last n ms (Each-tail e))

-- a number that was put in among others goes out again
pub dropped-ranked : (n : ℕ) (ns : List ℕ) → Each (λ m. m ≢ n) ns → dropped (λ m. eqb m n) (ranked n ns) ≡ ns
dropped-ranked n [] e = ap (λ b. cond b [] (n ∷ [])) (eq-eqb n n refl)
dropped-ranked n (m ∷ ms) e = elim (cases_lt n m) [
  | inl h ↦ ap (dropped (λ k. eqb k n)) (ranked-lt n m ms h) ∙ ap (λ b. cond b (m ∷ ms) (n ∷ dropped (λ k. eqb k n) (m ∷ ms))) (eq-eqb n n refl)
  | inr h ↦ ap (dropped (λ k. eqb k n)) (ranked-ge n m ms h)
      ∙ ap (λ b. cond b (ranked n ms) (m ∷ dropped (λ k. eqb k n) (ranked n ms))) (ne_eqb m n (Each-head e))
      ∙ ap (λ ks. m ∷ ks) (dropped-ranked n ms (Each-tail e))
]
