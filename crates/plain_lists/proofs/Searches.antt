use Rattle.std.proofs.Common.{◌≡◌, Bool, true, false, cond, ◌||◌, Some, None, List, [], ◌∷◌, refl, sym, ◌∙◌, ap, inl, inr}
use Rattle.std.specs.List.{list_any, find}
use Rattle.plain_lists.specs.Members.{Mem, Each, Distinct}
use Rattle.plain_lists.specs.Puts.{Puts}
use Rattle.plain_lists.specs.Puts.Puts.{here, later}
use Rattle.plain_lists.proofs.Elements.{Each-none, Each-cons, Each-head, Each-tail}
use Rattle.plain_lists.proofs.Keys.{Distinct-same}

-- whether an element passes a test

pub any-mem : {X : Type 0} (p : X → Bool) (x : X) (xs : List X) → Mem x xs → p x ≡ true → list_any p xs ≡ true
any-mem p x [] m e = absurd m
any-mem p x (y ∷ ys) (inl q) e = ap (λ b. b || list_any p ys) (sym (ap p q) ∙ e)
any-mem p x (y ∷ ys) (inr m) e = at (p y) (any-mem p x ys m e) where
  at : (b : Bool) → list_any p ys ≡ true → (b || list_any p ys) ≡ true
  at true there = refl
  at false there = there

pub any-some : {X : Type 0} (p : X → Bool) (xs : List X) → list_any p xs ≡ true → (x : X) × (Mem x xs × (p x ≡ true))
any-some p [] e = cc
any-some {X} p (y ∷ ys) e = at (p y) refl e (any-some p ys) where
  at : (b : Bool) → p y ≡ b → (b || list_any p ys) ≡ true
      → (list_any p ys ≡ true → (x : X) × (Mem x ys × (p x ≡ true))) → (x : X) × (Mem x (y ∷ ys) × (p x ≡ true))
  at true is h more = (y, (inl refl, is))
  at false is h more = let found = more h in (found.0, (inr found.1.0, found.1.1))

pub any-none : {X : Type 0} (p : X → Bool) (xs : List X) → list_any p xs ≡ false → Each (λ x. p x ≡ false) xs
any-none p [] e = Each-none
any-none p (y ∷ ys) e = at (p y) refl e (any-none p ys) where
  at : (b : Bool) → p y ≡ b → (b || list_any p ys) ≡ false
      → (list_any p ys ≡ false → Each (λ x. p x ≡ false) ys) → Each (λ x. p x ≡ false) (y ∷ ys)
  at true is h more = cc
  at false is h more = Each-cons (λ x. p x ≡ false) is (more h)

pub none-any : {X : Type 0} (p : X → Bool) (xs : List X) → Each (λ x. p x ≡ false) xs → list_any p xs ≡ false
none-any p [] e = refl
none-any p (y ∷ ys) e = ap (λ b. b || list_any p ys) (Each-head e) ∙ none-any p ys (Each-tail e)

-- the first element that passes

pub find-some : {X : Type 0} (p : X → Bool) (xs : List X) (x : X) → find p xs ≡ Some x → Mem x xs × (p x ≡ true)
find-some p [] x e = cc
find-some {X} p (y ∷ ys) x e = at (p y) refl e (find-some p ys x) where
  at : (b : Bool) → p y ≡ b → cond b (Some y) (find p ys) ≡ Some x
      → (find p ys ≡ Some x → Mem x ys × (p x ≡ true)) → Mem x (y ∷ ys) × (p x ≡ true)
  at true is h more = let same : y ≡ x = cc in (inl (sym same), ap p (sym same) ∙ is)
  at false is h more = let found = more h in (inr found.0, found.1)

pub find-none : {X : Type 0} (p : X → Bool) (xs : List X) → find p xs ≡ None → Each (λ x. p x ≡ false) xs
find-none p [] e = Each-none
find-none p (y ∷ ys) e = at (p y) refl e (find-none p ys) where
  at : (b : Bool) → p y ≡ b → cond b (Some y) (find p ys) ≡ None
      → (find p ys ≡ None → Each (λ x. p x ≡ false) ys) → Each (λ x. p x ≡ false) (y ∷ ys)
  at true is h more = cc
  at false is h more = Each-cons (λ x. p x ≡ false) is (more h)

pub none-find : {X : Type 0} (p : X → Bool) (xs : List X) → Each (λ x. p x ≡ false) xs → find p xs ≡ None
none-find p [] e = refl
none-find p (y ∷ ys) e = ap (λ b. cond b (Some y) (find p ys)) (Each-head e) ∙ none-find p ys (Each-tail e)

pub any-find : {X : Type 0} (p : X → Bool) (xs : List X) → list_any p xs ≡ true → (x : X) × (find p xs ≡ Some x)
any-find p [] e = cc
any-find {X} p (y ∷ ys) e = at (p y) refl e (any-find p ys) where
  at : (b : Bool) → p y ≡ b → (b || list_any p ys) ≡ true
      → (list_any p ys ≡ true → (x : X) × (find p ys ≡ Some x)) → (x : X) × (cond b (Some y) (find p ys) ≡ Some x)
  at true is h more = (y, refl)
  at false is h more = more h

pub find-any : {X : Type 0} (p : X → Bool) (xs : List X) (x : X) → find p xs ≡ Some x → list_any p xs ≡ true
find-any p xs x e = let found = find-some p xs x e in any-mem p x xs found.0 found.1

-- where the test tells a key, and keys are distinct, the one that passes is found
pub find-mem : {X K : Type 0} (key : X → K) (p : X → Bool) (x : X) (xs : List X) → Distinct key xs
    → ((y : X) → p y ≡ true → key y ≡ key x) → Mem x xs → p x ≡ true → find p xs ≡ Some x
find-mem key p x xs d tells m e =
    let found = any-find p xs (any-mem p x xs m e) in
    let there = find-some p xs found.0 found.1 in
    found.1 ∙ ap Some (Distinct-same key xs found.0 x d there.0 m (tells found.0 there.1))

-- one that does not pass is not found, wherever it is put
pub find-puts : {X : Type 0} (p : X → Bool) {x : X} {xs ys : List X} → Puts x xs ys → p x ≡ false → find p ys ≡ find p xs
find-puts p {x} (here {rest = xs}) e = ap (λ b. cond b (Some x) (find p xs)) e
find-puts p (later {other = y} {rest = xs} {whole = ys} q) e = ap (λ o. cond (p y) (Some y) o) (find-puts p q e)

-- one that alone passes is found, wherever it is put
pub find-Puts : {X : Type 0} (p : X → Bool) {x : X} {xs ys : List X}
    → Puts x xs ys → p x ≡ true → Each (λ y. p y ≡ false) xs → find p ys ≡ Some x
find-Puts p {x} (here {rest = xs}) e others = ap (λ b. cond b (Some x) (find p xs)) e
find-Puts p (later {other = y} {rest = xs} {whole = ys} q) e others =
    ap (λ b. cond b (Some y) (find p ys)) (Each-head others) ∙ find-Puts p q e (Each-tail others)
