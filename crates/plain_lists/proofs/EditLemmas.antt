use Rattle.std.proofs.Common.{◌≡◌, ◌≢◌, suc, Bool, true, false, cond, ◌||◌, Option, Some, None, List, [], ◌∷◌, map, length, refl, sym, ◌∙◌, ap, subst, inl, inr}
use Rattle.std.specs.List.{list_any, find, filter_map, cons_option}
use Rattle.plain_lists.specs.Members.{Mem, Each, Distinct}
use Rattle.plain_lists.specs.Puts.{Puts}
use Rattle.plain_lists.specs.Puts.Puts.{here, later}
use Rattle.plain_lists.specs.Edits.{changed_first, dropped, inserted, replaced, Replaces}
use Rattle.plain_lists.specs.Edits.Replaces.{new, instead}
use Rattle.plain_lists.proofs.Elements.{Each-cons, Each-head, Each-tail, Each-map}
use Rattle.plain_lists.proofs.PutsLemmas.{Each-puts, Each-unputs, Distinct-puts, Distinct-unputs}
use Rattle.plain_lists.proofs.Searches.{any-none, any-find, none-find, find-some, find-puts, find-Puts}
use Rattle.plain_lists.proofs.Readings.{read-same, read-Puts}

-- one element changed

pub changed-none : {X : Type 0} (p : X → Bool) (f : X → X) (xs : List X) → list_any p xs ≡ false → changed_first p f xs ≡ xs
changed-none p f [] e = refl
changed-none p f (y ∷ ys) e = at (p y) refl e (changed-none p f ys) where
  at : (b : Bool) → p y ≡ b → (b || list_any p ys) ≡ false → (list_any p ys ≡ false → changed_first p f ys ≡ ys)
      → cond b (f y ∷ ys) (y ∷ changed_first p f ys) ≡ y ∷ ys
  at true is h more = cc
  at false is h more = ap (λ zs. y ∷ zs) (more h)

-- a change takes the element out, and puts the changed one in
pub changed-Puts : {X : Type 0} (p : X → Bool) (f : X → X) (x : X) (xs : List X) → find p xs ≡ Some x
    → (base : List X) × (Puts x base xs × Puts (f x) base (changed_first p f xs))
changed-Puts p f x [] e = cc
changed-Puts {X} p f x (y ∷ ys) e = at (p y) refl e (changed-Puts p f x ys) where
  Moved : List X → List X → Type 0
  Moved old now = (base : List X) × (Puts x base old × Puts (f x) base now)

  at : (b : Bool) → p y ≡ b → cond b (Some y) (find p ys) ≡ Some x
      → (find p ys ≡ Some x → (base : List X) × (Puts x base ys × Puts (f x) base (changed_first p f ys)))
      → (base : List X) × (Puts x base (y ∷ ys) × Puts (f x) base (cond b (f y ∷ ys) (y ∷ changed_first p f ys)))
  at true is h more =
      let same : y ≡ x = cc in
      (ys, (subst (λ z. Puts x ys (z ∷ ys)) (sym same) here, subst (λ z. Puts (f x) ys (f z ∷ ys)) (sym same) here))
  at false is h more = let found = more h in (y ∷ found.0, (later found.1.0, later found.1.1))

-- what a change leaves of each element stays of the list
pub map-changed : {X Y : Type 0} (g : X → Y) (p : X → Bool) (f : X → X) (xs : List X)
    → ((x : X) → p x ≡ true → g (f x) ≡ g x) → map g (changed_first p f xs) ≡ map g xs
map-changed g p f [] keeps = refl
map-changed {X} {Y} g p f (y ∷ ys) keeps = at (p y) refl (map-changed g p f ys keeps) where
  at : (b : Bool) → p y ≡ b → map g (changed_first p f ys) ≡ map g ys
      → map g (cond b (f y ∷ ys) (y ∷ changed_first p f ys)) ≡ g y ∷ map g ys
  at true is more = ap (λ z. z ∷ map g ys) (keeps y is)
  at false is more = ap (λ zs. g y ∷ zs) more

pub length-changed : {X : Type 0} (p : X → Bool) (f : X → X) (xs : List X) → length (changed_first p f xs) ≡ length xs
length-changed p f [] = refl
length-changed p f (y ∷ ys) = at (p y) (length-changed p f ys) where
  at : (b : Bool) → length (changed_first p f ys) ≡ length ys → length (cond b (f y ∷ ys) (y ∷ changed_first p f ys)) ≡ length (y ∷ ys)
  at true more = refl
  at false more = ap suc more

pub Each-changed : {X : Type 0} (P : X → Type 0) (p : X → Bool) (f : X → X) (xs : List X)
    → ((x : X) → p x ≡ true → P x → P (f x)) → Each P xs → Each P (changed_first p f xs)
Each-changed P p f [] keeps e = e
Each-changed P p f (y ∷ ys) keeps e = at (p y) refl (Each-changed P p f ys keeps (Each-tail e)) where
  at : (b : Bool) → p y ≡ b → Each P (changed_first p f ys) → Each P (cond b (f y ∷ ys) (y ∷ changed_first p f ys))
  at true is more = Each-cons P (keeps y is (Each-head e)) (Each-tail e)
  at false is more = Each-cons P (Each-head e) more

pub Distinct-changed : {X K : Type 0} (key : X → K) (p : X → Bool) (f : X → X) (xs : List X)
    → ((x : X) → key (f x) ≡ key x) → Distinct key xs → Distinct key (changed_first p f xs)
Distinct-changed key p f [] keeps d = d
Distinct-changed {K} key p f (y ∷ ys) keeps d = at (p y) (Distinct-changed key p f ys keeps d.1) where
  Differs : K → Type 0
  Differs k = Each (λ z. key z ≢ k) ys

  at : (b : Bool) → Distinct key (changed_first p f ys) → Distinct key (cond b (f y ∷ ys) (y ∷ changed_first p f ys))
  at true more = (subst (λ k. Each (λ z. key z ≢ k) ys) (sym (keeps y)) d.0, d.1)
  at false more = (Each-changed (λ z. key z ≢ key y) p f ys (λ x is apart e. apart (sym (keeps x) ∙ e)) d.0, more)

pub find-changed : {X : Type 0} (p : X → Bool) (f : X → X) (x : X) (xs : List X)
    → find p xs ≡ Some x → p (f x) ≡ true → find p (changed_first p f xs) ≡ Some (f x)
find-changed p f x [] e passes = cc
find-changed p f x (y ∷ ys) e passes = at (p y) refl e (λ h. find-changed p f x ys h passes) where
  at : (b : Bool) → p y ≡ b → cond b (Some y) (find p ys) ≡ Some x
      → (find p ys ≡ Some x → find p (changed_first p f ys) ≡ Some (f x))
      → find p (cond b (f y ∷ ys) (y ∷ changed_first p f ys)) ≡ Some (f x)
  at true is h more =
      let same : y ≡ x = cc in
      ap (λ b. cond b (Some (f y)) (find p ys)) (ap (λ z. p (f z)) same ∙ passes) ∙ ap (λ z. Some (f z)) same
  at false is h more = ap (λ b. cond b (Some y) (find p (changed_first p f ys))) is ∙ more h

-- another test finds what it found
pub find-changed_other : {X : Type 0} (p q : X → Bool) (f : X → X) (xs : List X)
    → ((y : X) → p y ≡ true → (q y ≡ false) × (q (f y) ≡ false)) → find q (changed_first p f xs) ≡ find q xs
find-changed_other p q f [] apart = refl
find-changed_other p q f (y ∷ ys) apart = at (p y) refl (find-changed_other p q f ys apart) where
  at : (b : Bool) → p y ≡ b → find q (changed_first p f ys) ≡ find q ys
      → find q (cond b (f y ∷ ys) (y ∷ changed_first p f ys)) ≡ cond (q y) (Some y) (find q ys)
  at true is more =
      let both = apart y is in
      ap (λ b. cond b (Some (f y)) (find q ys)) both.1 ∙ sym (ap (λ b. cond b (Some y) (find q ys)) both.0)
  at false is more = ap (λ o. cond (q y) (Some y) o) more

-- what is read of the elements, where the change leaves what is read
pub read-changed : {X Y : Type 0} (h : X → Option Y) (p : X → Bool) (f : X → X) (xs : List X)
    → ((x : X) → p x ≡ true → h (f x) ≡ h x) → filter_map h (changed_first p f xs) ≡ filter_map h xs
read-changed h p f [] keeps = refl
read-changed h p f (y ∷ ys) keeps = at (p y) refl (read-changed h p f ys keeps) where
  at : (b : Bool) → p y ≡ b → filter_map h (changed_first p f ys) ≡ filter_map h ys
      → filter_map h (cond b (f y ∷ ys) (y ∷ changed_first p f ys)) ≡ cons_option (h y) (filter_map h ys)
  at true is more = ap (λ o. cons_option o (filter_map h ys)) (keeps y is)
  at false is more = ap (λ zs. cons_option (h y) zs) more

-- and where the changed element is no longer read
pub read-out : {X Y : Type 0} (h : X → Option Y) (p : X → Bool) (f : X → X) (x : X) (y : Y) (xs : List X)
    → find p xs ≡ Some x → h x ≡ Some y → h (f x) ≡ None → Puts y (filter_map h (changed_first p f xs)) (filter_map h xs)
read-out h p f x y xs e is gone =
    let moved = changed-Puts p f x xs e in
    subst (λ zs. Puts y zs (filter_map h xs)) (sym (read-same h moved.1.1 gone)) (read-Puts h moved.1.0 is)

-- one element dropped

pub dropped-none : {X : Type 0} (p : X → Bool) (xs : List X) → list_any p xs ≡ false → dropped p xs ≡ xs
dropped-none p [] e = refl
dropped-none p (y ∷ ys) e = at (p y) e (dropped-none p ys) where
  at : (b : Bool) → (b || list_any p ys) ≡ false → (list_any p ys ≡ false → dropped p ys ≡ ys) → cond b ys (y ∷ dropped p ys) ≡ y ∷ ys
  at true h more = cc
  at false h more = ap (λ zs. y ∷ zs) (more h)

pub dropped-Puts : {X : Type 0} (p : X → Bool) (x : X) (xs : List X) → find p xs ≡ Some x → Puts x (dropped p xs) xs
dropped-Puts p x [] e = cc
dropped-Puts p x (y ∷ ys) e = at (p y) e (dropped-Puts p x ys) where
  at : (b : Bool) → cond b (Some y) (find p ys) ≡ Some x → (find p ys ≡ Some x → Puts x (dropped p ys) ys) → Puts x (cond b ys (y ∷ dropped p ys)) (y ∷ ys)
  at true h more = let same : y ≡ x = cc in subst (λ z. Puts x ys (z ∷ ys)) (sym same) here
  at false h more = later (more h)

pub Mem-dropped : {X : Type 0} (x : X) (p : X → Bool) (xs : List X) → Mem x (dropped p xs) → Mem x xs
Mem-dropped x p [] m = m
Mem-dropped x p (y ∷ ys) m = at (p y) m (Mem-dropped x p ys) where
  at : (b : Bool) → Mem x (cond b ys (y ∷ dropped p ys)) → (Mem x (dropped p ys) → Mem x ys) → Mem x (y ∷ ys)
  at true n more = inr n
  at false (inl e) more = inl e
  at false (inr n) more = inr (more n)

pub Each-dropped : {X : Type 0} {P : X → Type 0} (p : X → Bool) {xs : List X} → Each P xs → Each P (dropped p xs)
Each-dropped p {xs} e = record { at = λ x m. e.at x (Mem-dropped x p xs m) }

pub Distinct-dropped : {X K : Type 0} (key : X → K) (p : X → Bool) (xs : List X) → Distinct key xs → Distinct key (dropped p xs)
Distinct-dropped key p [] d = d
Distinct-dropped key p (y ∷ ys) d = at (p y) (Distinct-dropped key p ys d.1) where
  at : (b : Bool) → Distinct key (dropped p ys) → Distinct key (cond b ys (y ∷ dropped p ys))
  at true more = d.1
  at false more = (Each-dropped p d.0, more)

-- another test finds what it found
pub find-dropped : {X : Type 0} (p q : X → Bool) (xs : List X)
    → ((y : X) → p y ≡ true → q y ≡ false) → find q (dropped p xs) ≡ find q xs
find-dropped p q [] apart = refl
find-dropped p q (y ∷ ys) apart = at (p y) refl (find-dropped p q ys apart) where
  at : (b : Bool) → p y ≡ b → find q (dropped p ys) ≡ find q ys → find q (cond b ys (y ∷ dropped p ys)) ≡ cond (q y) (Some y) (find q ys)
  at true is more = sym (ap (λ b. cond b (Some y) (find q ys)) (apart y is))
  at false is more = ap (λ o. cond (q y) (Some y) o) more

-- where the test tells a key, and keys are distinct, what was dropped is gone
pub find-gone : {X K : Type 0} (key : X → K) (p : X → Bool) (xs : List X) → Distinct key xs
    → ((x y : X) → p x ≡ true → p y ≡ true → key y ≡ key x) → find p (dropped p xs) ≡ None
find-gone key p [] d tells = refl
find-gone {X} key p (y ∷ ys) d tells = at (p y) refl (find-gone key p ys d.1 tells) where
  fails : (z : X) → p y ≡ true → key z ≢ key y → (b : Bool) → p z ≡ b → p z ≡ false
  fails z is apart true isz = absurd (apart (tells y z is isz))
  fails z is apart false isz = isz

  at : (b : Bool) → p y ≡ b → find p (dropped p ys) ≡ None → find p (cond b ys (y ∷ dropped p ys)) ≡ None
  at true is more = none-find p ys (Each-map (λ z apart. fails z is apart (p z) refl) d.0)
  at false is more = ap (λ b. cond b (Some y) (find p (dropped p ys))) is ∙ more

-- one element put in, or in place of another

pub inserted-Puts : {X : Type 0} (before : X → Bool) (x : X) (xs : List X) → Puts x xs (inserted before x xs)
inserted-Puts before x [] = here
inserted-Puts before x (y ∷ ys) = at (before y) (inserted-Puts before x ys) where
  at : (b : Bool) → Puts x ys (inserted before x ys) → Puts x (y ∷ ys) (cond b (x ∷ y ∷ ys) (y ∷ inserted before x ys))
  at true p = here
  at false p = later p

pub replaced-is : {X : Type 0} (p before : X → Bool) (x : X) (xs : List X) → Replaces p x xs (replaced p before x xs)
replaced-is p before x xs = at (list_any p xs) refl where
  at : (b : Bool) → list_any p xs ≡ b → Replaces p x xs (cond b (changed_first p (λ _. x) xs) (inserted before x xs))
  at true is =
      let found = any-find p xs is in
      let moved = changed-Puts p (λ _. x) found.0 xs found.1 in
      instead found.0 moved.0 (find-some p xs found.0 found.1).1 moved.1.0 moved.1.1
  at false is = new (any-none p xs is) (inserted-Puts before x xs)

pub Each-Replaces : {X : Type 0} (P : X → Type 0) {p : X → Bool} {x : X} {xs ys : List X}
    → Replaces p x xs ys → P x → Each P xs → Each P ys
Each-Replaces P (new fresh q) px e = Each-puts P q px e
Each-Replaces P (instead old base is out back) px e = Each-puts P back px (Each-unputs out e).1

-- keys stay distinct where the test tells the key of x
pub Distinct-Replaces : {X K : Type 0} (key : X → K) {p : X → Bool} {x : X} {xs ys : List X}
    → Replaces p x xs ys → ((y : X) → p y ≡ true → key y ≡ key x) → ((y : X) → p y ≡ false → key y ≢ key x)
    → Distinct key xs → Distinct key ys
Distinct-Replaces key (new fresh q) tells differs d = Distinct-puts key q (Each-map differs fresh) d
Distinct-Replaces key {x} (instead old base is out back) tells differs d =
    let rest = Distinct-unputs key out d in
    Distinct-puts key back (subst (λ k. Each (λ z. key z ≢ k) base) (tells old is) rest.0) rest.1

-- what was put in is found by its test
pub find-put : {X : Type 0} (p before : X → Bool) (x : X) (xs : List X) → p x ≡ true → find p (replaced p before x xs) ≡ Some x
find-put p before x xs passes = at (list_any p xs) refl where
  at : (b : Bool) → list_any p xs ≡ b → find p (cond b (changed_first p (λ _. x) xs) (inserted before x xs)) ≡ Some x
  at true is = let found = any-find p xs is in find-changed p (λ _. x) found.0 xs found.1 passes
  at false is = find-Puts p (inserted-Puts before x xs) passes (any-none p xs is)

-- another test finds what it found
pub find-replaced : {X : Type 0} (p before q : X → Bool) (x : X) (xs : List X)
    → q x ≡ false → ((y : X) → p y ≡ true → q y ≡ false) → find q (replaced p before x xs) ≡ find q xs
find-replaced p before q x xs fails apart = at (list_any p xs) where
  at : (b : Bool) → find q (cond b (changed_first p (λ _. x) xs) (inserted before x xs)) ≡ find q xs
  at true = find-changed_other p q (λ _. x) xs (λ y is. (apart y is, fails))
  at false = find-puts q (inserted-Puts before x xs) fails
