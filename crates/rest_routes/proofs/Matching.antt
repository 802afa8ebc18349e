-- A path that a router matches is the pattern of its row with parts of the path in place of the parameters.
use Rattle.std.proofs.Common.{◌≡◌, ℕ, zero, suc, ◌-◌, ◌<◌, List, [], ◌∷◌, ◌++◌, length, drop, take, Option, Some, None, Bool, true, false, cond, ◌&&◌, ◌||◌, refl, sym, ap, subst, arith, nat_eq, ◌==◌, ltb, ◌⊎◌, inl, inr}
use Rattle.std.proofs.lemmas.Bool.Decides.{nat_tests}
use Rattle.std.specs.List.{ends_with}
use Rattle.matchit.specs.Rows.{RowsOf, param_token, catch_all_token}
use Rattle.matchit.specs.Seek.{own, step, or_else, seek, first, param_step, has_slash, segment, slash, better, longest_from, longest_suffix, with_suffix, same_text}
use Rattle.matchit.specs.Level.{IsText}
use Rattle.rest_routes.specs.Filled.{filled}

-- how many parameters a pattern has
abbrev pub params_in : List ℕ → ℕ
params_in [] = 0
params_in (token ∷ more) = cond (token == param_token) (suc (params_in more)) (params_in more)

-- the pattern has a parameter that takes all that is left
abbrev pub has_catch_all : List ℕ → Bool
has_catch_all [] = false
has_catch_all (token ∷ more) = token == catch_all_token || has_catch_all more

-- no part has a slash
abbrev pub AreParts : List (List ℕ) → Type 0
AreParts [] = Unit {0}
AreParts (part ∷ parts) = (has_slash part ≡ false) × AreParts parts

-- the path is the pattern with a part for each parameter
pub record Fits (pattern path : List ℕ) : Type 0 where
  pub parts : List (List ℕ)
  pub enough : length parts ≡ params_in pattern
  pub are : AreParts parts
  pub is : path ≡ filled pattern parts

-- a literal in front
fits-byte : (b : ℕ) (t path : List ℕ) → b < 256 → Fits t path → Fits (b ∷ t) (b ∷ path)
fits-byte b t path small h =
    let other : (b == param_token) ≡ false = grind (arith, nat_tests) in
    record { parts = h.parts; enough = rw other h.enough; are = h.are; is = by h.parts refl other }
  where
    by : (parts : List (List ℕ)) → h.parts ≡ parts → (b == param_token) ≡ false → b ∷ path ≡ filled (b ∷ t) parts
    by [] e other = ap (λ p. b ∷ p) (subst (λ ps. path ≡ filled t ps) e h.is)
    by (part ∷ parts) e other = rw other (ap (λ p. b ∷ p) (subst (λ ps. path ≡ filled t ps) e h.is))

-- a parameter in front
fits-part : (part t path : List ℕ) → has_slash part ≡ false → Fits t path → Fits (param_token ∷ t) (part ++ path)
fits-part part t path clean h = record { parts = part ∷ h.parts; enough = ap suc h.enough; are = (clean, h.are); is = ap (λ p. part ++ p) h.is }

-- ---- rows

module _ {K : Type 0} where
  abbrev pub In : List ℕ → K → RowsOf K → Type 0
  In t key [] = ⊥
  In t key ((u, k) ∷ rows) = ((u ≡ t) × (k ≡ key)) ⊎ In t key rows

  own-in : (key : K) (rows : RowsOf K) → own rows ≡ Some key → In [] key rows
  own-in key [] e = cc
  own-in key (([], k) ∷ rows) e = inl (refl, cc)
  own-in key ((x ∷ t, k) ∷ rows) e = inr (own-in key rows e)

  step-in : (b : ℕ) (t : List ℕ) (key : K) (rows : RowsOf K) → In t key (step b rows) → In (b ∷ t) key rows
  step-in b t key [] h = h
  step-in b t key (([], k) ∷ rows) h = inr (step-in b t key rows h)
  step-in b t key ((x ∷ u, k) ∷ rows) h = at (x == b) refl h (step-in b t key rows)
    where
      same : (x == b) ≡ true → x ≡ b
      same e = grind (arith, nat_tests)

      at : (v : Bool) → (x == b) ≡ v → In t key (cond v ((u, k) ∷ step b rows) (step b rows)) → (In t key (step b rows) → In (b ∷ t) key rows)
          → In (b ∷ t) key ((x ∷ u, k) ∷ rows)
      at true is (inl h) more = inl (rw (same is, h.0) refl, h.1)
      at true is (inr h) more = inr (more h)
      at false is h more = inr (more h)

  suffix-in : (s t : List ℕ) (key : K) (rows : RowsOf K) → In t key (with_suffix s rows) → In t key rows
  suffix-in s t key [] h = h
  suffix-in s t key ((u, k) ∷ rows) h = at (same_text (segment u) s) h (suffix-in s t key rows)
    where
      at : (v : Bool) → In t key (cond v ((u, k) ∷ with_suffix s rows) (with_suffix s rows)) → (In t key (with_suffix s rows) → In t key rows) → In t key ((u, k) ∷ rows)
      at true (inl h) more = inl h
      at true (inr h) more = inr (more h)
      at false h more = inr (more h)

  -- the longest suffix leaves something
  shorter : (seg best : List ℕ) (rows : RowsOf K) → length best < length seg → length (longest_from seg best rows) < length seg
  shorter seg best [] h = h
  shorter seg best ((t, k) ∷ rows) h = shorter seg (better seg best (segment t)) rows (at (ltb (length best) (length (segment t))) (ltb (length (segment t)) (length seg)) refl (ends_with nat_eq seg (segment t)))
    where
      less : ltb (length (segment t)) (length seg) ≡ true → length (segment t) < length seg
      less e = grind (arith, nat_tests)

      at : (a b : Bool) → ltb (length (segment t)) (length seg) ≡ b → (c : Bool) → length (cond (a && (b && c)) (segment t) best) < length seg
      at true true is true = less is
      at true true is false = h
      at true false is c = h
      at false b is c = h

-- ---- parts

take-drop : (n : ℕ) (path : List ℕ) → path ≡ take n path ++ drop n path
take-drop zero path = refl
take-drop (suc n) [] = refl
take-drop (suc n) (b ∷ path) = ap (λ p. b ∷ p) (take-drop n path)

-- a path is what a parameter takes of it, and the rest
cut-at : (n b : ℕ) (path : List ℕ) → 0 < n → b ∷ path ≡ take n (b ∷ path) ++ drop (n - 1) path
cut-at zero b path h = elim h [ ]
cut-at (suc n) b path h =
    let one : suc n - 1 ≡ n = omega arith in
    rw one (ap (λ p. b ∷ p) (take-drop n path))

-- what stands before the end of the first segment has no slash
take-clean : (n : ℕ) (path : List ℕ) → n < length (segment path) → has_slash (take n path) ≡ false
take-clean zero path h = refl
take-clean (suc n) [] h = elim h [ ]
take-clean (suc n) (b ∷ path) h = at (b == slash) h (take-clean n path)
  where
    at : (v : Bool) → suc n < length (cond v (b ∷ []) (b ∷ segment path)) → (n < length (segment path) → has_slash (take n path) ≡ false)
        → cond v true (has_slash (take n path)) ≡ false
    at true h more = absurd (let short : suc n < 1 = h in omega arith)
    at false h more = more (let less : suc n < suc (length (segment path)) = h in omega arith)

take-none : (n : ℕ) (path : List ℕ) → has_slash path ≡ false → has_slash (take n path) ≡ false
take-none zero path h = refl
take-none (suc n) [] h = refl
take-none (suc n) (b ∷ path) h = at (b == slash) h (take-none n path)
  where
    at : (v : Bool) → cond v true (has_slash path) ≡ false → (has_slash path ≡ false → has_slash (take n path) ≡ false) → cond v true (has_slash (take n path)) ≡ false
    at true h more = h
    at false h more = more h

segment-some : (b : ℕ) (path : List ℕ) → 0 < length (segment (b ∷ path))
segment-some b path = at (b == slash)
  where
    at : (v : Bool) → 0 < length (cond v (b ∷ []) (b ∷ segment path))
    at true = omega arith
    at false = omega arith

fits-cut : (n b : ℕ) (t path : List ℕ) → 0 < n → has_slash (take n (b ∷ path)) ≡ false → Fits t (drop (n - 1) path) → Fits (param_token ∷ t) (b ∷ path)
fits-cut n b t path some clean h =
    subst (λ p. Fits (param_token ∷ t) p) (sym (cut-at n b path some)) (fits-part (take n (b ∷ path)) t (drop (n - 1) path) clean h)

-- ---- what a router finds

-- a row that the path fits, unless it takes all that is left
pub record Found {K : Type 0} (front : List ℕ) (rows : RowsOf K) (key : K) (path : List ℕ) : Type 0 where
  pub pattern : List ℕ
  pub there : In pattern key rows
  pub fits : Fits (front ++ pattern) path ⊎ (has_catch_all pattern ≡ true)

module _ {K : Type 0} where
  either : (key : K) (a b c : Option K) → or_else a (or_else b c) ≡ Some key → (a ≡ Some key) ⊎ ((b ≡ Some key) ⊎ (c ≡ Some key))
  either key (Some k) b c e = inl e
  either key None (Some k) c e = inr (inl e)
  either key None None c e = inr (inr e)

  -- after a parameter
  part-found : (b : ℕ) (path : List ℕ) (key : K) (rows : RowsOf K)
      → ((skip : ℕ) (after : RowsOf K) → seek skip after path ≡ Some key → Found [] after key (drop skip path))
      → seek ((param_step rows (b ∷ path)).0 - 1) (param_step rows (b ∷ path)).1 path ≡ Some key → Found (param_token ∷ []) rows key (b ∷ path)
  unfolding param_step
  part-found b path key rows more e =
      at (ltb 0 (length (longest_suffix (segment (b ∷ path)) rows))) refl (has_slash (b ∷ path)) refl e
    where
      seg : List ℕ
      seg = segment (b ∷ path)

      suffix : List ℕ
      suffix = longest_suffix seg rows

      less : length suffix < length seg
      less = shorter seg [] rows (segment-some b path)

      taken : (n : ℕ) (after : RowsOf K) → 0 < n → has_slash (take n (b ∷ path)) ≡ false → ((t : List ℕ) → In t key after → In t key rows)
          → Found [] after key (drop (n - 1) path) → Found (param_token ∷ []) rows key (b ∷ path)
      taken n after some clean in_rows f = record { pattern = f.pattern; there = in_rows f.pattern f.there; fits = by f.fits }
        where
          by : Fits f.pattern (drop (n - 1) path) ⊎ (has_catch_all f.pattern ≡ true) → Fits (param_token ∷ f.pattern) (b ∷ path) ⊎ (has_catch_all f.pattern ≡ true)
          by (inl h) = inl (fits-cut n b f.pattern path some clean h)
          by (inr h) = inr h

      at : (v : Bool) → ltb 0 (length suffix) ≡ v → (s : Bool) → has_slash (b ∷ path) ≡ s
          → seek ((cond {A = ℕ × RowsOf K} v (length seg - length suffix, with_suffix suffix rows) (cond {A = ℕ × RowsOf K} s (0, []) (length (b ∷ path), rows))).0 - 1)
          (cond {A = ℕ × RowsOf K} v (length seg - length suffix, with_suffix suffix rows) (cond {A = ℕ × RowsOf K} s (0, []) (length (b ∷ path), rows))).1 path ≡ Some key
          → Found (param_token ∷ []) rows key (b ∷ path)
      at true is s clean e =
          let some : 0 < length suffix = grind (arith, nat_tests) in
          let l : length suffix < length seg = less in
          taken (length seg - length suffix) (with_suffix suffix rows) (omega arith) (take-clean (length seg - length suffix) (b ∷ path) (omega arith))
          (λ t h. suffix-in suffix t key rows h) (more (length seg - length suffix - 1) (with_suffix suffix rows) e)
      at false is true clean e = absurd ((more (0 - 1) [] e).there)
      at false is false clean e = taken (length (b ∷ path)) rows (omega arith) (take-none (length (b ∷ path)) (b ∷ path) clean) (λ t h. h) (more (length (b ∷ path) - 1) rows e)

  pub sound : (path : List ℕ) (skip : ℕ) (rows : RowsOf K) (key : K) → IsText path → seek skip rows path ≡ Some key → Found [] rows key (drop skip path)
  unfolding seek
  sound [] zero rows key text e = record { pattern = []; there = own-in key rows e; fits = inl (record { parts = []; enough = refl; are = tt; is = refl }) }
  sound [] (suc skip) rows key text e = record { pattern = []; there = own-in key rows e; fits = inl (record { parts = []; enough = refl; are = tt; is = refl }) }
  sound (b ∷ path) (suc skip) rows key text e = sound path skip rows key text.1 e
  sound (b ∷ path) zero rows key text e =
      at (either key _ _ _ e) (sound path 0 (step b rows) key text.1) (λ skip after h. sound path skip after key text.1 h)
    where
      byte : Found [] (step b rows) key path → Found [] rows key (b ∷ path)
      byte f = record { pattern = b ∷ f.pattern; there = step-in b f.pattern key rows f.there; fits = by f.fits }
        where
          by : Fits f.pattern path ⊎ (has_catch_all f.pattern ≡ true) → Fits (b ∷ f.pattern) (b ∷ path) ⊎ (has_catch_all (b ∷ f.pattern) ≡ true)
          by (inl h) = inl (fits-byte b f.pattern path text.0 h)
          by (inr h) = inr (later (b == catch_all_token) h)
            where
              later : (v : Bool) → has_catch_all f.pattern ≡ true → (v || has_catch_all f.pattern) ≡ true
              later true h = refl
              later false h = h

      part : Found (param_token ∷ []) (step param_token rows) key (b ∷ path) → Found [] rows key (b ∷ path)
      part f = record { pattern = param_token ∷ f.pattern; there = step-in param_token f.pattern key rows f.there; fits = by f.fits }
        where
          by : Fits (param_token ∷ f.pattern) (b ∷ path) ⊎ (has_catch_all f.pattern ≡ true) → Fits (param_token ∷ f.pattern) (b ∷ path) ⊎ (has_catch_all (param_token ∷ f.pattern) ≡ true)
          by (inl h) = inl h
          by (inr h) = inr h

      at : (seek 0 (step b rows) path ≡ Some key)
          ⊎ ((seek ((param_step (step param_token rows) (b ∷ path)).0 - 1) (param_step (step param_token rows) (b ∷ path)).1 path ≡ Some key)
          ⊎ (own (step catch_all_token rows) ≡ Some key))
          → (seek 0 (step b rows) path ≡ Some key → Found [] (step b rows) key path)
          → ((skip : ℕ) (after : RowsOf K) → seek skip after path ≡ Some key → Found [] after key (drop skip path))
          → Found [] rows key (b ∷ path)
      at (inl h) first more = byte (first h)
      at (inr (inl h)) first more = part (part-found b path key (step param_token rows) more h)
      at (inr (inr h)) first more =
          record { pattern = catch_all_token ∷ []; there = step-in catch_all_token [] key rows (own-in key (step catch_all_token rows) h); fits = inr refl }
