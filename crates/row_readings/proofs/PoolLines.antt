-- Sums on limited pools, part by part.
use Rattle.std.proofs.Common.{◌≡◌, ℕ, ◌+◌, ◌^◌, ◌<◌, ◌≤◌, Bool, true, false, cond, ◌&&◌, ◌==◌, Option, Some, None, List, [], ◌∷◌, ◌++◌, All, length, map, take, get_or, set, position, filter, refl, sym, ap, ap₂, subst, ◌∙◌, arith}
use Rattle.std.specs.List.{cons_option, filter_map}
use Rattle.std.specs.Option.{option_map_or}
use Rattle.std.specs.Str.{bytes_eq}
use Rattle.std.proofs.lemmas.Bool.{false≢true}
use Rattle.std.proofs.lemmas.Bool.Decides.{nat_tests}
use Rattle.std.proofs.lemmas.List.{append-nil, get_or-map, length-map, map-append, take_more}
use Rattle.std.proofs.lemmas.List.Elements.{All-weaker, filter_map-append, filter_more}
use Rattle.std.proofs.lemmas.List.Quantifiers.{position-Some}
use Rattle.std.proofs.lemmas.List.Sums.{sum_by_push, sum_by-le}
use Rattle.config_lists.proofs.Keys.{same, bytes_eq-itself}
use Rattle.row_machine.specs.facts.Whole.{Rise}
use Rattle.row_machine.specs.machine.Rows.{same_names}
use Rattle.row_machine.specs.machine.Usage.{Load, on_pool_for}
use Rattle.row_readings.specs.Loads.{IsSmall, AreSmall}
use Rattle.row_readings.specs.PoolLimits.{limit_names, used_under, pool_sums, AreSums, is_limit, added, with_claim}
use Rattle.row_readings.specs.declared.pool_limits.PoolLimit.{PoolLimit}
use Rattle.row_readings.proofs.Lines.{line-changed, lines-same}

-- ---- what a load adds to a line

both : (a b : Bool) → (a && b) ≡ true → (a ≡ true) × (b ≡ true)
both true b e = (refl, e)
both false b e = cc

-- all of it where the line has its names
adds-own : (l : PoolLimit) (load : Load) → same_names (limit_names l) (load.project ∷ load.on.pool ∷ []) ≡ true → on_pool_for l.project l.pool load ≡ load.on.disk
adds-own l load is =
    let two = both (bytes_eq l.project load.project) (bytes_eq l.pool load.on.pool) is in
    ap₂ (λ b c. cond b (cond c load.on.disk 0) 0)
    (ap (bytes_eq load.project) (same l.project load.project two.0) ∙ bytes_eq-itself load.project)
    (ap (bytes_eq load.on.pool) (same l.pool load.on.pool two.1) ∙ bytes_eq-itself load.on.pool)

-- nothing where it has others
adds-other : (l : PoolLimit) (load : Load) → same_names (limit_names l) (load.project ∷ load.on.pool ∷ []) ≡ false → on_pool_for l.project l.pool load ≡ 0
adds-other l load is = at (bytes_eq load.project l.project) (bytes_eq load.on.pool l.pool) refl refl where
  at : (b c : Bool) → bytes_eq load.project l.project ≡ b → bytes_eq load.on.pool l.pool ≡ c → cond b (cond c load.on.disk 0) 0 ≡ 0
  at false c p q = refl
  at true false p q = refl
  at true true p q =
      let all : (bytes_eq l.project load.project && bytes_eq l.pool load.on.pool) ≡ true =
      ap₂ (λ x y. x && y) (ap (λ n. bytes_eq n load.project) (sym (same load.project l.project p)) ∙ bytes_eq-itself load.project)
      (ap (λ n. bytes_eq n load.on.pool) (sym (same load.on.pool l.pool q)) ∙ bytes_eq-itself load.on.pool) in
      absurd (false≢true (sym is ∙ all))

-- and never more
adds-most : (project pool : List ℕ) (load : Load) → on_pool_for project pool load ≤ load.on.disk
adds-most project pool load = at (bytes_eq load.project project) (bytes_eq load.on.pool pool) where
  at : (b c : Bool) → cond b (cond c load.on.disk 0) 0 ≤ load.on.disk
  at true true = omega arith
  at true false = omega arith
  at false c = omega arith

-- ---- one more load

module _ (limits : List PoolLimit) (loads : List Load) (load : Load) (up : Rise limit_names limits) where
  more : (l : PoolLimit) → used_under (loads ++ load ∷ []) l ≡ used_under loads l + on_pool_for l.project l.pool load
  more l = sum_by_push (on_pool_for l.project l.pool) loads load

  stays : (l : PoolLimit) → same_names (limit_names l) (load.project ∷ load.on.pool ∷ []) ≡ false → used_under loads l ≡ used_under (loads ++ load ∷ []) l
  stays l other = omega (arith, more l, adds-other l load other)

  empty : (load.on.disk == 0) ≡ true → (l : PoolLimit) → used_under loads l ≡ used_under (loads ++ load ∷ []) l
  empty none l =
      let zero : load.on.disk ≡ 0 = grind (arith, nat_tests, none) in
      omega (arith, zero, more l, adds-most l.project l.pool load)

  own : (ls : List PoolLimit) (place : ℕ) → Rise limit_names ls → position (is_limit load.project load.on.pool) ls ≡ Some place
      → set (pool_sums loads ls) place (get_or (pool_sums loads ls) place 0 + load.on.disk) ≡ pool_sums (loads ++ load ∷ []) ls
  own [] place rising at_place = cc
  own (l ∷ ls) place rising at_place =
      let found = position-Some (is_limit load.project load.on.pool) (l ∷ ls) place l at_place in
      let here : get_or (pool_sums loads (l ∷ ls)) place 0 ≡ used_under loads (get_or (l ∷ ls) place l) = get_or-map (used_under loads) (l ∷ ls) place l 0 found.0 in
      let grown : get_or (pool_sums loads (l ∷ ls)) place 0 + load.on.disk ≡ used_under (loads ++ load ∷ []) (get_or (l ∷ ls) place l) =
      omega (arith, here, more (get_or (l ∷ ls) place l), adds-own (get_or (l ∷ ls) place l) load found.1) in
      ap (set (pool_sums loads (l ∷ ls)) place) grown
      ∙ line-changed limit_names (load.project ∷ load.on.pool ∷ []) (used_under loads) (used_under (loads ++ load ∷ [])) stays (l ∷ ls) place l rising at_place

  pub added-sums : added limits load.project load.on (pool_sums loads limits) ≡ pool_sums (loads ++ load ∷ []) limits
  added-sums = at (load.on.disk == 0) refl where
    placed : (o : Option ℕ) → position (is_limit load.project load.on.pool) limits ≡ o
        → option_map_or (λ place. set (pool_sums loads limits) place (get_or (pool_sums loads limits) place 0 + load.on.disk)) o (pool_sums loads limits)
        ≡ pool_sums (loads ++ load ∷ []) limits
    placed None nowhere =
        lines-same limit_names (load.project ∷ load.on.pool ∷ []) (used_under loads) (used_under (loads ++ load ∷ [])) stays limits nowhere
    placed (Some place) at_place = own limits place up at_place

    at : (b : Bool) → (load.on.disk == 0) ≡ b
        → cond b (pool_sums loads limits)
        (option_map_or (λ place. set (pool_sums loads limits) place (get_or (pool_sums loads limits) place 0 + load.on.disk))
        (position (is_limit load.project load.on.pool) limits) (pool_sums loads limits))
        ≡ pool_sums (loads ++ load ∷ []) limits
    at true none = λ i. map (λ (l : PoolLimit). empty none l i) limits
    at false some = placed (position (is_limit load.project load.on.pool) limits) refl

-- ---- the next of some rows

-- each counts
pub next-sums : {X : Type 0} (limits : List PoolLimit) (f : X → Load) (xs : List X) (i : ℕ) (x : X) → Rise limit_names limits → i < length xs → x ≡ get_or xs i x
    → added limits (f x).project (f x).on (pool_sums (map f (take i xs)) limits) ≡ pool_sums (map f (take (i + 1) xs)) limits
next-sums limits f xs i x up within is =
    added-sums limits (map f (take i xs)) (f x) up
    ∙ ap (λ ls. pool_sums ls limits) (sym (ap (map f) (take_more xs i x within ∙ ap (λ y. take i xs ++ y ∷ []) (sym is)) ∙ map-append f (take i xs) (x ∷ [])))

-- each is a load
pub next-loads : (limits : List PoolLimit) (loads : List Load) (i : ℕ) (load : Load) → Rise limit_names limits → i < length loads → load ≡ get_or loads i load
    → added limits load.project load.on (pool_sums (take i loads) limits) ≡ pool_sums (take (i + 1) loads) limits
next-loads limits loads i load up within is =
    added-sums limits (take i loads) load up
    ∙ ap (λ ls. pool_sums ls limits) (sym (take_more loads i load within ∙ ap (λ y. take i loads ++ y ∷ []) (sym is)))

-- those count that pass a test
module _ {X : Type 0} (limits : List PoolLimit) (f : X → Load) (p : X → Bool) (xs : List X) (i : ℕ) (x : X) (within : i < length xs) (is : x ≡ get_or xs i x) where
  passed : (b : Bool) → p x ≡ b → filter p (take (i + 1) xs) ≡ filter p (take i xs) ++ cond b (x ∷ []) []
  passed b test =
      filter_more p xs i x within ∙ ap (λ y. filter p (take i xs) ++ cond (p y) (y ∷ []) []) (sym is)
      ∙ ap (λ c. filter p (take i xs) ++ cond c (x ∷ []) []) test

  pub next-passing : Rise limit_names limits → p x ≡ true
      → added limits (f x).project (f x).on (pool_sums (map f (filter p (take i xs))) limits) ≡ pool_sums (map f (filter p (take (i + 1) xs))) limits
  next-passing up test =
      added-sums limits (map f (filter p (take i xs))) (f x) up
      ∙ ap (λ ls. pool_sums ls limits) (sym (ap (map f) (passed true test) ∙ map-append f (filter p (take i xs)) (x ∷ [])))

  pub next-failing : p x ≡ false → pool_sums (map f (filter p (take i xs))) limits ≡ pool_sums (map f (filter p (take (i + 1) xs))) limits
  next-failing test = ap (λ ys. pool_sums (map f ys) limits) (sym (passed false test ∙ append-nil (filter p (take i xs))))

-- those count of which a load is read
pub next-read : {X : Type 0} (limits : List PoolLimit) (f : X → Option Load) (xs : List X) (i : ℕ) (x : X) → Rise limit_names limits → i < length xs → x ≡ get_or xs i x
    → with_claim limits (f x) (pool_sums (filter_map f (take i xs)) limits) ≡ pool_sums (filter_map f (take (i + 1) xs)) limits
next-read {X} limits f xs i x up within is =
    at (f x) refl ∙ ap (λ ys. pool_sums ys limits) (sym (ap (filter_map f) (take_more xs i x within ∙ ap (λ y. take i xs ++ y ∷ []) (sym is)) ∙ filter_map-append f (take i xs) (x ∷ []))) where
      at : (o : Option Load) → f x ≡ o
          → with_claim limits o (pool_sums (filter_map f (take i xs)) limits) ≡ pool_sums (filter_map f (take i xs) ++ filter_map f (x ∷ [])) limits
      at None none = ap (λ ys. pool_sums ys limits) (sym (ap (λ o. filter_map f (take i xs) ++ cons_option o []) none ∙ append-nil (filter_map f (take i xs))))
      at (Some load) some =
          added-sums limits (filter_map f (take i xs)) load up ∙ ap (λ o. pool_sums (filter_map f (take i xs) ++ cons_option o []) limits) (sym some)

-- ---- none is great

pub are-sums : (limits : List PoolLimit) (loads : List Load) → AreSmall loads → length loads < 2 ^ 63 → AreSums limits (pool_sums loads limits)
are-sums limits loads small few = record { lines = length-map limits (used_under loads); low = low limits } where
  one : (l : PoolLimit) (load : Load) → IsSmall load → on_pool_for l.project l.pool load ≤ 2 ^ 63
  one l load is = omega (arith, adds-most l.project l.pool load, is.on)

  below : (l : PoolLimit) → used_under loads l < 2 ^ 126
  below l =
      let sum = sum_by-le (on_pool_for l.project l.pool) (2 ^ 63) loads (All-weaker IsSmall (λ load. on_pool_for l.project l.pool load ≤ 2 ^ 63) (one l) loads small) in
      omega (arith, sum, few)

  low : (ls : List PoolLimit) → All (λ n. n < 2 ^ 126) (pool_sums loads ls)
  low [] k d within = absurd (omega (arith, within))
  low (l ∷ ls) k d within =
      let there : k < length (l ∷ ls) = omega (arith, within, length-map (l ∷ ls) (used_under loads)) in
      subst (λ n. n < 2 ^ 126) (sym (get_or-map (used_under loads) (l ∷ ls) k l d there)) (below (get_or (l ∷ ls) k l))

-- a table of nothing
pub no-sums : (limits : List PoolLimit) → map (λ (l : PoolLimit). 0) limits ≡ pool_sums [] limits
no-sums limits = refl
