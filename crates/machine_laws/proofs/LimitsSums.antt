-- Usage as a sum over instances, volumes and live operations.
use Rattle.std.proofs.Common.{◌≡◌, ℕ, ◌+◌, ◌≤◌, Bool, cond, Option, Some, None, List, [], ◌∷◌, ◌++◌, refl, ◌∙◌, ap, arith}
use Rattle.std.specs.Prelude.{map}
use Rattle.std.specs.List.{find, sum_by}
use Rattle.std.specs.Option.{option_map_or}
use Rattle.std.proofs.lemmas.List.Sums.{sum_by-append, sum_by-cons}
use Rattle.plain_lists.specs.Edits.{dropped, replaced, changed_first, inserted}
use Rattle.plain_lists.proofs.PutsLemmas.{sum_by-Puts}
use Rattle.plain_lists.proofs.EditLemmas.{changed-Puts, inserted-Puts, dropped-Puts, dropped-none}
use Rattle.plain_lists.proofs.Readings.{sum_by-read}
use Rattle.plain_lists.proofs.Searches.{none-any, find-none, find-any}
use Rattle.operations.specs.declared.operation.Operation.{Operation}
use Rattle.records.specs.declared.rows.Volume.{Volume}
use Rattle.records.specs.declared.rows.Instance.{Instance}
use Rattle.row_machine.specs.machine.Task.{Task}
use Rattle.row_machine.specs.machine.State.{State}
use Rattle.row_machine.specs.machine.Claims.{of_live}
use Rattle.row_machine.specs.machine.Usage.{loads, instance_load, volume_load, claim_load}
use Rattle.machine_laws.proofs.Measures.{Measure, measured, used_by}

-- ---- lists

sum_by-map : {X Y : Type 0} (g : X → Y) (f : Y → ℕ) (xs : List X) → sum_by f (map g xs) ≡ sum_by (λ x. f (g x)) xs
sum_by-map g f [] = refl
sum_by-map g f (x ∷ xs) = omega (arith, sum_by-cons f (g x) (map g xs), sum_by-cons (λ y. f (g y)) x xs, sum_by-map g f xs)

-- one in place of the one that is found
pub sum-instead : {X : Type 0} (f : X → ℕ) (p before : X → Bool) (x old : X) (xs : List X) → find p xs ≡ Some old
    → sum_by f (replaced p before x xs) + f old ≡ f x + sum_by f xs
sum-instead {X} f p before x old xs found =
    let moved = changed-Puts p (λ _. x) old xs found in
    let e : sum_by f (replaced p before x xs) ≡ sum_by f (changed_first p (λ _. x) xs) =
    ap (λ b. sum_by f (cond b (changed_first p (λ _. x) xs) (inserted before x xs))) (find-any p xs old found) in
    omega (arith, e, sum_by-Puts f moved.1.0, sum_by-Puts f moved.1.1)

-- one more
pub sum-more : {X : Type 0} (f : X → ℕ) (p before : X → Bool) (x : X) (xs : List X) → find p xs ≡ None
    → sum_by f (replaced p before x xs) ≡ f x + sum_by f xs
sum-more {X} f p before x xs none =
    ap (λ b. sum_by f (cond b (changed_first p (λ _. x) xs) (inserted before x xs))) (none-any p xs (find-none p xs none))
    ∙ sum_by-Puts f (inserted-Puts before x xs)

-- one that is put adds itself at most
pub sum-put : {X : Type 0} (f : X → ℕ) (p before : X → Bool) (x : X) (xs : List X) → sum_by f (replaced p before x xs) ≤ f x + sum_by f xs
sum-put {X} f p before x xs = at (find p xs) refl where
  at : (found : Option X) → find p xs ≡ found → sum_by f (replaced p before x xs) ≤ f x + sum_by f xs
  at None is = let e = sum-more f p before x xs is in omega arith
  at (Some old) is = let e = sum-instead f p before x old xs is in omega arith

pub sum-dropped : {X : Type 0} (f : X → ℕ) (p : X → Bool) (xs : List X) → sum_by f (dropped p xs) ≤ sum_by f xs
sum-dropped {X} f p xs = at (find p xs) refl where
  at : (found : Option X) → find p xs ≡ found → sum_by f (dropped p xs) ≤ sum_by f xs
  at None is = let e = ap (sum_by f) (dropped-none p xs (none-any p xs (find-none p xs is))) in omega arith
  at (Some x) is = let e = sum_by-Puts f (dropped-Puts p x xs is) in omega arith

-- ---- usage

-- what instances, volumes and an operation count for in a project, by one measure
abbrev pub instance_part : State → List ℕ → Measure → Instance → ℕ
instance_part s project k i = measured project k (instance_load s i)

abbrev pub volume_part : List ℕ → Measure → Volume → ℕ
volume_part project k v = measured project k (volume_load v)

abbrev pub claim_part : State → List ℕ → Measure → Operation Task → ℕ
claim_part s project k o = option_map_or (measured project k) (claim_load s o.work) 0

pub used-split : (s : State) (project : List ℕ) (k : Measure)
    → used_by s project k ≡ sum_by (instance_part s project k) s.instances + sum_by (volume_part project k) s.volumes + sum_by (claim_part s project k) s.operations.live
unfolding loads
used-split s project k =
    sum_by-append (measured project k) (map (instance_load s) s.instances ++ map volume_load s.volumes) (of_live (claim_load s) s)
    ∙ ap (λ n. n + sum_by (measured project k) (of_live (claim_load s) s)) (sum_by-append (measured project k) (map (instance_load s) s.instances) (map volume_load s.volumes))
    ∙ ap (λ n. n + sum_by (measured project k) (map volume_load s.volumes) + sum_by (measured project k) (of_live (claim_load s) s)) (sum_by-map (instance_load s) (measured project k) s.instances)
    ∙ ap (λ n. sum_by (instance_part s project k) s.instances + n + sum_by (measured project k) (of_live (claim_load s) s)) (sum_by-map volume_load (measured project k) s.volumes)
    ∙ ap (λ n. sum_by (instance_part s project k) s.instances + sum_by (volume_part project k) s.volumes + n)
    (sum_by-read (λ (o : Operation Task). claim_load s o.work) (measured project k) s.operations.live)
