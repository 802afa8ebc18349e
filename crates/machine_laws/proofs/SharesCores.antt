-- What of each live operation its calls and its status do not change: its number, and its task but for its calls.
use Rattle.std.proofs.Common.{◌≡◌, ℕ, Bool, true, false, cond, Option, Some, None, List, [], ◌∷◌, refl, sym, ◌∙◌, ap}
use Rattle.std.specs.Prelude.{map}
use Rattle.std.specs.List.{find, filter_map, cons_option}
use Rattle.std.proofs.lemmas.Bool.{eqb-true, eq-eqb}
use Rattle.plain_lists.specs.Members.{Mem, Each}
use Rattle.plain_lists.specs.Edits.{changed_first, dropped}
use Rattle.plain_lists.proofs.Elements.{Each-head, Each-tail}
use Rattle.plain_lists.proofs.EditLemmas.{map-changed, find-changed}
use Rattle.plain_lists.proofs.Searches.{find-some, find-mem}
use Rattle.operations.specs.declared.operation.Operation.{Operation}
use Rattle.operations.specs.declared.status.Status.{Status}
use Rattle.operations.specs.OperationTable.{OperationTable, has_number, live_at, with_work, moved}
use Rattle.row_machine.specs.machine.Task.{Task}
use Rattle.row_machine.specs.machine.State.{State}
use Rattle.row_machine.specs.machine.Claims.{of_live}
use Rattle.row_machine.specs.machine.Step.{first_pending}
use Rattle.row_machine.specs.facts.Whole.{IsWhole}
use Rattle.row_machine.proofs.Moving.{kept-live}

-- a task as it was entered, but for its calls
abbrev pub core_of : Task → Task
core_of task = record task { calls = []; undo = None; done = 0 }

-- the number of an operation, and that of its task
abbrev pub core : Operation Task → ℕ × Task
core o = (o.number, core_of o.work)

-- the cores of the live operations
abbrev pub cores : OperationTable Task → List (ℕ × Task)
cores k = map core k.live

-- ---- lists

-- where the one element that is changed keeps what is read of it, all keep it
pub map-changed_found : {X Y : Type 0} (g : X → Y) (p : X → Bool) (f : X → X) (x : X) (xs : List X)
    → find p xs ≡ Some x → g (f x) ≡ g x → map g (changed_first p f xs) ≡ map g xs
map-changed_found g p f x [] found keeps = refl
map-changed_found {X} {Y} g p f x (y ∷ ys) found keeps = at (p y) found (λ more. map-changed_found g p f x ys more keeps) where
  at : (b : Bool) → cond b (Some y) (find p ys) ≡ Some x → (find p ys ≡ Some x → map g (changed_first p f ys) ≡ map g ys)
      → map g (cond b (f y ∷ ys) (y ∷ changed_first p f ys)) ≡ g y ∷ map g ys
  at true is more = let same : y ≡ x = cc in ap (λ z. g (f z) ∷ map g ys) same ∙ ap (λ z. z ∷ map g ys) keeps ∙ ap (λ z. g z ∷ map g ys) (sym same)
  at false is more = ap (λ zs. g y ∷ zs) (more is)

-- what is read of what is read
pub read-map : {X Y Z : Type 0} (g : X → Y) (h : Y → Option Z) (xs : List X) → filter_map (λ x. h (g x)) xs ≡ filter_map h (map g xs)
read-map g h [] = refl
read-map g h (x ∷ xs) = ap (cons_option (h (g x))) (read-map g h xs)

pub map-map : {X Y Z : Type 0} (g : X → Y) (h : Y → Z) (xs : List X) → map (λ x. h (g x)) xs ≡ map h (map g xs)
map-map g h [] = refl
map-map g h (x ∷ xs) = ap (λ zs. h (g x) ∷ zs) (map-map g h xs)

-- what is dropped by what is read of it
pub dropped-map : {X Y : Type 0} (g : X → Y) (p : Y → Bool) (xs : List X) → dropped p (map g xs) ≡ map g (dropped (λ x. p (g x)) xs)
dropped-map g p [] = refl
dropped-map g p (x ∷ xs) = at (p (g x)) (dropped-map g p xs) where
  at : (b : Bool) → dropped p (map g xs) ≡ map g (dropped (λ x. p (g x)) xs)
      → cond b (map g xs) (g x ∷ dropped p (map g xs)) ≡ map g (cond b xs (x ∷ dropped (λ x. p (g x)) xs))
  at true more = refl
  at false more = ap (λ zs. g x ∷ zs) more

pub map-each : {X Y : Type 0} (f g : X → Y) (xs : List X) → Each (λ x. f x ≡ g x) xs → map f xs ≡ map g xs
map-each f g [] same = refl
map-each f g (x ∷ xs) same = ap (λ y. y ∷ map f xs) (Each-head same) ∙ ap (λ ys. g x ∷ ys) (map-each f g xs (Each-tail same))

-- ---- live operations

-- an operation that is found among the live ones is the live one of its number
pub live-mem : {s : State} (o : Operation Task) → IsWhole s → Mem o s.operations.live → live_at s.operations o.number ≡ Some o
live-mem {s} o h m = find-mem (λ (x : Operation Task). x.number) (has_number o.number) o s.operations.live (kept-live h.operations.kept).distinct
    (λ y is. eqb-true y.number o.number is) m (eq-eqb o.number o.number refl)

pub live-pending : {s : State} (o : Operation Task) → IsWhole s → first_pending s ≡ Some o → live_at s.operations o.number ≡ Some o
live-pending {s} o h is = live-mem o h (find-some _ s.operations.live o is).0

-- what is read of a task but for its calls is the same where the cores are
pub of_cores : {X : Type 0} (read : Task → Option X) → ((task : Task) → read (core_of task) ≡ read task)
    → (s t : State) → cores t.operations ≡ cores s.operations → of_live read t ≡ of_live read s
of_cores {X} read keeps s t same = by t ∙ ap (filter_map (λ (c : ℕ × Task). read c.1)) same ∙ sym (by s) where
  by : (u : State) → of_live read u ≡ filter_map (λ (c : ℕ × Task). read c.1) (cores u.operations)
  by u = each u.operations.live ∙ read-map core (λ (c : ℕ × Task). read c.1) u.operations.live where
    each : (os : List (Operation Task)) → filter_map (λ (o : Operation Task). read o.work) os ≡ filter_map (λ (o : Operation Task). read (core_of o.work)) os
    each [] = refl
    each (o ∷ os) = ap (λ r. cons_option r (filter_map (λ (x : Operation Task). read x.work) os)) (sym (keeps o.work)) ∙ ap (cons_option (read (core_of o.work))) (each os)

-- ---- each change of a live operation that does not end it

pub cores-moved : (n : ℕ) (now : Status) (moment : ℕ) (k : OperationTable Task) → cores (moved n now moment k) ≡ cores k
cores-moved n now moment k = map-changed core (has_number n) (λ o. record o { status = now; updated = moment }) k.live (λ o hit. refl)

pub cores-work : (o : Operation Task) (task : Task) (k : OperationTable Task) → live_at k o.number ≡ Some o → core_of task ≡ core_of o.work
    → cores (with_work o.number task k) ≡ cores k
cores-work o task k live same = map-changed_found core (has_number o.number) (λ x. record x { work = task }) o k.live live (ap (λ c. (o.number, c)) same)

pub cores-taken : (o : Operation Task) (now : Status) (moment : ℕ) (task : Task) (k : OperationTable Task) → live_at k o.number ≡ Some o → core_of task ≡ core_of o.work
    → cores (with_work o.number task (moved o.number now moment k)) ≡ cores k
cores-taken o now moment task k live same =
    cores-work (record o { status = now; updated = moment }) task (moved o.number now moment k)
    (find-changed (has_number o.number) (λ x. record x { status = now; updated = moment }) o k.live live (eq-eqb o.number o.number refl)) same
    ∙ cores-moved o.number now moment k
