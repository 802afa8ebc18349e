-- Live operations under each move: what is read off their tasks, and the one that is found by its number.
use Rattle.std.proofs.Common.{◌≡◌, ℕ, suc, ◌==◌, Bool, true, false, cond, Option, Some, None, List, [], ◌∷◌, ◌++◌, map, length, refl, sym, ◌∙◌, ap, subst}
use Rattle.std.specs.Prelude.{filter}
use Rattle.std.specs.List.{find, filter_map, cons_option}
use Rattle.std.specs.Option.{option_to_list}
use Rattle.std.proofs.lemmas.List.Elements.{filter_map-append}
use Rattle.std.proofs.lemmas.Bool.{eqb-true, eq-eqb}
use Rattle.plain_lists.specs.Members.{Mem, Each}
use Rattle.plain_lists.specs.Puts.{Puts}
use Rattle.plain_lists.specs.Edits.{changed_first, dropped}
use Rattle.plain_lists.proofs.Elements.{Each-cons, Each-head, Each-tail}
use Rattle.plain_lists.proofs.Keys.{Distinct-left}
use Rattle.plain_lists.proofs.Searches.{find-some, find-mem}
use Rattle.plain_lists.proofs.EditLemmas.{dropped-Puts}
use Rattle.plain_lists.proofs.Readings.{read-Puts, read-same}
use Rattle.operations.specs.declared.operation.Operation.{Operation}
use Rattle.operations.specs.declared.operation.OpFault.{OpFault}
use Rattle.operations.specs.declared.status.Status.{Status}
use Rattle.operations.specs.declared.status.Status.TheVariants as status
use Rattle.operations.specs.Statuses.{is_pending}
use Rattle.operations.specs.OperationTable.{has_number, live_at}
use Rattle.host_model.specs.declared.call.HostCall.{HostCall}
use Rattle.row_machine.specs.machine.Task.{Task}
use Rattle.row_machine.specs.machine.State.{State}
use Rattle.row_machine.specs.machine.Claims.{of_live}
use Rattle.row_machine.specs.machine.Operations.{claiming, entered, with_task, moved, handing_out, ended}
use Rattle.row_machine.specs.machine.Step.{first_pending}
use Rattle.row_machine.specs.facts.Whole.{IsWhole}

-- ---- lists: the found element changed

-- each element, and what the found one becomes
pub Each-found : {X : Type 0} (P : X → Type 0) (p : X → Bool) (f : X → X) (x : X) (xs : List X) → find p xs ≡ Some x → (P x → P (f x))
    → Each P xs → Each P (changed_first p f xs)
Each-found P p f x [] e keeps h = h
Each-found P p f x (y ∷ ys) e keeps h = at (p y) e (λ found. Each-found P p f x ys found keeps (Each-tail h)) where
  at : (b : Bool) → cond b (Some y) (find p ys) ≡ Some x → (find p ys ≡ Some x → Each P (changed_first p f ys)) → Each P (cond b (f y ∷ ys) (y ∷ changed_first p f ys))
  at true is more =
      let same : y ≡ x = cc in
      Each-cons P (subst (λ z. P (f z)) (sym same) (keeps (subst P same (Each-head h)))) (Each-tail h)
  at false is more = Each-cons P (Each-head h) (more is)

pub map-found : {X Y : Type 0} (g : X → Y) (p : X → Bool) (f : X → X) (x : X) (xs : List X) → find p xs ≡ Some x → g (f x) ≡ g x
    → map g (changed_first p f xs) ≡ map g xs
map-found g p f x [] e keeps = refl
map-found {X} {Y} g p f x (y ∷ ys) e keeps = at (p y) e (λ found. map-found g p f x ys found keeps) where
  at : (b : Bool) → cond b (Some y) (find p ys) ≡ Some x → (find p ys ≡ Some x → map g (changed_first p f ys) ≡ map g ys)
      → map g (cond b (f y ∷ ys) (y ∷ changed_first p f ys)) ≡ g y ∷ map g ys
  at true is more =
      let same : y ≡ x = cc in
      ap (λ z. z ∷ map g ys) (ap (λ z. g (f z)) same ∙ keeps ∙ sym (ap g same))
  at false is more = ap (λ zs. g y ∷ zs) (more is)

pub read-found : {X Y : Type 0} (h : X → Option Y) (p : X → Bool) (f : X → X) (x : X) (xs : List X) → find p xs ≡ Some x → h (f x) ≡ h x
    → filter_map h (changed_first p f xs) ≡ filter_map h xs
read-found h p f x [] e keeps = refl
read-found {X} {Y} h p f x (y ∷ ys) e keeps = at (p y) e (λ found. read-found h p f x ys found keeps) where
  at : (b : Bool) → cond b (Some y) (find p ys) ≡ Some x → (find p ys ≡ Some x → filter_map h (changed_first p f ys) ≡ filter_map h ys)
      → filter_map h (cond b (f y ∷ ys) (y ∷ changed_first p f ys)) ≡ cons_option (h y) (filter_map h ys)
  at true is more =
      let same : y ≡ x = cc in
      ap (λ o. cons_option o (filter_map h ys)) (ap (λ z. h (f z)) same ∙ keeps ∙ sym (ap h same))
  at false is more = ap (λ zs. cons_option (h y) zs) (more is)

-- how many pass a test
pub count-found : {X : Type 0} (q p : X → Bool) (f : X → X) (x : X) (xs : List X) → find p xs ≡ Some x → q (f x) ≡ q x
    → length (filter q (changed_first p f xs)) ≡ length (filter q xs)
count-found q p f x [] e keeps = refl
count-found {X} q p f x (y ∷ ys) e keeps = at (p y) e (λ found. count-found q p f x ys found keeps) where
  counted : (b : Bool) (z w : X) (zs ws : List X) → length zs ≡ length ws → length (cond b (z ∷ zs) zs) ≡ length (cond b (w ∷ ws) ws)
  counted true z w zs ws same = ap suc same
  counted false z w zs ws same = same

  at : (b : Bool) → cond b (Some y) (find p ys) ≡ Some x → (find p ys ≡ Some x → length (filter q (changed_first p f ys)) ≡ length (filter q ys))
      → length (filter q (cond b (f y ∷ ys) (y ∷ changed_first p f ys))) ≡ length (cond (q y) (y ∷ filter q ys) (filter q ys))
  at true is more =
      let same : y ≡ x = cc in
      ap (λ c. length (cond c (f y ∷ filter q ys) (filter q ys))) (ap (λ z. q (f z)) same ∙ keeps ∙ sym (ap q same))
      ∙ counted (q y) (f y) y (filter q ys) (filter q ys) refl
  at false is more = counted (q y) y y (filter q (changed_first p f ys)) (filter q ys) (more is)

-- the first one changed twice
pub changed-twice : {X : Type 0} (p : X → Bool) (f g : X → X) (xs : List X) → ((x : X) → p (f x) ≡ p x)
    → changed_first p g (changed_first p f xs) ≡ changed_first p (λ x. g (f x)) xs
changed-twice p f g [] keeps = refl
changed-twice {X} p f g (y ∷ ys) keeps = at (p y) refl (changed-twice p f g ys keeps) where
  at : (b : Bool) → p y ≡ b → changed_first p g (changed_first p f ys) ≡ changed_first p (λ x. g (f x)) ys
      → changed_first p g (cond b (f y ∷ ys) (y ∷ changed_first p f ys)) ≡ cond b (g (f y) ∷ ys) (y ∷ changed_first p (λ x. g (f x)) ys)
  at true is more = ap (λ b. cond b (g (f y) ∷ ys) (f y ∷ changed_first p g ys)) (keeps y ∙ is)
  at false is more = ap (λ b. cond b (g y ∷ changed_first p f ys) (y ∷ changed_first p g (changed_first p f ys))) is ∙ ap (λ zs. y ∷ zs) more

-- what is left of a map where the dropped ones match
pub map-dropped : {X Y : Type 0} (g : X → Y) (p : X → Bool) (q : Y → Bool) (xs : List X) → ((x : X) → q (g x) ≡ p x) → dropped q (map g xs) ≡ map g (dropped p xs)
map-dropped g p q [] same = refl
map-dropped {X} {Y} g p q (y ∷ ys) same = ap (λ b. cond b (map g ys) (g y ∷ dropped q (map g ys))) (same y) ∙ at (p y) (map-dropped g p q ys same) where
  at : (b : Bool) → dropped q (map g ys) ≡ map g (dropped p ys) → cond b (map g ys) (g y ∷ dropped q (map g ys)) ≡ map g (cond b ys (y ∷ dropped p ys))
  at true more = refl
  at false more = ap (λ zs. g y ∷ zs) more

-- ---- the operation that is found by its number

pub live-mem : (s : State) (n : ℕ) (o : Operation Task) → live_at s.operations n ≡ Some o → Mem o s.operations.live
live-mem s n o e = (find-some (has_number n) s.operations.live o e).0

pub live-number : (s : State) (n : ℕ) (o : Operation Task) → live_at s.operations n ≡ Some o → o.number ≡ n
live-number s n o e = eqb-true o.number n (find-some (has_number n) s.operations.live o e).1

-- one that is among the live ones is found by its number
pub mem-live : (s : State) (o : Operation Task) → IsWhole s → Mem o s.operations.live → live_at s.operations o.number ≡ Some o
mem-live s o h m =
    find-mem (λ (x : Operation Task). x.number) (has_number o.number) o s.operations.live
    (Distinct-left (λ (x : Operation Task). x.number) s.operations.live s.operations.ended h.operations.kept.numbered.distinct)
    (λ y is. eqb-true y.number o.number is) m (eq-eqb o.number o.number refl)

pending : (now : Status) → is_pending now ≡ true → now ≡ status.Pending
pending status.Pending e = refl
pending status.Running e = cc
pending status.Cancelling e = cc
pending status.Success e = cc
pending status.Failure e = cc
pending status.Cancelled e = cc

-- the first that waits is live, and waits
pub first-live : (s : State) (o : Operation Task) → IsWhole s → first_pending s ≡ Some o → (live_at s.operations o.number ≡ Some o) × (o.status ≡ status.Pending)
first-live s o h e =
    let found = find-some (λ (x : Operation Task). is_pending x.status) s.operations.live o e in
    (mem-live s o h found.0, pending o.status found.1)

-- ---- another task, or another status

-- what is read of the tasks
pub task-reads : {X : Type 0} (read : Task → Option X) (s : State) (n : ℕ) (o : Operation Task) (task : Task) → live_at s.operations n ≡ Some o
    → read task ≡ read o.work → of_live read (with_task n task s) ≡ of_live read s
task-reads read s n o task e same = read-found (λ (x : Operation Task). read x.work) (has_number n) (λ x. record x { work = task }) o s.operations.live e same

pub task-each : (P : Task → Type 0) (s : State) (n : ℕ) (o : Operation Task) (task : Task) → live_at s.operations n ≡ Some o
    → (P o.work → P task) → Each (λ (x : Operation Task). P x.work) s.operations.live → Each (λ (x : Operation Task). P x.work) (with_task n task s).operations.live
task-each P s n o task e keeps h = Each-found (λ (x : Operation Task). P x.work) (has_number n) (λ x. record x { work = task }) o s.operations.live e keeps h

pub task-map : {X : Type 0} (g : Operation Task → X) (s : State) (n : ℕ) (o : Operation Task) (task : Task) → live_at s.operations n ≡ Some o
    → g (record o { work = task }) ≡ g o → map g (with_task n task s).operations.live ≡ map g s.operations.live
task-map g s n o task e same = map-found g (has_number n) (λ (x : Operation Task). record x { work = task }) o s.operations.live e same

-- a status leaves all tasks
pub moved-reads : {X : Type 0} (read : Task → Option X) (s : State) (n : ℕ) (now : Status) (moment : ℕ) → of_live read (moved n now moment s) ≡ of_live read s
moved-reads {X} read s n now moment = leaves s.operations.live where
  leaves : (os : List (Operation Task)) → filter_map (λ (x : Operation Task). read x.work) (changed_first (has_number n) (λ x. record x { status = now; updated = moment }) os) ≡ filter_map (λ (x : Operation Task). read x.work) os
  leaves [] = refl
  leaves (o ∷ os) = at (o.number == n) (leaves os) where
    at : (b : Bool) → filter_map (λ (x : Operation Task). read x.work) (changed_first (has_number n) (λ x. record x { status = now; updated = moment }) os) ≡ filter_map (λ (x : Operation Task). read x.work) os
        → filter_map (λ (x : Operation Task). read x.work) (cond b (record o { status = now; updated = moment } ∷ os) (o ∷ changed_first (has_number n) (λ x. record x { status = now; updated = moment }) os))
        ≡ cons_option (read o.work) (filter_map (λ (x : Operation Task). read x.work) os)
    at true more = refl
    at false more = ap (cons_option (read o.work)) more

-- ---- the first call handed out: a status and a task

-- the operation as it then stands
abbrev pub handed : Operation Task → List HostCall → ℕ → Operation Task
handed o rest moment = record o { status = status.Running; updated = moment; work = handing_out o.work rest }

-- the state after it
abbrev pub taken_state : State → Operation Task → List HostCall → ℕ → State
taken_state s o rest moment = with_task o.number (handing_out o.work rest) (moved o.number status.Running moment s)

-- its live operations: one change of the one of this number
pub taken-live : (s : State) (o : Operation Task) (rest : List HostCall) (moment : ℕ)
    → (taken_state s o rest moment).operations.live
    ≡ changed_first (has_number o.number) (λ (x : Operation Task). record x { status = status.Running; updated = moment; work = handing_out o.work rest }) s.operations.live
taken-live s o rest moment = changed-twice (has_number o.number) _ _ s.operations.live (λ x. refl)

pub taken-reads : {X : Type 0} (read : Task → Option X) (s : State) (o : Operation Task) (rest : List HostCall) (moment : ℕ)
    → live_at s.operations o.number ≡ Some o → read (handing_out o.work rest) ≡ read o.work → of_live read (taken_state s o rest moment) ≡ of_live read s
taken-reads read s o rest moment e same =
    ap (filter_map (λ (x : Operation Task). read x.work)) (taken-live s o rest moment)
    ∙ read-found (λ (x : Operation Task). read x.work) (has_number o.number) (λ x. record x { status = status.Running; updated = moment; work = handing_out o.work rest }) o s.operations.live e same

pub taken-each : (P : Operation Task → Type 0) (s : State) (o : Operation Task) (rest : List HostCall) (moment : ℕ)
    → live_at s.operations o.number ≡ Some o → (P o → P (handed o rest moment)) → Each P s.operations.live → Each P (taken_state s o rest moment).operations.live
taken-each P s o rest moment e keeps h =
    subst (Each P) (sym (taken-live s o rest moment))
    (Each-found P (has_number o.number) (λ (x : Operation Task). record x { status = status.Running; updated = moment; work = handing_out o.work rest }) o s.operations.live e keeps h)

pub taken-map : {X : Type 0} (g : Operation Task → X) (s : State) (o : Operation Task) (rest : List HostCall) (moment : ℕ)
    → live_at s.operations o.number ≡ Some o → g (handed o rest moment) ≡ g o → map g (taken_state s o rest moment).operations.live ≡ map g s.operations.live
taken-map g s o rest moment e same =
    ap (map g) (taken-live s o rest moment)
    ∙ map-found g (has_number o.number) (λ (x : Operation Task). record x { status = status.Running; updated = moment; work = handing_out o.work rest }) o s.operations.live e same

-- ---- entering

one-read : {X : Type 0} (o : Option X) → cons_option o [] ≡ option_to_list o
one-read None = refl
one-read (Some x) = refl

pub claiming-reads : {X : Type 0} (read : Task → Option X) (s : State) (task : Task) (moment : ℕ)
    → of_live read (claiming s task moment) ≡ of_live read s ++ option_to_list (read task)
claiming-reads read s task moment = filter_map-append (λ (x : Operation Task). read x.work) s.operations.live _ ∙ ap (λ xs. of_live read s ++ xs) (one-read (read task))

pub entered-reads : {X : Type 0} (read : Task → Option X) (s : State) (task : Task) (moment : ℕ)
    → of_live read (entered s task moment) ≡ of_live read s ++ option_to_list (read task)
unfolding entered
entered-reads read s task moment = claiming-reads read s task moment

-- ---- ends

-- the one of the number is out
pub ended-live : (s : State) (n : ℕ) (now : Status) (why : OpFault) (moment : ℕ) (o : Operation Task) → live_at s.operations n ≡ Some o
    → Puts o (ended n now why moment s).operations.live s.operations.live
ended-live s n now why moment o e = dropped-Puts (has_number n) o s.operations.live e

-- what was read of it is out, where something was
pub ended-reads : {X : Type 0} (read : Task → Option X) (s : State) (n : ℕ) (now : Status) (why : OpFault) (moment : ℕ) (o : Operation Task) (x : X)
    → live_at s.operations n ≡ Some o → read o.work ≡ Some x → Puts x (of_live read (ended n now why moment s)) (of_live read s)
ended-reads read s n now why moment o x e is = read-Puts (λ (y : Operation Task). read y.work) (ended-live s n now why moment o e) is

pub ended-reads_same : {X : Type 0} (read : Task → Option X) (s : State) (n : ℕ) (now : Status) (why : OpFault) (moment : ℕ) (o : Operation Task)
    → live_at s.operations n ≡ Some o → read o.work ≡ None → of_live read s ≡ of_live read (ended n now why moment s)
ended-reads_same read s n now why moment o e is = read-same (λ (y : Operation Task). read y.work) (ended-live s n now why moment o e) is
