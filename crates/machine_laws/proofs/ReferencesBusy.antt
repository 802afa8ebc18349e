-- An instance that one live operation keeps busy, no other does.
use Rattle.std.proofs.Common.{◌≡◌, ℕ, ◌+◌, ◌≤◌, Bool, true, false, cond, Some, List, [], ◌∷◌, length, ap, ◌∙◌, arith}
use Rattle.std.specs.List.{filter}
use Rattle.plain_lists.specs.Members.{Mem, Each}
use Rattle.plain_lists.specs.Puts.{Puts}
use Rattle.plain_lists.specs.Puts.Puts.{here, later}
use Rattle.plain_lists.specs.Edits.{dropped}
use Rattle.plain_lists.proofs.EditLemmas.{dropped-Puts}
use Rattle.operations.specs.declared.operation.Operation.{Operation}
use Rattle.operations.specs.OperationTable.{has_number, live_at}
use Rattle.row_machine.specs.machine.Task.{Task}
use Rattle.row_machine.specs.machine.State.{State}
use Rattle.row_machine.specs.machine.Holders.{keeps_busy}
use Rattle.row_machine.specs.facts.Whole.{IsWhole}
use Rattle.machine_laws.proofs.ReferencesUnused.{Mem-filter}
use Rattle.machine_laws.proofs.ExpansionsApart.{fails-by}

-- one more that passes
filter-more : {X : Type 0} (p : X → Bool) {x : X} {xs ys : List X} → Puts x xs ys → p x ≡ true
    → length (filter p ys) ≡ length (filter p xs) + 1
filter-more p {x} (here {rest = xs}) e = ap (λ b. length (cond b (x ∷ filter p xs) (filter p xs))) e ∙ omega arith
filter-more {X} p (later {other = y} {rest = xs} {whole = ys} put) e = at (p y) (filter-more p put e) where
  at : (b : Bool) → length (filter p ys) ≡ length (filter p xs) + 1
      → length (cond b (y ∷ filter p ys) (filter p ys)) ≡ length (cond b (y ∷ filter p xs) (filter p xs)) + 1
  at true more = omega arith
  at false more = more

length-some : {X : Type 0} (x : X) (xs : List X) → Mem x xs → 1 ≤ length xs
length-some x [] m = absurd m
length-some x (y ∷ ys) m = omega arith

-- the other live operations
abbrev pub others : State → Operation Task → List (Operation Task)
others s o = dropped (has_number o.number) s.operations.live

pub busy-alone : {s : State} {o : Operation Task} → IsWhole s → live_at s.operations o.number ≡ Some o
    → (project name : List ℕ)
    → keeps_busy project name o.work ≡ true → Each (λ x. keeps_busy project name x.work ≡ false) (others s o)
busy-alone {s} {o} h live project name busy = record { at = λ x m. fails-by (keeps_busy project name x.work) (λ also. twice x m also) } where
  test : Operation Task → Bool
  test y = keeps_busy project name y.work

  twice : (x : Operation Task) → Mem x (others s o) → test x ≡ true → ⊥
  twice x m also =
      let more = filter-more test (dropped-Puts (has_number o.number) o s.operations.live live) busy in
      let one = length-some x (filter test (others s o)) (Mem-filter test x (others s o) m also) in
      let once : length (filter test s.operations.live) ≤ 1 = h.operations.busy project name in
      omega arith
