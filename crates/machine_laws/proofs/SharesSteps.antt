-- Held shares while operations go on: they are read off what calls and statuses leave.
use Rattle.std.proofs.Common.{◌≡◌, ℕ, List, [], ◌∷◌, ◌++◌, refl, sym, ◌∙◌, ap}
use Rattle.std.specs.Prelude.{map}
use Rattle.std.proofs.lemmas.List.{map-append}
use Rattle.plain_lists.specs.Members.{Each}
use Rattle.plain_lists.specs.Edits.{dropped}
use Rattle.operations.specs.declared.operation.Operation.{Operation}
use Rattle.operations.specs.OperationTable.{OperationTable, has_number}
use Rattle.row_machine.specs.machine.Task.{Task}
use Rattle.reservations.specs.declared.books.Hold.{Hold}
use Rattle.row_machine.specs.machine.State.{State}
use Rattle.row_machine.specs.machine.Claims.{share_of, amounts_of_instance, part_of_share, part_of_instance}
use Rattle.row_machine.specs.machine.Operations.{project_of_task, is_held_by, entered}
use Rattle.row_machine.specs.facts.Whole.{held_by}
use Rattle.machine_laws.proofs.SharesAlike.{HoldsAlike}
use Rattle.machine_laws.proofs.SharesCores.{core, cores, map-map, map-each, dropped-map}

-- each live operation holds its share by the rows as they stand
abbrev pub AreHeld : State → Type 0
AreHeld s = s.held ≡ map (held_by s) s.operations.live

-- what is held by a core
abbrev pub held_in : State → ℕ × Task → Hold
held_in s c = record { op = c.0; project = project_of_task c.1; share = share_of s c.1; part = part_of_share s c.1 }

-- the share is read off the core
core-held : (s : State) (o : Operation Task) → held_by s o ≡ held_in s (core o)
unfolding share_of part_of_share
core-held s o = refl

-- and so is what both hold alike
pub alike-held : (s t : State) (op : ℕ) (task : Task) → HoldsAlike s t task
    → held_in t (op, task) ≡ held_in s (op, task)
alike-held s t op task h = λ i. record { op = op; project = project_of_task task; share = h.share i; part = h.part i }

pub held-cores : (s : State) (os : List (Operation Task)) → map (held_by s) os ≡ map (held_in s) (map core os)
held-cores s os = map-each (held_by s) (λ o. held_in s (core o)) os (record { at = λ o m. core-held s o }) ∙ map-map core (held_in s) os

-- the cores are the same, and each task has the same share
pub held-still : (s t : State) → t.held ≡ s.held → cores t.operations ≡ cores s.operations → ((task : Task) → HoldsAlike s t task)
    → AreHeld s → AreHeld t
held-still s t held same shares h =
    held ∙ h ∙ held-cores s s.operations.live ∙ sym (ap (map (held_in s)) same)
    ∙ sym (map-each (held_in t) (held_in s) (cores t.operations) (record { at = λ c m. alike-held s t c.0 c.1 (shares c.1) }))
    ∙ sym (held-cores t t.operations.live)

-- one ended, and the others have the same shares
pub held-ended : (s t : State) (n : ℕ) → t.held ≡ dropped (is_held_by n) s.held → t.operations.live ≡ dropped (has_number n) s.operations.live
    → Each (λ (x : Operation Task). HoldsAlike s t x.work) (dropped (has_number n) s.operations.live)
    → AreHeld s → AreHeld t
held-ended s t n held live shares h =
    held ∙ ap (dropped (is_held_by n)) h ∙ dropped-map (held_by s) (is_held_by n) s.operations.live
    ∙ sym (map-each (held_by t) (held_by s) (dropped (has_number n) s.operations.live)
    (record { at = λ o m. alike-held s t o.number o.work (shares.at o m) }))
    ∙ sym (ap (map (held_by t)) live)

-- one more holds its share from its beginning
pub held-entered : (s : State) (task : Task) (moment : ℕ) → AreHeld s → AreHeld (entered s task moment)
unfolding entered share_of amounts_of_instance part_of_share part_of_instance
held-entered s task moment h =
    ap (λ held. held ++ record { op = s.operations.next; project = project_of_task task; share = share_of s task; part = part_of_share s task } ∷ []) h
    ∙ sym (map-append (held_by s) s.operations.live _)

-- what statuses and notices leave
pub held-powers : (s : State) (powers : List _) → AreHeld s → AreHeld (record s { powers = powers })
unfolding share_of amounts_of_instance part_of_share part_of_instance
held-powers s powers h = h

pub held-notices : (s : State) (notices : List _) (next : ℕ) → AreHeld s → AreHeld (record s { notices = notices; next_notice = next })
unfolding share_of amounts_of_instance part_of_share part_of_instance
held-notices s notices next h = h

-- the share where rows are the same
pub share-rows : (s : State) (k : OperationTable Task) (task : Task) → HoldsAlike s (record s { operations = k }) task
unfolding share_of amounts_of_instance part_of_share part_of_instance
share-rows s k task = record { share = refl; part = refl }
