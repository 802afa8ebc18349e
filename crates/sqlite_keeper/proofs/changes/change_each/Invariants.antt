use Rattle.std.proofs.Common.{◌≡◌, true, IsTrue, take}
use Rattle.sqlite.specs.State.{HasCleanDisk, KeepsCommit, Survives}
use Rattle.sqlite.specs.Held.{state}
use Rattle.sqlite_keeper.specs.Changes.{Makes}
use Rattle.sqlite_keeper.proofs.changes.change_each.Given as goal

abbrev pub invariant-changes : goal.invariant-changes
invariant-changes g l =
    let old = l.initial.transaction.conn.now in
    let now = l.transaction.conn.now in
    (l.transaction.conn.ghost_name ≡ l.initial.transaction.conn.ghost_name)
    × Survives (state g.S.Store old) (state g.S.Store now) (λ _. ⊥)
    × (HasCleanDisk (state g.S.Store now) → IsTrue old.in_transaction
    → Makes g.S.Store (take l.change-index l.changes) old now × KeepsCommit (state g.S.Store old) (state g.S.Store now)
    × IsTrue now.in_transaction)
