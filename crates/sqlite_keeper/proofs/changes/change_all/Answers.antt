use Rattle.std.proofs.Common.{◌≡◌, IsTrue, OnOk, OnErr, rules, arith, subst}
use Rattle.sqlite.specs.Effect.{Database}
use Rattle.sqlite.specs.State.{HasCleanDisk, Survives}
use Rattle.sqlite.specs.Held.{state}
use Rattle.sqlite_keeper.specs.Changes.{Leaves}
use Rattle.sqlite_keeper.proofs.Made.{of-ok, of-err, leaves-committed, survives-all, undone}
use Rattle.sqlite_keeper.proofs.changes.change_all.Goals as goal

pub returns-clause-all : goal.returns-clause-all
returns-clause-all g c clean =
    let old = c.args.database.now in
    let last = c.change_each.new.transaction.conn.now in
    let end = c.commit.new.self.0 in
    let same : end ≡ c.database-2-1.given.0 = search rules in
    let late : HasCleanDisk (state g.S.Store end) = search rules in
    let early : HasCleanDisk (state g.S.Store last) = omega (arith, c.commit.ensures.survives.clean) in
    subst (λ h. OnOk c.commit.result (Leaves g.S.Store c.args.changes.now old (state g.S.Store h).committed)) same
    (of-ok c.commit.result _ _
    (λ done. leaves-committed g.S.Store c.args.changes.now old c.transaction-transaction.result.conn.now last end
    c.transaction-transaction.ensures.begun c.in_ok-change_each.ensures.made early _ done.1.committed_is)
    (c.commit.ensures.ok late))

pub returns-clause-none : goal.returns-clause-none
returns-clause-none g c clean is_open =
    let old = c.args.database.now in
    let begun = c.transaction-transaction.result.conn.now in
    let last = c.change_each.new.transaction.conn.now in
    let end = c.commit.new.self.0 in
    let same : end ≡ c.database-2-1.given.0 = search rules in
    let late : HasCleanDisk (state g.S.Store end) = search rules in
    let still : IsTrue (state g.S.Store end).is_open = search rules in
    let early : HasCleanDisk (state g.S.Store last) = omega (arith, c.commit.ensures.survives.clean) in
    let inside : IsTrue begun.in_transaction = rw c.transaction-transaction.ensures.begun in
    let alone : IsTrue c.is_autocommit.result = search rules in
    subst
    (λ h. OnErr c.commit.result (((state g.S.Store h).now ≡ (state g.S.Store old).now)
    × ((state g.S.Store h).committed ≡ (state g.S.Store old).committed))) same
    (of-err c.commit.result _ _
    (λ e failed. undone g.S.Store c.args.changes.now old begun last end c.transaction-transaction.ensures.begun
    c.in_ok-change_each.ensures.made e (c.is_autocommit.ensures.settled alone)
    (c.in_ok-change_each.ensures.kept early inside) early still failed)
    (c.commit.ensures.err late))

pub returns-clause-crash : goal.returns-clause-crash
returns-clause-crash g c =
    let old = c.args.database.now in
    let last = c.change_each.new.transaction.conn.now in
    let end = c.commit.new.self.0 in
    let same : end ≡ c.database-2-1.given.0 = search rules in
    subst
    (λ h. Survives (state g.S.Store old) (state g.S.Store h)
    (λ trees. (db : Database) × Leaves g.S.Store c.args.changes.now old db × (trees ≡ db.trees))) same
    (survives-all g.S.Store c.args.changes.now old c.transaction-transaction.result.conn.now last end
    c.transaction-transaction.ensures.begun c.in_ok-change_each.ensures.made c.change_each.ensures.survives
    c.commit.ensures.survives)
