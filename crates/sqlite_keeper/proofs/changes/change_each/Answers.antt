use Rattle.std.proofs.Common.{◌≡◌, ℕ, Ok, get_or, rules, arith, subst, ◌∙◌}
use Rattle.sqlite.specs.State.{HasCleanDisk, Executes}
use Rattle.sqlite.specs.Held.{state}
use Rattle.sqlite.proofs.StateLemmas.{survives_then}
use Rattle.sqlite_keeper.specs.Changes.{statement_of, values_of}
use Rattle.sqlite_keeper.proofs.Made.{made-more}
use Rattle.sqlite_keeper.proofs.changes.change_each.Goals as goal

pub changes-preserved : goal.changes-preserved
changes-preserved g c =
    let old = c.args.transaction.now.conn.now in
    let mid = c.changes.transaction.conn.now in
    let now = c.change_one.new.transaction.conn.now in
    let step = c.change_one.ensures in
    let item = c.change-item.result in
    let at : item ≡ get_or c.args.changes.now c.changes.change-index item = search rules in (
      step.same_reference ∙ c.changes.invariant.0,
      survives_then (state g.S.Store old) (state g.S.Store mid) (state g.S.Store now) _ _ (λ _. ⊥) (λ _ db none. none)
          (λ _ db none. none) c.changes.invariant.1 step.survives,
      λ clean begun.
          let early : HasCleanDisk (state g.S.Store mid) = omega (arith, step.survives.clean) in
          let was = c.changes.invariant.2 early begun in
          let ran = c.in_ok-change_one.ensures.runs clean was.2 in (
            made-more g.S.Store c.args.changes.now c.changes.change-index item old mid now c.in_ok-change_one.field-0
                c.changes-test.true was.0
                (subst
                (λ change. Executes (statement_of change) (values_of change) (state g.S.Store mid) (state g.S.Store now)
                (Ok c.in_ok-change_one.field-0)) at ran.0),
            record {
              was_open = λ _. was.1.was_open ran.1.was_open;
              committed = λ _. ran.1.committed_is ∙ was.1.committed ran.1.was_open;
            },
            ran.1.mode,
          ),
    )
