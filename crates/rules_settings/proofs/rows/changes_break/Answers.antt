use Rattle.std.proofs.Common.{[], ◌∷◌}
use Rattle.row_machine.specs.machine.Changes.{rows_put}
use Rattle.row_machine.specs.machine.SettingRules.{row_settings}
use Rattle.plain_lists.specs.Firsts.{first_of}
use Rattle.rules_refusals.proofs.Saying.{refuses-here, free-next}
use Rattle.rules_settings.proofs.rows.changes_break.Goals as goal

pub returns-in-Err : goal.returns-in-Err
returns-in-Err c =
    refuses-here (λ change. first_of (row_settings c.args.view.now) (rows_put (change ∷ []))) c.args.changes.now c.loop-change.change-index c.change-item.result c.in-Err.why
    c.loop-change-test.true c.change-item.is c.loop-change.invariant c.in-Err.ensures

pub loop-change-preserved : goal.loop-change-preserved
loop-change-preserved c =
    free-next (λ change. first_of (row_settings c.args.view.now) (rows_put (change ∷ []))) c.args.changes.now c.loop-change.change-index c.change-item.result
    c.loop-change-test.true c.change-item.is c.loop-change.invariant c.in_default.ensures
