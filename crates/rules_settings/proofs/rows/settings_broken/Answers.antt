use Rattle.row_machine.specs.machine.SettingRules.{row_settings, settings_broken}
use Rattle.rules_refusals.proofs.RowsPut.{rows-put}
use Rattle.rules_refusals.proofs.Saying.{says-as}
use Rattle.rules_settings.proofs.rows.settings_broken.Goals as goal

pub returns : goal.returns
unfolding settings_broken
returns c = says-as c.changes_break.result (rows-put (row_settings c.args.after.now) c.args.changes.now) c.changes_break.ensures
