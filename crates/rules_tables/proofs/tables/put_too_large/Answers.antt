use Rattle.row_machine.specs.machine.TableRules.{too_large}
use Rattle.rules_refusals.proofs.RowsPut.{rows-put}
use Rattle.rules_refusals.proofs.Saying.{says-as}
use Rattle.rules_tables.proofs.tables.put_too_large.Goals as goal

pub returns : goal.returns
returns c = says-as c.changes_too_large.result (rows-put too_large c.args.changes.now) c.changes_too_large.ensures
