use Rattle.core_reopening.proofs.Contents.{begun-opens, kept-opens, records-open, turned-opens}
use Rattle.core_reopening.proofs.server.daemon_opens_again.Goals as goal

pub returns-clause-records : goal.returns-clause-records
returns-clause-records c = records-open c.kept_rows_open.ensures c.args.daemon.now _ c.view.ensures.rows c.view.ensures.whole c.rows_are_typed.ensures

pub returns-clause-kept : goal.returns-clause-kept
returns-clause-kept c =
    kept-opens c.args.daemon.now (records-open c.kept_rows_open.ensures c.args.daemon.now _ c.view.ensures.rows c.view.ensures.whole c.rows_are_typed.ensures)

pub returns-clause-begun : goal.returns-clause-begun
returns-clause-begun c =
    begun-opens c.args.daemon.now (records-open c.kept_rows_open.ensures c.args.daemon.now _ c.view.ensures.rows c.view.ensures.whole c.rows_are_typed.ensures)

pub returns-clause-turned : goal.returns-clause-turned
returns-clause-turned c =
    turned-opens c.args.daemon.now (records-open c.kept_rows_open.ensures c.args.daemon.now _ c.view.ensures.rows c.view.ensures.whole c.rows_are_typed.ensures)
