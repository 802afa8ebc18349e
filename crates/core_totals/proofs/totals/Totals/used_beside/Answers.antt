use Rattle.rules_limits.proofs.Unshared.{shares-beside}
use Rattle.core_totals.specs.Alone.{all_beside}
use Rattle.core_totals.proofs.totals.Totals.used_beside.Goals as goal

pub used_beside-requires-clause-totals : goal.used_beside-requires-clause-totals
used_beside-requires-clause-totals c = c.requires.totals.amounts

pub used_beside-requires-2-clause-totals : goal.used_beside-requires-2-clause-totals
used_beside-requires-2-clause-totals c = c.requires.totals.pools

pub returns-clause-serves : goal.returns-clause-serves
returns-clause-serves c =
    let s = c.args.view.now in
    let share = c.args.share.now in
    shares-beside s.projects c.args.name.now (record { amounts = c.in_ok-amounts.amounts; on_pool = c.in_ok-on_pool.on_pool })
    (all_beside s c.args.name.now share.on.pool) share c.in_ok-amounts.ensures.serves c.in_ok-on_pool.ensures.serves

pub returns-clause-totals : goal.returns-clause-totals
returns-clause-totals c = record { amounts = c.used_beside.ensures.totals; pools = c.used_beside-2.ensures.totals }

pub returns-in_err-amounts-clause-totals : goal.returns-in_err-amounts-clause-totals
returns-in_err-amounts-clause-totals c = record { amounts = c.used_beside.ensures.totals; pools = c.requires.totals.pools }

pub returns-in_err-on_pool-clause-totals : goal.returns-in_err-on_pool-clause-totals
returns-in_err-on_pool-clause-totals c = record { amounts = c.used_beside.ensures.totals; pools = c.used_beside-2.ensures.totals }
