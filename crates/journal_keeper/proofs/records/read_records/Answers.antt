use Rattle.journal_keeper.proofs.Prefix.{nothing_read, one_read, shorter, all_read, bad_read}
use Rattle.journal_keeper.proofs.records.read_records.Goals as goal

pub loop-behind-init : goal.loop-behind-init
loop-behind-init c = record { reads = nothing_read c.args.file.now c.args.rows.now.entries c.requires.empty c.requires.some; fails = c.requires.fails }

pub returns-in-Err-Why-clause-bad : goal.returns-in-Err-Why-clause-bad
returns-in-Err-Why-clause-bad c = bad_read c.args.file.now c.loop-behind.rest.now c.in-Some.behind.now c.loop-behind.rows.entries c.loop-behind.invariant.reads c.in-Some.ensures (rw c.in-Err-Why.field-0-is at c.in-Err-Why.ensures)

pub loop-behind-preserved : goal.loop-behind-preserved
loop-behind-preserved c = record {
  reads = one_read c.args.file.now c.loop-behind.rest.now c.in-Some.behind.now c.in-Ok.after.now c.loop-behind.rows.entries c.add_commit.new.rows.entries c.in-Ok.changes c.loop-behind.invariant.reads c.in-Some.ensures c.in-Ok.ensures c.in_ok-add_commit-in-Ok.ensures.ok;
  fails = c.add_commit.ensures.fails;
}

pub loop-behind-smaller : goal.loop-behind-smaller
loop-behind-smaller c = shorter c.loop-behind.rest.now c.in-Some.behind.now c.in-Ok.after.now c.in-Ok.changes c.in-Some.ensures c.in-Ok.ensures

pub returns-clause-ok : goal.returns-clause-ok
returns-clause-ok c = all_read c.args.file.now c.loop-behind.rest.now c.loop-behind.rows.entries c.loop-behind.invariant.reads c.in_default.ensures
