use Rattle.std.proofs.Common.{List, sym, subst}
use Rattle.record_keeper.specs.Entries.{IsOrderedEntries}
use Rattle.size_values.specs.declared.entry.Entry.{Entry}
use Rattle.std.proofs.lemmas.Result.{err_from_is_err_and}
use Rattle.journal_keeper.proofs.Begun.{begin_failed, begin_done, none_ordered}
use Rattle.journal_keeper.proofs.loading.begin.Goals as goal

pub returns-in_err-write_through-clause-loads : goal.returns-in_err-write_through-clause-loads
returns-in_err-write_through-clause-loads g c =
    let p = err_from_is_err_and c.from_residual.result c.from_residual.ensures.1 in
    let e = c.write_through.ensures in
    rw (p.1, c.first_gate.ensures) (begin_failed (g.D.Disk.disk c.args.disk.now) (g.D.Disk.disk c.write_through.new.disk) c.args.size c.requires.settled c.requires.short c.requires.stays e.moments e.tells e.stays e.crash c.args.gate.now p.0 c.requires.mended c.requires.sound)

pub returns-clause-loads : goal.returns-clause-loads
returns-clause-loads g c =
    let e = c.in_ok-write_through.ensures in
    begin_done (g.D.Disk.disk c.args.disk.now) (g.D.Disk.disk c.write_through.new.disk) c.args.size c.requires.settled c.requires.short c.requires.stays c.write_through.ensures.moments e.written e.durable c.write_through.ensures.tells c.args.gate.now c.new.result c.new.ensures c.requires.mended

pub returns-clause-ordered : goal.returns-clause-ordered
returns-clause-ordered g c = subst (λ (l : List Entry). IsOrderedEntries l) (sym c.new.ensures) none_ordered
