use Rattle.std.proofs.lemmas.Result.{err_from_is_err_and}
use Rattle.journal_keeper.proofs.Told.{quiet_failed, quiet_then, quiet_sound}
use Rattle.journal_keeper.proofs.loading.load_mended.Goals as goal

pub returns-in_err-size-clause-loads : goal.returns-in_err-size-clause-loads
returns-in_err-size-clause-loads g c =
    let p = err_from_is_err_and c.from_residual.result c.from_residual.ensures.1 in
    rw p.1 (quiet_failed (g.D.Disk.disk c.args.disk.now) (g.D.Disk.disk c.settle.new.disk) (g.met.D.Disk.only_now c.args.disk.now) c.settle.ensures.quiet c.args.gate.now p.0)

pub begin-requires-clause-sound : goal.begin-requires-clause-sound
begin-requires-clause-sound g c = quiet_sound (g.D.Disk.disk c.args.disk.now) (g.D.Disk.disk c.settle.new.disk) (g.met.D.Disk.only_now c.args.disk.now) c.settle.ensures.quiet c.args.gate.now c.requires.sound

pub read_on-requires-clause-sound : goal.read_on-requires-clause-sound
read_on-requires-clause-sound g c = quiet_sound (g.D.Disk.disk c.args.disk.now) (g.D.Disk.disk c.settle.new.disk) (g.met.D.Disk.only_now c.args.disk.now) c.settle.ensures.quiet c.args.gate.now c.requires.sound

pub returns-then-size-le1-clause-loads : goal.returns-then-size-le1-clause-loads
returns-then-size-le1-clause-loads g c = quiet_then (g.D.Disk.disk c.args.disk.now) (g.D.Disk.disk c.settle.new.disk) (g.met.D.Disk.only_now c.args.disk.now) c.settle.ensures.quiet (g.D.Disk.disk c.begin.new.disk) c.args.gate.now c.begin.new.gate c.begin.result c.begin.ensures.loads

pub returns-else-size-le1-clause-loads : goal.returns-else-size-le1-clause-loads
returns-else-size-le1-clause-loads g c = quiet_then (g.D.Disk.disk c.args.disk.now) (g.D.Disk.disk c.settle.new.disk) (g.met.D.Disk.only_now c.args.disk.now) c.settle.ensures.quiet (g.D.Disk.disk c.read_on.new.disk) c.args.gate.now c.read_on.new.gate c.read_on.result c.read_on.ensures.loads
