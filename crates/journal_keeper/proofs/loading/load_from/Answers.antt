use Rattle.std.proofs.Common.{◌∙◌, sym, ap}
use Rattle.std.proofs.lemmas.Result.{err_from_is_err_and}
use Rattle.journal_keeper.specs.Keeping.{mended}
use Rattle.journal_keeper.proofs.Standing.{mended_sound}
use Rattle.journal_keeper.proofs.Told.{mend_then, mend_loads}
use Rattle.journal_keeper.proofs.loading.load_from.Goals as goal

pub returns-in_err-mend-clause-loads : goal.returns-in_err-mend-clause-loads
returns-in_err-mend-clause-loads g c =
    let p = err_from_is_err_and c.from_residual.result c.from_residual.ensures.1 in
    let m = c.mend.ensures in
    rw p.1 (mend_loads (g.D.Disk.disk c.args.disk.now) (g.D.Disk.disk c.mend.new.disk) c.args.gate.now c.mend.new.gate c.requires.sound m.stands (λ e. sym (ap g.D.Disk.disk (m.unread e))) (λ e. c.in_err-mend.ensures.err ∙ e) m.tells p.0 (g.met.D.Disk.only_now c.args.disk.now))

pub load_mended-requires-clause-sound : goal.load_mended-requires-clause-sound
load_mended-requires-clause-sound g c =
    mended_sound (g.D.Disk.disk c.args.disk.now) (g.D.Disk.disk c.mend.new.disk) c.args.gate.now c.mend.new.gate c.requires.sound c.mend.ensures.stands (λ e. c.in_ok-mend.ensures.mended ∙ ap mended e)

pub returns-clause-loads : goal.returns-clause-loads
returns-clause-loads g c =
    let m = c.mend.ensures in
    mend_then (g.D.Disk.disk c.args.disk.now) (g.D.Disk.disk c.mend.new.disk) c.args.gate.now c.mend.new.gate c.requires.sound m.stands (λ e. sym (ap g.D.Disk.disk (m.unread e))) (λ e. c.in_ok-mend.ensures.mended ∙ ap mended e) m.tells (g.D.Disk.disk c.load_mended.new.disk) c.load_mended.new.gate c.load_mended.result c.load_mended.ensures.loads
