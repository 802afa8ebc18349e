use Rattle.std.proofs.Common.{◌≡◌, ◌∙◌, List, ℕ, length, ap, sym, subst}
use Rattle.std.specs.Prelude.{IfSome}
use Rattle.std.proofs.lemmas.Result.{err_from_is_err_and}
use Rattle.journal_keeper.proofs.Told.{quiet_failed}
use Rattle.journal_keeper.proofs.Begun.{read_done}
use Rattle.journal_keeper.proofs.loading.read_on.Goals as goal

pub returns-in_err-file-clause-loads : goal.returns-in_err-file-clause-loads
returns-in_err-file-clause-loads g c =
    let p = err_from_is_err_and c.from_residual.result c.from_residual.ensures.1 in
    rw p.1 (quiet_failed (g.D.Disk.disk c.args.disk.now) (g.D.Disk.disk c.read_file.new.disk) (g.met.D.Disk.only_now c.args.disk.now) c.read_file.ensures.quiet c.args.gate.now p.0)

pub returns-in-Ok-clause-loads : goal.returns-in-Ok-clause-loads
returns-in-Ok-clause-loads g c =
    let old = g.D.Disk.disk c.args.disk.now in
    let bytes = subst (λ (l : List ℕ). IfSome old.contents (λ file. l ≡ file)) (sym c.deref.ensures.value) c.in_ok-file.ensures.bytes in
    let found = c.in-Ok.ensures.ok in
    rw c.read_gate.ensures (read_done old (g.D.Disk.disk c.read_file.new.disk) (g.met.D.Disk.only_now c.args.disk.now) c.read_file.ensures.quiet c.args.size c.requires.settled c.deref.result.now bytes (ap length c.deref.ensures.value ∙ c.in_ok-file.ensures.length) c.requires.limit
    c.in-Ok.place c.in-Ok.entries found.0 found.1 found.2 c.args.gate.now c.requires.mended c.requires.sound)

pub returns-in-Err-NoMemory-clause-loads : goal.returns-in-Err-NoMemory-clause-loads
returns-in-Err-NoMemory-clause-loads g c = quiet_failed (g.D.Disk.disk c.args.disk.now) (g.D.Disk.disk c.read_file.new.disk) (g.met.D.Disk.only_now c.args.disk.now) c.read_file.ensures.quiet c.args.gate.now _

pub returns-in-Err-Why-clause-loads : goal.returns-in-Err-Why-clause-loads
returns-in-Err-Why-clause-loads g c = quiet_failed (g.D.Disk.disk c.args.disk.now) (g.D.Disk.disk c.read_file.new.disk) (g.met.D.Disk.only_now c.args.disk.now) c.read_file.ensures.quiet c.args.gate.now _
