use Rattle.std.proofs.Common.{subst}
use Rattle.std.proofs.lemmas.Result.{err_from_is_err_and}
use Rattle.journal_keeper.specs.Keeping.{Stands, IsSound}
use Rattle.journal_keeper.specs.declared.gate.Gate.{Gate}
use Rattle.journal_keeper.proofs.Standing.{stands_sound, sound_for, not_begun, mended_then}
use Rattle.journal_keeper.proofs.commits.commit_to.Goals as goal

pub returns-in_err-mend-clause-commits : goal.returns-in_err-mend-clause-commits
returns-in_err-mend-clause-commits g c base doubts is =
    let p = err_from_is_err_and c.from_residual.result c.from_residual.ensures.1 in
    rw p.1 (not_begun (g.D.Disk.disk c.args.disk.now) (g.D.Disk.disk c.mend.new.disk) c.mend.new.gate base doubts c.args.changes.now p.0 (c.mend.ensures.stands base doubts is))

pub add_record-requires-clause-sound : goal.add_record-requires-clause-sound
add_record-requires-clause-sound g c =
    let mid = g.D.Disk.disk c.mend.new.disk in
    let s = sound_for (g.D.Disk.disk c.args.disk.now) c.args.gate.now c.requires.loaded c.requires.sound in
    subst (λ (x : Gate). IsSound mid x) c.in-Closed.is (stands_sound mid c.mend.new.gate s.base s.doubts (c.mend.ensures.stands s.base s.doubts s.stands).stands)

pub returns-clause-commits : goal.returns-clause-commits
returns-clause-commits g c base doubts is =
    let mid = g.D.Disk.disk c.mend.new.disk in
    let first = c.mend.ensures.stands base doubts is in
    let closed = subst (λ (x : Gate). Stands mid x base doubts) c.in-Closed.is first.stands in
    mended_then (g.D.Disk.disk c.args.disk.now) mid (g.D.Disk.disk c.add_record.new.disk) c.mend.new.gate c.add_record.new.gate base doubts c.args.changes.now c.add_record.result c.mend.ensures.tells first (c.add_record.ensures.commits base doubts closed)
