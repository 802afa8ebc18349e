use Rattle.std.proofs.Common.{◌≡◌, true, rules}
use Rattle.journal_keeper.specs.Texts.{is_short_commit}
use Rattle.journal_keeper.specs.Keeping.{is_read, is_taken}
use Rattle.journal_keeper.proofs.Written.{both_true}
use Rattle.journal_keeper.proofs.Standing.{not_begun, stands_on_same, loaded_if, commits_sound}
use Rattle.journal_keeper.proofs.Told.{commit_ok, commit_err}
use Rattle.journal_keeper.proofs.taking.take_commit.Goals as goal

pub returns-then-not-is_taken-clause-commits : goal.returns-then-not-is_taken-clause-commits
returns-then-not-is_taken-clause-commits g c base doubts is =
    let d = g.D.Disk.disk c.args.disk.now in
    not_begun d d c.args.gate.now base doubts c.args.changes.now _ (stands_on_same d c.args.gate.now base doubts (g.met.D.Disk.only_now c.args.disk.now) is)

pub returns-clause-ok : goal.returns-clause-ok
returns-clause-ok g c =
    let taken : is_taken c.args.gate.now c.view.result.now ≡ true = search rules in
    let loaded = loaded_if c.args.gate.now (both_true (is_read c.args.gate.now) (is_short_commit c.view.result.now) taken).0 in
    commit_ok (g.D.Disk.disk c.args.disk.now) (g.D.Disk.disk c.commit_to.new.disk) c.args.gate.now c.commit_to.new.gate c.args.changes.now c.commit_to.result loaded c.requires.sound c.commit_to.ensures.commits c.commit_to.ensures.tells

pub returns-clause-err : goal.returns-clause-err
returns-clause-err g c =
    let taken : is_taken c.args.gate.now c.view.result.now ≡ true = search rules in
    let loaded = loaded_if c.args.gate.now (both_true (is_read c.args.gate.now) (is_short_commit c.view.result.now) taken).0 in
    commit_err (g.D.Disk.disk c.args.disk.now) (g.D.Disk.disk c.commit_to.new.disk) c.args.gate.now c.commit_to.new.gate c.args.changes.now c.commit_to.result loaded c.requires.sound c.commit_to.ensures.commits c.commit_to.ensures.tells

pub returns-clause-sound : goal.returns-clause-sound
returns-clause-sound g c =
    let taken : is_taken c.args.gate.now c.view.result.now ≡ true = search rules in
    let loaded = loaded_if c.args.gate.now (both_true (is_read c.args.gate.now) (is_short_commit c.view.result.now) taken).0 in
    commits_sound (g.D.Disk.disk c.args.disk.now) (g.D.Disk.disk c.commit_to.new.disk) c.args.gate.now c.commit_to.new.gate c.args.changes.now c.commit_to.result loaded c.requires.sound c.commit_to.ensures.commits
