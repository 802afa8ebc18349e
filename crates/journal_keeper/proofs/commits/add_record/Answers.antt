use Rattle.std.proofs.Common.{◌+◌, ◌≤◌, ◌∙◌, ℕ, List, length, sym, subst, ap}
use Rattle.std.proofs.lemmas.Result.{err_from_is_err_and}
use Rattle.journal_keeper.specs.Keeping.{IsClosed, IsBlock}
use Rattle.journal_keeper.proofs.Torn.{closed_long}
use Rattle.journal_keeper.proofs.Standing.{always_now, not_staged, staged_long, not_opened, opened_gate}
use Rattle.journal_keeper.proofs.commits.add_record.Goals as goal

pub write_through-requires : goal.write_through-requires
write_through-requires g c =
    let s = c.requires.sound in
    always_now (g.D.Disk.disk c.args.disk.now) (IsClosed c.args.place s.0) (λ (file : List ℕ). c.args.place + 1 ≤ length file) s.2.1 (closed_long c.args.place s.0)

pub returns-in_err-write_through-clause-commits : goal.returns-in_err-write_through-clause-commits
returns-in_err-write_through-clause-commits g c base doubts is =
    let p = err_from_is_err_and c.from_residual-in_err-write_through.result c.from_residual-in_err-write_through.ensures.1 in
    let e = c.write_through.ensures in
    rw (p.1, c.requires.gate) (not_staged (g.D.Disk.disk c.args.disk.now) c.args.place base doubts c.args.changes.now is (g.D.Disk.disk c.write_through.new.disk) (length c.deref.result.now) p.0 e.moments e.tells e.stays e.crash)

pub write_through-requires-2 : goal.write_through-requires-2
write_through-requires-2 g c =
    let s = c.requires.sound in
    let e = c.in_ok-write_through.ensures in
    let block = subst (λ (l : List ℕ). IsBlock l c.args.changes.now) (sym c.deref.ensures.value) c.in_ok-block.ensures in
    staged_long (g.D.Disk.disk c.args.disk.now) c.args.place s.0 s.1 c.args.changes.now s.2 (g.D.Disk.disk c.write_through.new.disk) c.deref.result.now block e.written e.durable c.write_through.ensures.moments c.write_through.ensures.tells

pub returns-in_err-write_through-2-clause-commits : goal.returns-in_err-write_through-2-clause-commits
returns-in_err-write_through-2-clause-commits g c base doubts is =
    let p = err_from_is_err_and c.from_residual-in_err-write_through-2.result c.from_residual-in_err-write_through-2.ensures.1 in
    let e = c.in_ok-write_through.ensures in
    let f = c.write_through-2.ensures in
    let block = subst (λ (l : List ℕ). IsBlock l c.args.changes.now) (sym c.deref.ensures.value) c.in_ok-block.ensures in
    rw p.1 (not_opened (g.D.Disk.disk c.args.disk.now) c.args.place base doubts c.args.changes.now is (g.D.Disk.disk c.write_through.new.disk) c.deref.result.now block e.written e.durable c.write_through.ensures.moments c.write_through.ensures.tells
    (g.D.Disk.disk c.write_through-2.new.disk) f.moments p.0 f.tells f.stays f.crash)

pub returns-clause-commits : goal.returns-clause-commits
returns-clause-commits g c base doubts is =
    let e = c.in_ok-write_through.ensures in
    let f = c.in_ok-write_through-2.ensures in
    let block = subst (λ (l : List ℕ). IsBlock l c.args.changes.now) (sym c.deref.ensures.value) c.in_ok-block.ensures in
    opened_gate (g.D.Disk.disk c.args.disk.now) c.args.place base doubts c.args.changes.now is (g.D.Disk.disk c.write_through.new.disk) c.deref.result.now block e.written e.durable c.write_through.ensures.moments c.write_through.ensures.tells
    (g.D.Disk.disk c.write_through-2.new.disk) c.write_through-2.ensures.moments (c.args.place + c.len.result) (ap (λ (n : ℕ). c.args.place + n) (c.len.ensures ∙ sym c.deref.ensures.len)) f.written f.durable e.limit
