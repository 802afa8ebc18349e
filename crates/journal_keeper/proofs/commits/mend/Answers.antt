use Rattle.std.proofs.Common.{sym, subst}
use Rattle.journal_keeper.specs.Keeping.{Stands, StandsOn}
use Rattle.journal_keeper.specs.declared.gate.Gate.{Gate}
use Rattle.journal_keeper.proofs.Standing.{mend_failed, mend_done}
use Rattle.journal_keeper.proofs.commits.mend.Goals as goal

pub returns-in_err-write_through-in-Unsure-clause-stands : goal.returns-in_err-write_through-in-Unsure-clause-stands
returns-in_err-write_through-in-Unsure-clause-stands g c base doubts is =
    let old = g.D.Disk.disk c.args.disk.now in
    let new = g.D.Disk.disk c.write_through.new.disk in
    let was = subst (λ (x : Gate). Stands old x base doubts) c.in-Unsure.is is in
    let e = c.write_through.ensures in
    subst (λ (x : Gate). StandsOn old new x base doubts) (sym c.in-Unsure.is) (mend_failed old new c.in-Unsure.place base doubts was e.moments e.tells e.stays e.crash)

pub returns-in_ok-write_through-in-Unsure-clause-stands : goal.returns-in_ok-write_through-in-Unsure-clause-stands
returns-in_ok-write_through-in-Unsure-clause-stands g c base doubts is =
    let old = g.D.Disk.disk c.args.disk.now in
    let new = g.D.Disk.disk c.write_through.new.disk in
    let was = subst (λ (x : Gate). Stands old x base doubts) c.in-Unsure.is is in
    let e = c.in_ok-write_through-in-Unsure.ensures in
    mend_done old new c.in-Unsure.place base doubts was c.write_through.ensures.moments e.written e.durable
