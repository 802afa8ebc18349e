use Rattle.std.proofs.Common.{◌∙◌, ap, sym}
use Rattle.operations.specs.OperationTable.{live_at}
use Rattle.machine_laws.proofs.Base.{live-number}
use Rattle.core_reports.proofs.Successes.{success-entries}
use Rattle.core_reports.proofs.success.make_ending.Goals as goal

pub ending_of-requires : goal.ending_of-requires
ending_of-requires c =
    let s = c.args.view.now in
    let o = c.in-Some.operation.now in
    success-entries s o c.requires.whole
    (ap (λ n. live_at s.operations n) (live-number s c.args.number o (sym c.in-Some.ensures)) ∙ sym c.in-Some.ensures)
