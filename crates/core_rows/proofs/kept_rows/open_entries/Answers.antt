use Rattle.std.proofs.Common.{ap, arith}
use Rattle.machine_laws.proofs.OpeningKept.{opening-whole}
use Rattle.core_rows.proofs.Opened.{opened-idle}
use Rattle.core_rows.proofs.kept_rows.open_entries.Goals as goal

pub of-requires-clause-whole : goal.of-requires-clause-whole
of-requires-clause-whole c = opening-whole c.args.entries.now c.in-Ok.draft.state c.requires.bytes c.in-Ok.ensures.0

pub of-requires-clause-above : goal.of-requires-clause-above
of-requires-clause-above c =
    omega (arith, c.in-Ok.ensures.2, ap (λ k. k.next) (opened-idle c.args.entries.now c.in-Ok.draft.state c.in-Ok.ensures.0))
