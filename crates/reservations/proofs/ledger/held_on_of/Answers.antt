use Rattle.std.proofs.Common.{ap, arith}
use Rattle.std.proofs.lemmas.List.Sums.{sum_by_more_le_part}
use Rattle.reservations.specs.declared.books.Hold.{Hold}
use Rattle.reservations.specs.Holdings.{counted_on}
use Rattle.reservations.proofs.LedgerLemmas.{counted_on-le}
use Rattle.reservations.proofs.ledger.held_on_of.Goals as goal

pub with_part-total-requires : goal.with_part-total-requires
with_part-total-requires c =
    let holds = c.args.holds.now in
    let item = c.hold-item.result in
    let project = c.args.project.now in
    let pool = c.args.pool.now in
    omega (
      arith,
      c.requires,
      c.loop-hold.invariant,
      ap (λ (h : Hold). h.part.disk) c.hold-item.is,
      sum_by_more_le_part (counted_on project pool) (λ (h : Hold). h.part.disk) holds c.loop-hold.hold-index item c.loop-hold-test.true (counted_on-le project pool),
    )
