use Rattle.std.proofs.Common.{ap, arith}
use Rattle.std.proofs.lemmas.List.Sums.{sum_by_more_le_part}
use Rattle.size_values.specs.Amounts.{part}
use Rattle.reservations.specs.declared.books.Hold.{Hold}
use Rattle.reservations.specs.Holdings.{counted}
use Rattle.reservations.proofs.LedgerLemmas.{counted-le}
use Rattle.reservations.proofs.ledger.held_of.Goals as goal

pub with_hold-total-requires : goal.with_hold-total-requires
with_hold-total-requires c = λ k.
    let holds = c.args.holds.now in
    let item = c.hold-item.result in
    let project = c.args.project.now in
    omega (
      arith,
      c.requires k,
      c.loop-hold.invariant k,
      ap (λ (h : Hold). part k h.share) c.hold-item.is,
      sum_by_more_le_part (counted k project) (λ (h : Hold). part k h.share) holds c.loop-hold.hold-index item c.loop-hold-test.true (counted-le k project),
    )
