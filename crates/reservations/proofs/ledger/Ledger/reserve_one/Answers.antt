use Rattle.std.proofs.Common.{refl}
use Rattle.reservations.specs.Inside.{holdings_in}
use Rattle.reservations.proofs.LedgerLemmas.{AreHoldings-same}
use Rattle.reservations.proofs.ledger.Ledger.reserve_one.Goals as goal

pub invariant_of-self-2 : goal.invariant_of-self-2
invariant_of-self-2 c = AreHoldings-same (holdings_in c.self.inside) _ c.reserve.ensures.items refl refl c.self.invariant
