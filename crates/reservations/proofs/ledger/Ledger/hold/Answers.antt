use Rattle.std.proofs.Common.{◌+◌, ◌<◌, refl, sym, ap, subst}
use Rattle.reservations.specs.Holdings.{Holdings}
use Rattle.size_values.specs.declared.amounts.Amounts.{Amounts}
use Rattle.reservations.specs.Inside.{holdings_in}
use Rattle.reservations.proofs.LedgerLemmas.{AreHoldings-same, AreHoldings-held}
use Rattle.reservations.proofs.ledger.Ledger.hold.Goals as goal

pub invariant_of-self : goal.invariant_of-self
invariant_of-self c =
    let l = holdings_in c.self.inside in
    AreHoldings-same _ _ c.push_reserved.ensures.items refl
    (ap (λ (sum : Amounts). record l.books { granted = sum; pool_granted = l.books.pool_granted + c.args.on.disk }) c.plus-granted.ensures)
    (AreHoldings-held l c.args.op c.args.project c.args.share c.args.on 0 (subst (λ (m : Holdings). m.greatest < c.args.op) (sym c.self.view_is) c.requires.above) c.requires.limit c.requires.small c.requires.small_part c.self.invariant)
