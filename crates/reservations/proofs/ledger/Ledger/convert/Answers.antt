use Rattle.std.proofs.Common.{◌+◌, IsSome, refl, sym, ap, subst, arith}
use Rattle.std.specs.List.{find}
use Rattle.size_values.specs.declared.amounts.Amounts.{Amounts}
use Rattle.reservations.specs.Holdings.{Holdings, has_op, share_at}
use Rattle.reservations.specs.Inside.{holdings_in}
use Rattle.reservations.proofs.LedgerLemmas.{AreHoldings-same, AreHoldings-converted, share-fits, part-fits, IsSome-held}
use Rattle.reservations.proofs.ledger.Ledger.convert.Goals as goal

pub take_out-hold-requires : goal.take_out-hold-requires
take_out-hold-requires c = IsSome-held (find (has_op c.args.op) c.self.inside.holds.items)
    (subst (λ (m : Holdings). IsSome (share_at m c.args.op)) (sym c.self.view_is) c.requires)

pub plus-self-inside-requires : goal.plus-self-inside-requires
plus-self-inside-requires c = λ k.
    omega (arith, share-fits (holdings_in c.self.inside) c.args.op c.take_out-hold.result c.take_out-hold.ensures.hold c.self.invariant k)

pub overflow_add-self : goal.overflow_add-self
overflow_add-self c =
    omega (arith, part-fits (holdings_in c.self.inside) c.args.op c.take_out-hold.result c.take_out-hold.ensures.hold c.self.invariant)

pub invariant_of-self : goal.invariant_of-self
invariant_of-self c =
    let l = holdings_in c.self.inside in
    let hold = c.take_out-hold.result in
    AreHoldings-same _ _ c.take_out-hold.ensures.rest refl
    (ap (λ (sum : Amounts). record l.books { converted = sum; pool_converted = l.books.pool_converted + hold.part.disk }) c.plus-self-inside.ensures)
    (AreHoldings-converted l c.args.op hold c.take_out-hold.ensures.hold 0 c.self.invariant)
