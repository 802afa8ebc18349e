use Rattle.std.proofs.Common.{◌≡◌, subst, sym, ap, arith}
use Rattle.std.specs.Prelude.{IfSome}
use Rattle.size_values.specs.Amounts.{part}
use Rattle.row_machine.specs.machine.Usage.{usage_of}
use Rattle.core_totals.specs.Totals.{AreAmounts}
use Rattle.core_totals.proofs.Few.{few-used}
use Rattle.core_totals.proofs.Told.{amounts-more}
use Rattle.core_totals.proofs.amount_totals.AmountTotals.used_beside.Goals as goal

pub returns-in-Some-clause-few : goal.returns-in-Some-clause-few
returns-in-Some-clause-few c = λ k.
    let is : c.in-Some.used ≡ usage_of c.args.view.now c.args.name.now =
    subst (λ x. IfSome x (λ a. a ≡ usage_of c.args.view.now c.args.name.now)) (sym c.in-Some.ensures) (c.requires.totals.known c.args.name.now) in
    omega (arith, few-used c.args.view.now c.args.name.now k c.requires.whole, ap (part k) is)

pub returns-clause-totals : goal.returns-clause-totals
returns-clause-totals c =
    subst (AreAmounts c.args.view.now) (sym c.in_ok-keep.ensures.ok)
    (amounts-more c.args.view.now c.args.self.now c.args.name.now c.in_ok-used.used c.requires.totals c.in_ok-used.ensures.usage)

pub returns-then-not-needs_usage-clause-serves : goal.returns-then-not-needs_usage-clause-serves
returns-then-not-needs_usage-clause-serves c =
    c.needs_usage.ensures c.if-not-needs_usage.true c.args.view.now.projects c.args.name.now c.zero.result
    (usage_of c.args.view.now c.args.name.now) c.requires.limits
