use Rattle.std.proofs.Common.{◌+◌, cond, sym, ◌∙◌, ap}
use Rattle.std.specs.Str.{bytes_eq}
use Rattle.size_values.specs.Amounts.{part}
use Rattle.size_values.proofs.AmountParts.{part-plus}
use Rattle.reservations.proofs.ledger.with_hold.Goals as goal

pub returns-then-eq : goal.returns-then-eq
returns-then-eq c = λ k.
    let hold = c.args.hold.now in
    ap (part k) c.plus.ensures
    ∙ part-plus k c.args.total hold.share
    ∙ ap (λ b. part k c.args.total + cond b (part k hold.share) 0)
    (sym c.if-eq.true ∙ c.eq.ensures ∙ ap (λ name. bytes_eq name c.args.project.now) c.view.ensures.value)
