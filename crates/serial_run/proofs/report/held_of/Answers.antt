use Rattle.std.proofs.Common.{◌∙◌, ◌-◌, ap, arith}
use Rattle.size_values.proofs.AmountParts.{part-minus}
use Rattle.size_values.specs.Amounts.{part}
use Rattle.serial_run.proofs.report.held_of.Goals as goal

pub minus-requires : goal.minus-requires
minus-requires c = λ k.
    let books = c.args.books.now in
    omega (arith, c.requires k, ap (part k) c.minus-left.ensures, part-minus k books.granted books.converted)

pub returns : goal.returns
returns c = λ k.
    let books = c.args.books.now in
    ap (part k) c.minus.ensures
    ∙ part-minus k c.minus-left.result books.returned
    ∙ ap (λ n. n - part k books.returned)
    (ap (part k) c.minus-left.ensures ∙ part-minus k books.granted books.converted)
