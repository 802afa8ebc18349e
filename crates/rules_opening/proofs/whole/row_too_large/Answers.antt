use Rattle.std.proofs.Common.{Some, nat_lt, length, sym, ap, ◌∙◌}
use Rattle.std.proofs.lemmas.Bool.{le-ltb, lt-ltb}
use Rattle.records.specs.declared.refusals.Rule.TheVariants.{C2}
use Rattle.row_codec.specs.Spelling.{body_of}
use Rattle.row_machine.specs.opening.Opening.{broken_at}
use Rattle.rules_tables.proofs.Bounds.{small-size, large-size}
use Rattle.rules_opening.proofs.Refused.{told-where, told-nowhere}
use Rattle.rules_opening.proofs.whole.row_too_large.Goals as goal

pub returns-then-row_size-le-LARGEST_ROW : goal.returns-then-row_size-le-LARGEST_ROW
returns-then-row_size-le-LARGEST_ROW c =
    let size = length (body_of c.args.row.now) in
    told-nowhere (broken_at c.args.row.now C2) (nat_lt 65536 size) _
    (le-ltb 65536 size (small-size c.row_size.result size c.row_size.ensures c.if-row_size-le-LARGEST_ROW.true))

pub returns : goal.returns
returns c =
    let size = length (body_of c.args.row.now) in
    told-where (broken_at c.args.row.now C2) (nat_lt 65536 size) _
    (lt-ltb 65536 size (large-size c.row_size.result size c.row_size.ensures c.if-row_size-le-LARGEST_ROW.false))
    ∙ ap Some (sym c.in_ok-broken_at.ensures)
