use Rattle.std.proofs.Common.{length, ap, ◌∙◌}
use Rattle.records.specs.declared.refusals.Rule.TheVariants.{C2}
use Rattle.row_codec.specs.Spelling.{body_of}
use Rattle.row_machine.specs.shown.Urls.{target_of}
use Rattle.row_machine.specs.machine.Kinds.{kind_text}
use Rattle.row_machine.specs.machine.Refusals.{no_details}
use Rattle.row_codec.specs.Sizes.{capped}
use Rattle.rules_tables.proofs.Bounds.{not-more, is-more, small-size, large-size}
use Rattle.rules_tables.proofs.tables.too_large.Goals as goal

pub returns-then-size-le-LARGEST_ROW : goal.returns-then-size-le-LARGEST_ROW
returns-then-size-le-LARGEST_ROW c =
    not-more 65536 (length (body_of c.args.row.now)) _
    (small-size c.row_size-size.result (length (body_of c.args.row.now)) c.row_size-size.ensures c.if-size-le-LARGEST_ROW.true)

pub returns : goal.returns
unfolding capped
returns c =
    is-more 65536 (length (body_of c.args.row.now)) _ _
    (large-size c.row_size-size.result (length (body_of c.args.row.now)) c.row_size-size.ensures c.if-size-le-LARGEST_ROW.false)
    (c.in_ok-on_kind.ensures
    ∙ ap (λ kind. record { rule = C2; details = record no_details { kind = kind_text kind; number = c.row_size-size.result } }) c.kind_of.ensures
    ∙ ap (λ size. record { rule = C2; details = record no_details { kind = kind_text (target_of c.args.row.now).kind; number = size } }) c.row_size-size.ensures)
