use Rattle.std.proofs.Common.{ap, sym, length, ◌∙◌, arith}
use Rattle.row_codec.specs.Sizes.{capped}
use Rattle.row_codec.proofs.Sums.{capped-fits}
use Rattle.row_codec.proofs.Lengths.{text-length}
use Rattle.row_codec.proofs.sizes.text_size.Goals as goal

pub returns : goal.returns
returns c =
    c.add_capped.ensures 4 (length c.args.text.now) (capped-fits 4 (omega arith)) (capped-fits (length c.args.text.now) (omega arith))
    ∙ ap capped (sym (text-length c.args.text.now))
