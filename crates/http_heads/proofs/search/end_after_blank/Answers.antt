use Rattle.std.proofs.Common.{◌<◌, ◌∙◌, length, arith}
use Rattle.http_heads.proofs.SearchLemmas.{same_here, same_further, blank_at_end, begins_here, GoesOn-further}
use Rattle.http_heads.proofs.search.end_after_blank.Goals as goal

pub returns-then-begins-bytes : goal.returns-then-begins-bytes
returns-then-begins-bytes c = (
  same_here c.blank_end-begins.ensures.same ∙ blank_at_end c.blank_end-begins.result c.args.bytes.now (omega arith),
  omega arith,
  c.blank_end-begins.ensures.same,
)

pub returns : goal.returns
returns c =
    let inside : c.blank_end-begins.result < length c.args.bytes.now = omega arith in
    let begun = begins_here c.blank_end-begins.result c.args.bytes.now inside (c.blank_end-begins.ensures.stops inside) in
    GoesOn-further _ (same_further c.blank_end-begins.ensures.same begun) c.end_in_lines.ensures
