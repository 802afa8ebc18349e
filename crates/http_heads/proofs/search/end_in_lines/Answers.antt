use Rattle.std.proofs.Common.{◌∙◌, arith}
use Rattle.http_heads.proofs.SearchLemmas.{same_here, same_further, lines_at_end}
use Rattle.http_heads.proofs.search.end_in_lines.Goals as goal

pub returns-in-LineEnd : goal.returns-in-LineEnd
returns-in-LineEnd c =
    same_here (same_further c.loop-at.invariant.same c.in-Some.ensures.same) ∙ c.in-LineEnd.ensures.1

pub returns-in-Open : goal.returns-in-Open
returns-in-Open c =
    let same = same_further c.loop-at.invariant.same c.in-Some.ensures.same in
    (same_here same ∙ c.in-Open.ensures, omega (arith, c.in-Some.ensures.within), same)

pub returns : goal.returns
returns c =
    let same = same_further c.loop-at.invariant.same c.in_default.ensures.none in
    (same_here same ∙ lines_at_end _ c.args.bytes.now (omega arith), omega arith, same)
