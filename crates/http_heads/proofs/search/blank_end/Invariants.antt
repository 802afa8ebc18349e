use Rattle.http_heads.specs.declared.search.Search.TheVariants.{Blank}
use Rattle.http_heads.specs.Search.{FindsSame}
use Rattle.http_heads.proofs.search.blank_end.Given as goal

abbrev pub invariant-loop-at : goal.invariant-loop-at
invariant-loop-at l = FindsSame (Blank l.from) (Blank l.at) l.bytes
