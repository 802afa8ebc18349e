use Rattle.std.proofs.Common.{◌≤◌, ◌-◌, length}
use Rattle.http_heads.specs.declared.search.Search.TheVariants.{Lines}
use Rattle.http_heads.specs.Search.{FindsSame}
use Rattle.http_heads.proofs.search.end_in_lines.Given as goal

abbrev pub invariant-loop-at : goal.invariant-loop-at
invariant-loop-at l = record {
  within : l.next ≤ length l.bytes;
  same : FindsSame (Lines l.from) (Lines l.next) l.bytes;
}

abbrev pub decreases-loop-at : goal.decreases-loop-at
decreases-loop-at l = length l.bytes - l.next
