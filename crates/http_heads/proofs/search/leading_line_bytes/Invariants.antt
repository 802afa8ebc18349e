use Rattle.std.proofs.Common.{◌≡◌, ◌+◌, drop}
use Rattle.http_heads.specs.Heads.{blank_len}
use Rattle.http_heads.proofs.search.leading_line_bytes.Given as goal

abbrev pub invariant-loop-at : goal.invariant-loop-at
invariant-loop-at l = l.at + blank_len (drop l.at l.bytes) ≡ blank_len l.bytes
