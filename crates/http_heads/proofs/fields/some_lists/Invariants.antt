use Rattle.std.proofs.Common.{◌≡◌, drop, map}
use Rattle.httparse.specs.Spans.{header_bytes}
use Rattle.http_heads.specs.Fields.{some_lists}
use Rattle.http_heads.proofs.fields.some_lists.Given as goal

abbrev pub invariant-loop-header : goal.invariant-loop-header
invariant-loop-header l =
    some_lists l.name l.word (map (header_bytes l.bytes) (drop l.header-index l.headers)) ≡ some_lists l.name l.word (map (header_bytes l.bytes) l.headers)
