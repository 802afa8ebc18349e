use Rattle.std.proofs.Common.{◌≡◌, drop, map}
use Rattle.httparse.specs.Spans.{header_bytes}
use Rattle.http_heads.specs.Fields.{some_named}
use Rattle.client_replies.proofs.fields.some_named.Given as goal

abbrev pub invariant-loop-header : goal.invariant-loop-header
invariant-loop-header l =
    some_named l.name (map (header_bytes l.bytes) (drop l.header-index l.headers)) ≡ some_named l.name (map (header_bytes l.bytes) l.headers)
