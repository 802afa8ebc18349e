use Rattle.std.proofs.Common.{◌≡◌, ◌++◌, drop, map, option_to_list}
use Rattle.std.specs.Option.{option_map}
use Rattle.httparse.specs.Spans.{header_bytes}
use Rattle.http_heads.specs.Fields.{values_of}
use Rattle.client_replies.proofs.fields.only_value.Given as goal

abbrev pub invariant-loop-header : goal.invariant-loop-header
invariant-loop-header l =
    values_of l.name (map (header_bytes l.bytes) l.headers)
    ≡ option_to_list (option_map (λ v. v.now) l.found) ++ values_of l.name (map (header_bytes l.bytes) (drop l.header-index l.headers))
