-- What the head of a reply says of its body.
use Rattle.std.specs.Prelude.{ℕ, ◌==◌, ◌&&◌, nat_le, if◌then◌else◌, List, map, Option, Some, None, option_and_then, codes}
use Rattle.std.specs.Str.Parse.{digits_value}
use Rattle.httparse.specs.Grammar.{ResponseHead}
use Rattle.httparse.specs.Spans.{name_and_value}
use Rattle.http_heads.specs.Fields.{is_length, some_named, values_of}
use Rattle.http_heads.specs.Upgrades.{only}
use Rattle.client_replies.specs.Limits.{max_body}

-- the length that 1 to 19 digits give, where it is no longer than a body may be
unfoldable pub length_in : List ℕ → Option ℕ
length_in text =
    if is_length text && nat_le (digits_value 10 text) max_body then Some (digits_value 10 text) else None

-- the length of the body that the header fields give: by exactly one Content-Length, and no Transfer-Encoding
unfoldable pub body_length : List (List ℕ × List ℕ) → Option ℕ
body_length fields =
    if some_named (codes "transfer-encoding") fields then None
    else option_and_then length_in (only (values_of (codes "content-length") fields))

-- the length of the body that the head gives, which is of HTTP/1.1
unfoldable pub framed : ResponseHead → Option ℕ
framed head = if head.minor == 1 then body_length (map name_and_value head.fields) else None
