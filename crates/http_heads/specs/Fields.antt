-- What the headers of a request say of its body, and whether they end the connection.
use Rattle.std.specs.Prelude.{ℕ, ◌==◌, Bool, not, ◌||◌, ◌&&◌, nat_lt, nat_le, if◌then◌else◌, List, [], ◌∷◌, length, map}
use Rattle.std.specs.Prelude.{filter, slice_get, Option, Result, Ok, Err, codes}
use Rattle.std.specs.List.{list_all, list_any, slice_split}
use Rattle.std.specs.Option.{option_map}
use Rattle.std.specs.Char.{is_ascii, is_ascii_digit}
use Rattle.std.specs.Str.{str_eq_ignore_ascii_case}
use Rattle.std.specs.Str.Parse.{digits_value}
use Rattle.httparse.specs.Grammar.{RequestHead, trim_ows}
use Rattle.httparse.specs.Spans.{name_and_value}
use Rattle.http_heads.specs.Limits.{max_body}
use Rattle.http_heads.specs.declared.request.HeadFault.{HeadFault}
use Rattle.http_heads.specs.declared.request.HeadFault.TheVariants.{H3, H4}

-- the names and the values of a head's headers; a value has no blanks or tabs at its ends
abbrev pub fields_of : RequestHead → List (List ℕ × List ℕ)
fields_of head = map name_and_value head.fields

-- the values of the headers of this name, in any ASCII case
abbrev pub values_of : List ℕ → List (List ℕ × List ℕ) → List (List ℕ)
values_of name fields = map (λ field. field.1) (filter (λ field. str_eq_ignore_ascii_case field.0 name) fields)

-- 1 to 19 digits
abbrev pub is_length : List ℕ → Bool
is_length text = nat_lt 0 (length text) && nat_le (length text) 19 && list_all is_ascii_digit text

-- the length that a text gives
unfoldable pub length_in : List ℕ → Result ℕ HeadFault
length_in text =
    if is_length text
    then (if nat_le (digits_value 10 text) max_body then Ok (digits_value 10 text) else Err H4) else Err H3

-- the length that the values of Content-Length give: 0 where there is none, and at most one may be there
abbrev pub length_of : List (List ℕ) → Result ℕ HeadFault
length_of [] = Ok 0
length_of (text ∷ []) = length_in text
length_of (text ∷ other ∷ more) = Err H3

-- the length of the body that the headers give; a Transfer-Encoding is a fault
unfoldable pub framing : List (List ℕ × List ℕ) → Result ℕ HeadFault
framing fields =
    if length (values_of (codes "transfer-encoding") fields) == 0
    then length_of (values_of (codes "content-length") fields)
    else Err H3

-- one of the parts between commas is the word, in any ASCII case and without the blanks and tabs at its ends
unfoldable pub lists_word : List ℕ → List ℕ → Bool
lists_word word value =
    list_any (λ part. str_eq_ignore_ascii_case (trim_ows part) word) (slice_split (λ byte. byte == 44) value)

-- some header of this name lists the word
abbrev pub some_lists : List ℕ → List ℕ → List (List ℕ × List ℕ) → Bool
some_lists name word fields = list_any (lists_word word) (values_of name fields)

-- some header has the name, in any ASCII case
abbrev pub some_named : List ℕ → List (List ℕ × List ℕ) → Bool
some_named name fields = list_any (λ field. str_eq_ignore_ascii_case field.0 name) fields

-- a header is named `Origin`, as in what a web page has its browser send (RFC 6454, section 7)
abbrev pub has_origin : RequestHead → Bool
has_origin head = some_named (codes "origin") (fields_of head)

-- the value of the first header of this name, if there is one
abbrev pub first_value : List ℕ → List (List ℕ × List ℕ) → Option (List ℕ)
first_value name fields = slice_get (values_of name fields) 0

-- the value, or an empty one where it has a byte that is not ASCII
abbrev pub ascii_or_empty : List ℕ → List ℕ
ascii_or_empty value = if list_all is_ascii value then value else []

-- the value of the first If-Match header (RFC 9110, section 13.1.1), if there is one; empty where it has a byte that is
-- not ASCII
abbrev pub if_match_in : List (List ℕ × List ℕ) → Option (List ℕ)
if_match_in fields = option_map ascii_or_empty (first_value (codes "if-match") fields)

abbrev pub if_match_of : RequestHead → Option (List ℕ)
if_match_of head = if_match_in (fields_of head)

-- the connection ends after this request: it is of HTTP/1.0, or a Connection header lists `close`
abbrev pub is_last : RequestHead → Bool
is_last head = head.minor == 0 || some_lists (codes "connection") (codes "close") (fields_of head)

-- The client waits for leave before it sends the body, which has this length (RFC 9110, section 10.1.1): there is a
-- body, and an Expect header lists `100-continue`. HTTP/1.0 has no expectations.
unfoldable pub expects_in : ℕ → ℕ → List (List ℕ × List ℕ) → Bool
expects_in body minor fields =
    nat_lt 0 body && minor == 1 && some_lists (codes "expect") (codes "100-continue") fields

abbrev pub expects_leave : ℕ → RequestHead → Bool
expects_leave body head = expects_in body head.minor (fields_of head)

-- leave is due to a client that waits for it, but where requests with an `Origin` are refused, and this is one
abbrev pub leave_due : Bool → Bool → Bool → Bool
leave_due refuses_origin origin expects = expects && not (refuses_origin && origin)
