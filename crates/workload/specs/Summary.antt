use Rattle.std.specs.Prelude.{ℕ, zero, suc, ◌==◌, ◌&&◌, nat_eq, nat_le, nat_lt, if◌then◌else◌, Option, Some, None}
use Rattle.std.specs.Prelude.{option_map, option_and_then, List, [], ◌∷◌, ◌++◌, length, drop, take_while, count_by}
use Rattle.std.specs.Prelude.{codes, decimal}
use Rattle.std.specs.List.{starts_with, flat_map, range_with_len}
use Rattle.std.specs.Option.{option_map_or}
use Rattle.std.specs.Char.{is_ascii_digit}
use Rattle.std.specs.Str.Parse.{digits_value}

-- the parts of a text before and after the first place at which a mark stands
abbrev pub parted : List ℕ → List ℕ → Option (List ℕ × List ℕ)
parted mark [] = None
parted mark (byte ∷ rest) =
    if starts_with nat_eq (byte ∷ rest) mark then Some ([], drop (length mark) (byte ∷ rest))
    else option_map (λ parts. (byte ∷ parts.0, parts.1)) (parted mark rest)

-- the number with which a text begins: 1 to 19 digits
abbrev pub number_in : List ℕ → Option ℕ
number_in text =
    let digits = take_while is_ascii_digit text in
    if nat_le 1 (length digits) && nat_le (length digits) 19 then Some (digits_value 10 digits) else None

-- a number of three digits, the first of which is not 0
abbrev pub as_code : ℕ → Option ℕ
as_code number = if nat_le 100 number && nat_lt number 1000 then Some number else None

-- the status code of a head `HTTP/1.1 CODE PHRASE`
abbrev pub code_in : List ℕ → Option ℕ
code_in head =
    if starts_with nat_eq head (codes "HTTP/1.1 ") then option_and_then as_code (number_in (drop 9 head)) else None

-- the length of the body that a head tells
abbrev pub length_in : List ℕ → Option ℕ
length_in head = option_and_then (λ parts. number_in parts.1) (parted (codes "\r\nContent-Length: ") head)

-- a reply's code and the bytes after it, where its body is whole
abbrev pub with_body : List ℕ → ℕ → ℕ → Option (ℕ × List ℕ)
with_body rest code len = if nat_le len (length rest) then Some (code, drop len rest) else None

-- The first reply of a text, if it is whole: its code, and the bytes after it. A head ends with the first empty line.
abbrev pub first_reply : List ℕ → Option (ℕ × List ℕ)
first_reply bytes =
    option_and_then
    (λ parts. option_and_then (λ code. option_and_then (with_body parts.1 code) (length_in parts.0))
    (code_in parts.0))
    (parted (codes "\r\n\r\n") bytes)

-- the codes of the first replies, at most so many, up to the first bytes that are no whole reply
abbrev pub codes_within : ℕ → List ℕ → List ℕ
codes_within zero bytes = []
codes_within (suc n) bytes = option_map_or (λ reply. reply.0 ∷ codes_within n reply.1) (first_reply bytes) []

-- the codes of all whole replies; there are no more of them than bytes
abbrev pub codes_of : List ℕ → List ℕ
codes_of bytes = codes_within (length bytes) bytes

-- how many replies have this code, in a line of its own, if there are any
abbrev pub code_line : List ℕ → ℕ → List ℕ
code_line all code =
    if count_by (λ other. other == code) all == 0 then []
    else codes "replies " ++ decimal code ++ codes " " ++ decimal (count_by (λ other. other == code) all) ++ codes "\n"

-- the number of replies, and then the number of each code that occurs, rising; each line ends with LF
unfoldable pub summary_by : List ℕ → List ℕ
summary_by all = codes "requests " ++ decimal (length all) ++ codes "\n"
    ++ flat_map (code_line all) (range_with_len 100 900)

abbrev pub summary : List ℕ → List ℕ
summary replies = summary_by (codes_of replies)
