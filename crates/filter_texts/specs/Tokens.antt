-- The tokens of a filter's text.
use Rattle.std.specs.Prelude.{ℕ, zero, suc, ◌+◌, Bool, not, ◌==◌, ◌||◌, if◌then◌else◌, List, [], ◌∷◌, length, map, take_while, Option, Some, None, nat_lt}
use Rattle.std.specs.List.{before_first, position_or_len, prefix_len}
use Rattle.std.specs.Str.{byte}

pub data Token : Type 0 where
  opening : Token
  closing : Token
  -- the bytes between two quotes
  quoted : List ℕ → Token
  word : List ℕ → Token
  -- a quote with no other behind it
  unclosed : Token

-- the value that a token gives, which is a word or quoted
abbrev pub value_in : Token → Option (List ℕ)
value_in (word bytes) = Some bytes
value_in (quoted bytes) = Some bytes
value_in token = None

-- a token, and where it begins
pub record Placed : Type 0 where
  pub place : ℕ
  pub token : Token

abbrev pub is_quote : ℕ → Bool
is_quote sign = sign == byte "\""

-- a byte of a word: any but space, quote and parenthesis
abbrev pub is_word_byte : ℕ → Bool
is_word_byte sign = not (sign == byte " " || sign == byte "\"" || sign == byte "(" || sign == byte ")")

-- the same of a quote before the bytes: a value ends at the next quote
abbrev pub quoted_front : List ℕ → Option Token × ℕ
quoted_front bytes =
    if nat_lt (position_or_len is_quote bytes) (length bytes)
    then (Some (quoted (before_first is_quote bytes)), position_or_len is_quote bytes + 1)
    else (Some unclosed, length bytes)

-- the token that begins with a byte, if that is no space, and how many of the bytes behind that byte are of the token
abbrev pub front : ℕ → List ℕ → Option Token × ℕ
front sign bytes =
    if sign == byte " " then (None, 0)
    else if sign == byte "(" then (Some opening, 0)
    else if sign == byte ")" then (Some closing, 0)
    else if is_quote sign then quoted_front bytes
    else (Some (word (sign ∷ take_while is_word_byte bytes)), prefix_len is_word_byte bytes)

-- the token, if there is one, before the others
abbrev pub with_token : ℕ → Option Token → List Placed → List Placed
with_token place None tokens = tokens
with_token place (Some token) tokens = record { place = place; token = token } ∷ tokens

-- The tokens of the bytes from a place on. So many bytes at the front are of a token before them, and are passed over.
unfoldable pub tokens_from : ℕ → ℕ → List ℕ → List Placed
tokens_from passed place [] = []
tokens_from (suc passed) place (sign ∷ bytes) = tokens_from passed (place + 1) bytes
tokens_from zero place (sign ∷ bytes) =
    with_token place (front sign bytes).0 (tokens_from (front sign bytes).1 (place + 1) bytes)

-- the tokens of a text, each with its place
abbrev pub placed_tokens : List ℕ → List Placed
placed_tokens text = tokens_from 0 0 text

-- the same without their places
abbrev pub tokens_of : List ℕ → List Token
tokens_of text = map (λ placed. placed.token) (placed_tokens text)
