-- How a text spells its tokens.
use Rattle.std.specs.Prelude.{ℕ, ◌+◌, ◌≡◌, ◌≢◌, true, false, ◌==◌, if◌then◌else◌, List, [], ◌∷◌, ◌++◌, length, codes}
use Rattle.std.specs.List.{list_all, list_any}
use Rattle.std.specs.Str.{byte}
use Rattle.filter_texts.specs.Tokens.{Token, opening, closing, quoted, word, unclosed, Placed, is_quote, is_word_byte}

-- the bytes from the first on that is no space
abbrev pub without_spaces : List ℕ → List ℕ
without_spaces [] = []
without_spaces (sign ∷ bytes) = if sign == byte " " then without_spaces bytes else sign ∷ bytes

-- no word goes on in the bytes
abbrev pub IsApart : List ℕ → Type 0
IsApart [] = Unit {0}
IsApart (sign ∷ bytes) = is_word_byte sign ≡ false

-- The bytes are those of the token, and then the rest. A word has a byte at least and goes on as far as it can; there is no
-- quote between two quotes, and none behind an unclosed one.
abbrev pub Spells : Token → List ℕ → List ℕ → Type 0
Spells opening bytes rest = bytes ≡ codes "(" ++ rest
Spells closing bytes rest = bytes ≡ codes ")" ++ rest
Spells (quoted value) bytes rest = (bytes ≡ codes "\"" ++ (value ++ (codes "\"" ++ rest))) × (list_any is_quote value ≡ false)
Spells (word own) bytes rest = (bytes ≡ own ++ rest) × (own ≢ []) × (list_all is_word_byte own ≡ true) × IsApart rest
Spells unclosed bytes rest = (more : List ℕ) × (bytes ≡ codes "\"" ++ more) × (list_any is_quote more ≡ false) × (rest ≡ [])

-- The bytes, which are the last of a text of so many, are the tokens at their places, with nothing but spaces before, between
-- and behind them.
abbrev pub AreSpelled : ℕ → List ℕ → List Placed → Type 0
AreSpelled end bytes [] = without_spaces bytes ≡ []
AreSpelled end bytes (placed ∷ tokens) =
    (rest : List ℕ) × (placed.place + length (without_spaces bytes) ≡ end) × Spells placed.token (without_spaces bytes) rest
    × AreSpelled end rest tokens
