-- Where a head ends, as a function of the bytes.
use Rattle.std.specs.Prelude.{ℕ, ◌+◌, suc, Bool, ◌||◌, ◌==◌, if◌then◌else◌, List, [], ◌∷◌, take, drop, Option, Some}
use Rattle.std.specs.Prelude.{None}
use Rattle.std.specs.Option.{option_map, option_or}
use Rattle.http_heads.specs.Limits.{max_head}

-- CR and LF
abbrev pub is_line_byte : ℕ → Bool
is_line_byte byte = byte == 13 || byte == 10

-- how many CR and LF bytes a text begins with
abbrev pub blank_len : List ℕ → ℕ
blank_len [] = 0
blank_len (byte ∷ bytes) = if is_line_byte byte then suc (blank_len bytes) else 0

-- the length of the line end that a text begins with: LF is one byte, CR LF are two
abbrev pub line_end : List ℕ → Option ℕ
line_end [] = None
line_end (byte ∷ []) = if byte == 10 then Some 1 else None
line_end (byte ∷ next ∷ bytes) =
    if byte == 10 then Some 1 else (if byte == 13 then (if next == 10 then Some 2 else None) else None)

-- the length up to and with the first empty line: an LF, and the line end that follows it
abbrev pub empty_line_end : List ℕ → Option ℕ
empty_line_end [] = None
empty_line_end (byte
    ∷ bytes) = option_map suc (option_or (if byte == 10 then line_end bytes else None) (empty_line_end bytes))

-- the length up to and with the first empty line after the first byte that is neither CR nor LF
abbrev pub head_end : List ℕ → Option ℕ
head_end bytes = let blank = blank_len bytes in option_map (λ n. blank + n) (empty_line_end (drop blank bytes))

-- the length of the head that a text begins with, the CR and LF bytes before it counted; it lies in the first 16,384
-- bytes
unfoldable pub head_len : List ℕ → Option ℕ
head_len bytes = head_end (take max_head bytes)

-- the bytes from the first that is neither CR nor LF
abbrev pub after_blank : List ℕ → List ℕ
after_blank bytes = drop (blank_len bytes) bytes

-- what the head of this length says, without the CR and LF bytes before it
abbrev pub head_bytes : ℕ → List ℕ → List ℕ
head_bytes len bytes = after_blank (take len bytes)
