-- Keys that begin with a name and a slash.
use Rattle.std.specs.Prelude.{◌≡◌, ℕ, false, List, Option, Some, None}
use Rattle.std.specs.Str.{bytes_eq}
use Rattle.row_codec.specs.Spelling.{two_names}

-- the rest of a key after this name and a slash, or that it does not begin so: what decides which names the key is of
abbrev pub IsRest : List ℕ → List ℕ → Option (List ℕ) → Type 0
IsRest first key None = (second : List ℕ) → bytes_eq (two_names first second) key ≡ false
IsRest first key (Some rest) = (second : List ℕ) → bytes_eq (two_names first second) key ≡ bytes_eq second rest
