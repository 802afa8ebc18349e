-- The entity tag of a row (RFC 9110, section 8.8.3): which version of an object it is.
use Rattle.std.specs.Prelude.{ℕ, ◌∷◌, ◌++◌, [], List, Option, Some, None, length, nat_le, if◌then◌else◌}
use Rattle.hex.specs.Hex.{encode_lower}
use Rattle.sha2.specs.Sha256.{sha256}
use Rattle.records.specs.declared.rows.Row.{Row}
use Rattle.row_codec.specs.Sizes.{largest_body}
use Rattle.row_codec.specs.Spelling.{body_of}

-- a text between double quotes
abbrev pub quoted : List ℕ → List ℕ
quoted text = 34 ∷ text ++ 34 ∷ []

-- The tag of a row: the SHA-256 of its body, in quoted hexadecimal digits. A row that is too large to be kept has none.
unfoldable pub tag_of : Row → Option (List ℕ)
tag_of row =
    if nat_le (length (body_of row)) largest_body then Some (quoted (encode_lower (sha256 (body_of row)))) else None
