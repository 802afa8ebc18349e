-- Texts that are kept in place.
use Rattle.std.specs.Prelude.{ℕ}

-- the most bytes of a name of an object
abbrev pub most_bytes : ℕ
most_bytes = 63
