-- How long the parts of a request may be.
use Rattle.std.specs.Prelude.{ℕ}

-- the most bytes of a head, with the CR and LF bytes before it
abbrev pub max_head : ℕ
max_head = 16384

-- the most bytes of a body
abbrev pub max_body : ℕ
max_body = 1048576

-- the most headers of a head
abbrev pub max_fields : ℕ
max_fields = 64
