-- How long the parts of a reply may be.
use Rattle.std.specs.Prelude.{ℕ}

-- the most bytes of a head
abbrev pub max_head : ℕ
max_head = 16384

-- the most bytes of a body
abbrev pub max_body : ℕ
max_body = 67108864
