-- Numbers of bytes, as eight bytes hold them.
use Rattle.std.specs.Prelude.{ℕ, ◌^◌, ◌-◌, min}

-- the most bytes that the body of a kept row may have
abbrev pub largest_body : ℕ
largest_body = 65536

-- a number, or the greatest one that eight bytes hold where it is more
unfoldable pub capped : ℕ → ℕ
capped number = min number (2 ^ 64 - 1)
