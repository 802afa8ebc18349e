-- How late a moment may be.
use Rattle.std.specs.Prelude.{ℕ}

-- the first second after the year 9999, in seconds since 1970-01-01T00:00:00Z: every moment lies below it
abbrev pub moment_limit : ℕ
moment_limit = 253402300800
