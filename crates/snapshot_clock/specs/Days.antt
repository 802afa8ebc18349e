-- Days that have a date of up to four digits for the year.
use Rattle.std.specs.Prelude.{ℕ, if◌then◌else◌, Option, Some, None, nat_lt}

-- the first day after the year 9999
abbrev pub day_limit : ℕ
day_limit = 2932897

-- the day, where it isn't after the year 9999
abbrev pub if_day : ℕ → Option ℕ
if_day day = if nat_lt day day_limit then Some day else None
