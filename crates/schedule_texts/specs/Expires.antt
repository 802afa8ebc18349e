-- When what was made at a moment expires.
use Rattle.std.specs.Prelude.{ℕ, ◌+◌, ◌*◌, ◌/◌, ◌%◌, if◌then◌else◌, Option, Some, None, nat_lt}
use Rattle.size_values.specs.Moments.{moment_limit}
use Rattle.size_values.specs.declared.expiry.Expiry.{Expiry}
use Rattle.schedule_texts.specs.Calendar.{date_of, day_of, months_later}

-- the months and years of an expiry
abbrev pub months_in : Expiry → ℕ
months_in expiry = 12 * expiry.years + expiry.months

-- its weeks, days, hours and minutes, in seconds
abbrev pub seconds_in : Expiry → ℕ
seconds_in expiry = 604800 * expiry.weeks + 86400 * expiry.days + 3600 * expiry.hours + 60 * expiry.minutes

-- the day so many months after a day
unfoldable pub later_day : ℕ → ℕ → ℕ
later_day months day = day_of (months_later months (date_of day))

-- The moment at the end of an expiry: first the months by the calendar, at the same time of the day, and then the
-- seconds.
unfoldable pub end_of : ℕ → Expiry → ℕ
end_of created expiry =
    later_day (months_in expiry) (created / 86400) * 86400 + created % 86400 + seconds_in expiry

-- the same, where it is a moment
unfoldable pub expires_at : ℕ → Expiry → Option ℕ
expires_at created expiry = if nat_lt (end_of created expiry) moment_limit then Some (end_of created expiry) else None
