-- Moments as texts: days are told by the calendar, year by year and month by month.
use Rattle.std.specs.Prelude.{ℕ, zero, suc, ◌+◌, ◌-◌, ◌/◌, ◌%◌, min, nat_lt, if◌then◌else◌, List, ◌++◌, pos, codes}
use Rattle.jiff_core.specs.Calendar.{days_in_year, days_in_month}
use Rattle.jiff_fmt.specs.Text.{pad2, pad4}

-- the year that holds a day, and the days of it that lie before: the day is counted from a year on, and so many years
-- are tried at most
unfoldable pub year_of : ℕ → ℕ → ℕ → ℕ × ℕ
year_of zero year days = (year, days)
year_of (suc turns) year days = if nat_lt days (days_in_year (pos year))
    then (year, days) else year_of turns (year + 1) (days - days_in_year (pos year))

-- the same for a day that is counted from 1970 on
unfoldable pub year_at : ℕ → ℕ × ℕ
year_at day = year_of day 1970 day

-- the month of a year that holds a day, and the days of it that lie before: the day is counted from a month on
unfoldable pub month_of : ℕ → ℕ → ℕ → ℕ → ℕ × ℕ
month_of zero year month days = (month, days)
month_of (suc turns) year month days = if nat_lt days (days_in_month (pos year) month)
    then (month, days) else month_of turns year (month + 1) (days - days_in_month (pos year) month)

-- the same for a day that is counted from 1970 on
unfoldable pub month_at : ℕ → ℕ × ℕ
month_at day = month_of 12 (year_at day).0 1 (year_at day).1

-- the date of a day that is counted from 1970 on: year, month and day
unfoldable pub date_text : ℕ → List ℕ
date_text day = pad4 (year_at day).0 ++ codes "-" ++ pad2 (month_at day).0 ++ codes "-" ++ pad2 ((month_at day).1 + 1)

-- the time of a second of a day: hour, minute and second
unfoldable pub time_text : ℕ → List ℕ
time_text second = pad2 (second / 3600) ++ codes ":" ++ pad2 (second % 3600 / 60) ++ codes ":" ++ pad2 (second % 60)

-- the last moment that has a text, the last second of the year 9999
abbrev pub last_moment : ℕ
last_moment = 253_402_300_799

-- the date and time of a moment, which is in seconds since 1970
unfoldable pub stamp_text : ℕ → List ℕ
stamp_text moment = date_text (moment / 86400) ++ codes "T" ++ time_text (moment % 86400) ++ codes "Z"

-- a moment as a text; one after the last that has a text is told as that one
unfoldable pub moment_text : ℕ → List ℕ
moment_text moment = stamp_text (min moment last_moment)
