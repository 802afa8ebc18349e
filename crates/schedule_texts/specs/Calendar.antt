-- The calendar in plain arithmetic, from 1970 on: days are counted from its first of January, which is day 0.
use Rattle.std.specs.Prelude.{ℕ, zero, suc, ◌+◌, ◌-◌, ◌*◌, ◌/◌, ◌%◌, ◌≤◌, min, Bool, not, ◌==◌, ◌&&◌, ◌||◌, if◌then◌else◌, nat_lt}

-- a date
pub record Date : Type 0 where
  pub year : ℕ
  pub month : ℕ
  pub day : ℕ

-- every fourth year, but of the centuries only every fourth
abbrev pub is_leap : ℕ → Bool
is_leap year = (year % 4 == 0) && (not (year % 100 == 0) || (year % 400 == 0))

abbrev pub year_length : ℕ → ℕ
year_length year = if is_leap year then 366 else 365

-- thirty days have April, June, September and November
abbrev pub month_length : ℕ → ℕ → ℕ
month_length year month =
    if month == 2 then (if is_leap year then 29 else 28)
    else (if (month == 4) || (month == 6) || (month == 9) || (month == 11) then 30 else 31)

-- the days of the first n years from 1970 on
unfoldable pub days_of_years : ℕ → ℕ
days_of_years zero = 0
days_of_years (suc n) = days_of_years n + year_length (1970 + n)

-- the days of the first n months of the year
unfoldable pub days_of_months : ℕ → ℕ → ℕ
days_of_months year zero = 0
days_of_months year (suc n) = days_of_months year n + month_length year (suc n)

-- the calendar has the date
pub record IsDate (date : Date) : Type 0 where
  pub since : 1970 ≤ date.year
  pub month_first : 1 ≤ date.month
  pub month_last : date.month ≤ 12
  pub day_first : 1 ≤ date.day
  pub day_last : date.day ≤ month_length date.year date.month

-- the day of a date
unfoldable pub day_of : Date → ℕ
day_of date = days_of_years (date.year - 1970) + days_of_months date.year (date.month - 1) + (date.day - 1)

-- the date so many days after the first of a month, of at most so many months from there on
unfoldable pub in_months : ℕ → ℕ → ℕ → ℕ → Date
in_months zero year month days = record { year = year; month = month; day = days + 1 }
in_months (suc months) year month days = if nat_lt days (month_length year month)
    then record { year = year; month = month; day = days + 1 }
    else in_months months year (month + 1) (days - month_length year month)

-- the date so many days after the first of January of a year, of at most so many years from there on
unfoldable pub in_years : ℕ → ℕ → ℕ → Date
in_years zero year days = in_months 12 year 1 days
in_years (suc years) year days = if nat_lt days (year_length year)
    then in_months 12 year 1 days else in_years years (year + 1) (days - year_length year)

-- the date of a day: the years before it are left behind, then the months
unfoldable pub date_of : ℕ → Date
date_of day = in_years day 1970 day

-- the day of the week, from 0 for Sunday; day 0 was a Thursday
abbrev pub weekday_of : ℕ → ℕ
weekday_of day = (day + 4) % 7

-- months from January of the year 0 on
abbrev pub month_number : Date → ℕ
month_number date = date.year * 12 + (date.month - 1)

-- the date so many months later: the same day of that month, or its last where it is shorter
unfoldable pub months_later : ℕ → Date → Date
months_later months date =
    let number = month_number date + months in
    let year = number / 12 in
    let month = number % 12 + 1 in
    record { year = year; month = month; day = min date.day (month_length year month) }
