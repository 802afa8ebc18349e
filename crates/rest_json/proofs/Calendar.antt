-- The date of a day is the one that the calendar has: the year and the month that hold it are those that the walk finds.
use Rattle.std.proofs.Common.{◌≡◌, ◌++◌, ℕ, zero, suc, ◌+◌, ◌-◌, ◌/◌, ◌%◌, ◌<◌, ◌≤◌, nat_lt, Bool, true, false, if◌then◌else◌, ℤ, pos, ◌+ℤ◌, refl, sym, ap, ◌∙◌, arith, rules}
use Rattle.std.specs.Prelude.{codes}
use Rattle.std.proofs.lemmas.Bool.Decides.{nat_tests}
use Rattle.jiff_core.specs.declared.civil.date.Date.{Date}
use Rattle.jiff_core.specs.Calendar.{day_count, days_of_months, days_in_month, days_in_year, IsYear}
use Rattle.jiff_core.specs.Date.{epoch_day, IsYmd}
use Rattle.jiff_core.specs.declared.civil.datetime.DateTime.{DateTime}
use Rattle.jiff_core.specs.declared.civil.time.Time.{Time}
use Rattle.jiff_core.specs.declared.span.Span.{Span}
use Rattle.jiff_core.specs.declared.unit.Unit.TheVariants.{Day}
use Rattle.jiff.specs.Words.{IsOnly, date_add, IsEpochDay, iso_datetime_text}
use Rattle.jiff.proofs.SpanFacts.{date_add-days}
use Rattle.jiff_core.proofs.SignedLemmas.{signed_arith}
use Rattle.jiff_core.proofs.CalendarLemmas.{day_count-epoch, days_from_civil-day_count, days_in_year_bounds, days_of_months-zero, days_of_months_more, days_of_months_all, days_of_months_mono, day_count-day_of_year, day_count-next_year, day_count-later_year, day_count-end, day_count_bounds, day_count-year_is}
use Rattle.jiff_core.proofs.DateLemmas.{civil}
use Rattle.rest_json.specs.Moments.{year_of, year_at, month_of, month_at, date_text, time_text, stamp_text}

-- the first of January 1970 is day 0
pub epoch : (d : Date) → IsYmd (pos 1970) (pos 1) (pos 1) d → epoch_day d ≡ pos 0
epoch d h =
    let m : d.month ≡ 1 = omega (arith, signed_arith, h.1) in
    let k : d.day ≡ 1 = omega (arith, signed_arith, h.2) in
    rw (h.0, m, k) (omega (arith, signed_arith, days_from_civil-day_count (pos 1970) 1 1, day_count-epoch))

-- ---- the year

-- a year and the days of it that lie before a day, where the day is counted from another year on
record IsYearDay (y n : ℕ) (r : ℕ × ℕ) : Type 0 where
  is : day_count (pos r.0) 1 1 + r.1 ≡ day_count (pos y) 1 1 + n
  within : r.1 < days_in_year (pos r.0)

less_if : (n l : ℕ) → nat_lt n l ≡ true → n < l
less_if n l e = grind (arith, nat_tests)

more_if : (n l : ℕ) → nat_lt n l ≡ false → l ≤ n
more_if n l e = grind (arith, nat_tests)

next_year : (y : ℕ) → day_count (pos (y + 1)) 1 1 ≡ day_count (pos y) 1 1 + days_in_year (pos y)
next_year y = day_count-next_year (pos y) (pos (y + 1)) (omega (arith, signed_arith)) (omega (arith, signed_arith))

-- one year of the walk: the day is in it, or it is counted from the next one on
year_step : (turns y n : ℕ) (b : Bool) → nat_lt n (days_in_year (pos y)) ≡ b
    → (days_in_year (pos y) ≤ n → IsYearDay (y + 1) (n - days_in_year (pos y)) (year_of turns (y + 1) (n - days_in_year (pos y))))
    → IsYearDay y n (if b then (y, n) else year_of turns (y + 1) (n - days_in_year (pos y)))
year_step turns y n true e later = record { is = refl; within = less_if n (days_in_year (pos y)) e }
year_step turns y n false e later =
    let past = more_if n (days_in_year (pos y)) e in
    let rest = later past in
    let next = next_year y in
    record { is = omega (arith, rest.is, next, past); within = rest.within }

year_found : (turns y n : ℕ) → n ≤ turns → IsYearDay y n (year_of turns y n)
unfolding year_of
year_found zero y n h =
    let long = days_in_year_bounds (pos y) in
    record { is = refl; within = omega (arith, h, long.1) }
year_found (suc turns) y n h =
    let long = days_in_year_bounds (pos y) in
    year_step turns y n (nat_lt n (days_in_year (pos y))) refl (λ past. year_found turns (y + 1) (n - days_in_year (pos y)) (omega (arith, h, past, long.1)))

not_more : (a b : ℕ) → (b < a → ⊥) → a ≤ b
not_more a b never = grind arith

-- a year that begins on a day of the calendar is one of it
year_fits : (y : ℕ) → day_count (pos y) 1 1 ≤ 7_304_849 → IsYear (pos y)
year_fits y h =
    let few : y ≤ 9999 = not_more y 9999 (λ more.
    let late = day_count-later_year (pos 9999) (pos y) (search rules) (omega (arith, signed_arith, more)) in
    let end = day_count-next_year (pos 9999) (pos 10000) (search rules) refl in
    omega (arith, h, late, end, day_count-end)) in
    (omega (arith, signed_arith, few), omega (arith, signed_arith, few))

-- ---- the month

-- a month and the days of it that lie before a day, where the day is counted from another month on
record IsMonthDay (y m n : ℕ) (r : ℕ × ℕ) : Type 0 where
  is : days_of_months (pos y) (r.0 - 1) + r.1 ≡ days_of_months (pos y) (m - 1) + n
  within : r.1 < days_in_month (pos y) r.0
  first : 1 ≤ r.0

month_after : (y m : ℕ) → days_of_months (pos y) (m + 1 - 1) ≡ days_of_months (pos y) m
month_after y m =
    let back : m + 1 - 1 ≡ m = omega arith in
    ap (days_of_months (pos y)) back

-- one month of the walk: the day is in it, or it is counted from the next one on
month_step : (turns y m n : ℕ) (b : Bool) → 1 ≤ m → nat_lt n (days_in_month (pos y) m) ≡ b
    → (days_in_month (pos y) m ≤ n → IsMonthDay y (m + 1) (n - days_in_month (pos y) m) (month_of turns y (m + 1) (n - days_in_month (pos y) m)))
    → IsMonthDay y m n (if b then (m, n) else month_of turns y (m + 1) (n - days_in_month (pos y) m))
month_step turns y m n true low e later = record { is = refl; within = less_if n (days_in_month (pos y) m) e; first = low }
month_step turns y m n false low e later =
    let past = more_if n (days_in_month (pos y) m) e in
    let rest = later past in
    let more = days_of_months_more (pos y) m low in
    let here = month_after y m in
    record { is = omega (arith, rest.is, more, here, past); within = rest.within; first = rest.first }

month_found : (turns y m n : ℕ) → 1 ≤ m → m + turns ≡ 13 → days_of_months (pos y) (m - 1) + n < days_of_months (pos y) 12 → IsMonthDay y m n (month_of turns y m n)
unfolding month_of
month_found zero y m n low all h =
    let last : m - 1 ≡ 12 = omega arith in
    let whole = ap (days_of_months (pos y)) last in
    absurd (omega (arith, h, whole))
month_found (suc turns) y m n low all h =
    let more = days_of_months_more (pos y) m low in
    let here = month_after y m in
    month_step turns y m n (nat_lt n (days_in_month (pos y) m)) low refl (λ past. month_found turns y (m + 1) (n - days_in_month (pos y) m) (omega arith) (omega (arith, all)) (omega (arith, h, past, more, here)))

-- two months that hold one day are one month
same_month : (y : ℤ) (a i b j : ℕ) → 1 ≤ a → 1 ≤ b → i < days_in_month y a → j < days_in_month y b → days_of_months y (a - 1) + i ≡ days_of_months y (b - 1) + j → a ≤ b
same_month y a i b j low_a low_b fits_a fits_b e = not_more a b (λ more.
    let later = days_of_months_mono y b (a - 1) (omega arith) in
    let whole = days_of_months_more y b low_b in
    omega (arith, later, whole, fits_b, e))

-- ---- the date

-- the year, month and day of a date whose day is counted from 1970 on
pub record IsDateOf (day : ℕ) (d : Date) : Type 0 where
  pub year : d.year ≡ pos (year_at day).0
  pub month : d.month ≡ (month_at day).0
  pub day_is : d.day ≡ (month_at day).1 + 1

pub date_is : (d : Date) (day : ℕ) → epoch_day d ≡ pos day → IsDateOf day d
unfolding year_at month_at
date_is d day e = record { year = year; month = month; day_is = days }
  where
    found : IsYearDay 1970 day (year_at day)
    found = year_found day 1970 day (omega arith)

    count : day_count d.year d.month d.day ≡ day_count (pos 1970) 1 1 + day
    count = omega (arith, signed_arith, days_from_civil-day_count d.year d.month d.day, day_count-epoch, e)

    placed : day_count d.year d.month d.day ≡ day_count (pos (year_at day).0) 1 1 + (year_at day).1
    placed = count ∙ sym found.is

    bounds : (366 ≤ day_count d.year d.month d.day) × (day_count d.year d.month d.day ≤ 7_304_849)
    bounds = day_count_bounds d.year d.month d.day (civil d)

    year : d.year ≡ pos (year_at day).0
    year =
        day_count-year_is (pos (year_at day).0) d.year d.month d.day
        (year_fits (year_at day).0 (omega (arith, placed, bounds.1))) (civil d)
        (omega (arith, placed)) (omega (arith, placed, found.within))

    in_year : days_of_months (pos (year_at day).0) (d.month - 1) + d.day ≡ (year_at day).1 + 1
    in_year =
        let first : 1 ≤ d.day = omega (arith, d.day_in.0) in
        let whole = day_count-day_of_year d.year d.month d.day first in
        let there = rw year at placed in
        let parts = rw year at whole in
        omega (arith, there, parts)

    walked : IsMonthDay (year_at day).0 1 (year_at day).1 (month_at day)
    walked =
        let none = days_of_months-zero (pos (year_at day).0) in
        let all = days_of_months_all (pos (year_at day).0) in
        month_found 12 (year_at day).0 1 (year_at day).1 (omega arith) refl (omega (arith, none, all, found.within))

    held : d.day - 1 < days_in_month (pos (year_at day).0) d.month
    held =
        let inside = rw year at d.day_in in
        omega (arith, inside.0, inside.1)

    same : days_of_months (pos (year_at day).0) (d.month - 1) + (d.day - 1) ≡ days_of_months (pos (year_at day).0) ((month_at day).0 - 1) + (month_at day).1
    same =
        let none = days_of_months-zero (pos (year_at day).0) in
        omega (arith, in_year, walked.is, none, d.day_in.0)

    month : d.month ≡ (month_at day).0
    month =
        let up = same_month (pos (year_at day).0) d.month (d.day - 1) (month_at day).0 (month_at day).1 (omega (arith, d.month_in.0)) walked.first held walked.within same in
        let down = same_month (pos (year_at day).0) (month_at day).0 (month_at day).1 d.month (d.day - 1) walked.first (omega (arith, d.month_in.0)) walked.within held (sym same) in
        omega (arith, up, down)

    days : d.day ≡ (month_at day).1 + 1
    days =
        let there = rw (← month) at same in
        omega (arith, there, d.day_in.0)

-- ---- the text

-- a day of the calendar is some days after the first of January 1970
pub day_fits : (first : Date) (day : ℕ) → epoch_day first ≡ pos 0 → day < 2_932_897 → IsEpochDay (epoch_day first +ℤ pos day)
day_fits first day e h = (omega (arith, signed_arith, e, h), omega (arith, signed_arith, e, h))

pub days_after : (first : Date) (day : ℕ) (s : Span) → epoch_day first ≡ pos 0 → IsOnly Day (pos day) s → date_add first s ≡ pos day
days_after first day s e only = date_add-days first (pos day) s only ∙ rw e (omega (arith, signed_arith))

-- the text of a date and time is the one of their moment
pub stamp_is : (civil : DateTime) (date : Date) (time : Time) (moment : ℕ) → civil.date ≡ date → civil.time ≡ time → epoch_day date ≡ pos (moment / 86400)
    → time.hour ≡ moment % 86400 / 3600 → time.minute ≡ moment % 86400 % 3600 / 60 → time.second ≡ moment % 86400 % 60 → time.subsec_nanosecond ≡ 0
    → iso_datetime_text civil ++ codes "Z" ≡ stamp_text moment
unfolding stamp_text date_text time_text
stamp_is civil date time moment same_date same_time day hour minute second whole =
    let there : epoch_day civil.date ≡ pos (moment / 86400) = ap epoch_day same_date ∙ day in
    let parts = date_is civil.date (moment / 86400) there in
    let hours : civil.time.hour ≡ moment % 86400 / 3600 = ap (λ (t : Time). t.hour) same_time ∙ hour in
    let minutes : civil.time.minute ≡ moment % 86400 % 3600 / 60 = ap (λ (t : Time). t.minute) same_time ∙ minute in
    let seconds : civil.time.second ≡ moment % 86400 % 60 = ap (λ (t : Time). t.second) same_time ∙ second in
    let wholes : civil.time.subsec_nanosecond ≡ 0 = ap (λ (t : Time). t.subsec_nanosecond) same_time ∙ whole in
    rw (parts.year, parts.month, parts.day_is, hours, minutes, seconds, wholes) refl
