-- The dates of jiff are those of the plain calendar.
use Rattle.std.proofs.Common.{◌≡◌, ℕ, zero, suc, ◌+◌, ◌-◌, ◌*◌, ◌/◌, ◌%◌, ◌<◌, ◌≤◌, min, nat_lt, Bool, true, false, if◌then◌else◌, ℤ, pos, ◌+ℤ◌, ◌*ℤ◌, Some, None, refl, sym, ap, ◌∙◌, arith, rules}
use Rattle.std.proofs.lemmas.Bool.Decides.{nat_tests}
use Rattle.jiff_core.specs.declared.civil.date.Date.{Date as Civil}
use Rattle.jiff_core.specs.declared.span.Span.{Span}
use Rattle.jiff_core.specs.declared.unit.Unit.TheVariants.{Day, Month, Hour, Minute, Second, Millisecond, Microsecond, Nanosecond}
use Rattle.jiff_core.specs.Calendar.{day_count, days_in_month, days_from_civil, weekday_number, IsEpochDay}
use Rattle.jiff_core.specs.Calendar.{days_of_months as civil_months}
use Rattle.jiff_core.specs.Sign.{signed}
use Rattle.jiff_core.specs.Span.{span_months, span_days, clock_days}
use Rattle.jiff_core.specs.Date.{epoch_day, IsYmd}
use Rattle.jiff.specs.Words.{IsOnly, date_add, add_months, month_number, shifted_year, shifted_month, CanAddToDate}
use Rattle.jiff.proofs.SpanFacts.{date_add-days}
use Rattle.jiff_core.proofs.SignedLemmas.{signed_arith}
use Rattle.jiff_core.proofs.CalendarLemmas.{day_count-epoch, days_from_civil-day_count, day_count-day_of_year, day_count-next_year, day_count-later_year, day_count-end, weekday_number-parts}
use Rattle.jiff_core.proofs.DateLemmas.{epoch_day_range, epoch_day_injective}
use Rattle.schedule_texts.specs.Calendar.{Date, IsDate, month_length, days_of_years, days_of_months, day_of, date_of, months_later, month_number as month_number_of}
use Rattle.size_values.specs.Moments.{moment_limit}
use Rattle.size_values.specs.declared.expiry.Expiry.{Expiry}
use Rattle.schedule_texts.specs.Expires.{later_day, months_in, seconds_in, end_of, expires_at}
use Rattle.schedule_texts.proofs.Dates.{date_of_is, day_of_date_of}
use Rattle.snapshot_clock.specs.Days.{day_limit, if_day}

-- the first of January 1970 is day 0
pub epoch : (d : Civil) → IsYmd (pos 1970) (pos 1) (pos 1) d → epoch_day d ≡ pos 0
epoch d h =
    let m : d.month ≡ 1 = omega (arith, signed_arith, h.1) in
    let k : d.day ≡ 1 = omega (arith, signed_arith, h.2) in
    rw (h.0, m, k) (omega (arith, signed_arith, days_from_civil-day_count (pos 1970) 1 1, day_count-epoch))

-- a day of the calendar is some days after the first of January 1970
pub day_fits : (first : Civil) (day : ℕ) → epoch_day first ≡ pos 0 → day < day_limit → IsEpochDay (epoch_day first +ℤ pos day)
day_fits first day e h = (omega (arith, signed_arith, e, h), omega (arith, signed_arith, e, h))

pub days_after : (first : Civil) (day : ℕ) (s : Span) → epoch_day first ≡ pos 0 → IsOnly Day (pos day) s → date_add first s ≡ pos day
days_after first day s e only = date_add-days first (pos day) s only ∙ rw e (omega (arith, signed_arith))

-- ---- both calendars count alike

months_same : (y n : ℕ) → civil_months (pos y) n ≡ days_of_months y n
unfolding civil_months days_of_months
months_same y zero = refl
months_same y (suc n) = ap (λ k. k + month_length y (suc n)) (months_same y n)

years_same : (n : ℕ) → day_count (pos (1970 + n)) 1 1 ≡ 4371953 + days_of_years n
unfolding days_of_years
years_same zero = day_count-epoch
years_same (suc n) =
    let next = day_count-next_year (pos (1970 + n)) (pos (1970 + suc n)) (omega (arith, signed_arith)) (omega (arith, signed_arith)) in
    omega (arith, next, years_same n)

-- the first of January of a year
year_same : (y : ℕ) → 1970 ≤ y → day_count (pos y) 1 1 ≡ 4371953 + days_of_years (y - 1970)
year_same y h =
    let there : 1970 + (y - 1970) ≡ y = omega arith in
    omega (arith, years_same (y - 1970), ap (λ k. day_count (pos k) 1 1) there)

-- the day of a date
pub civil_day : (date : Date) → IsDate date → days_from_civil (pos date.year) date.month date.day ≡ pos (day_of date)
unfolding day_of
civil_day date h =
    let whole = day_count-day_of_year (pos date.year) date.month date.day h.day_first in
    let same = months_same date.year (date.month - 1) in
    omega (arith, signed_arith, days_from_civil-day_count (pos date.year) date.month date.day, whole, same, year_same date.year h.since, h.day_first)

-- the years after 9999 begin after the last day
far : (date : Date) → IsDate date → 10000 ≤ date.year → day_limit ≤ day_of date
unfolding day_of
far date h late =
    let later = day_count-later_year (pos 9999) (pos date.year) (search rules) (omega (arith, signed_arith, late)) in
    let end = day_count-next_year (pos 9999) (pos 10000) (search rules) refl in
    omega (arith, later, end, day_count-end, year_same date.year h.since)

near : (date : Date) → IsDate date → day_of date < day_limit → date.year ≤ 9999
near date h early = not_more date.year 9999 (λ more. omega (arith, far date h more, early))
  where
    not_more : (a b : ℕ) → (b < a → ⊥) → a ≤ b
    not_more a b never = grind arith

-- ---- the date of a day

-- the year, month and day of a date
pub record IsSame (date : Date) (d : Civil) : Type 0 where
  pub year : d.year ≡ pos date.year
  pub month : d.month ≡ date.month
  pub day : d.day ≡ date.day

pub date_is : (d : Civil) (day : ℕ) → epoch_day d ≡ pos day → IsSame (date_of day) d
date_is d day e =
    let date = date_of day in
    let dated = date_of_is day in
    let early : day_of date < day_limit = omega (arith, signed_arith, day_of_date_of day, e, (epoch_day_range d).1) in
    let made : Civil = record {
      year = pos date.year;
      month = date.month;
      day = date.day;
      year_in = (omega (arith, signed_arith), omega (arith, signed_arith, near date dated early));
      month_in = (dated.month_first, dated.month_last);
      day_in = (dated.day_first, dated.day_last);
    } in
    let same = epoch_day_injective d made (e ∙ ap pos (sym (day_of_date_of day)) ∙ sym (civil_day date dated)) in
    record { year = same.0; month = same.1; day = same.2 }

-- the day of the week, from 0 for Sunday
pub sunday_first : (d : Civil) (day : ℕ) → epoch_day d ≡ pos day → (weekday_number (epoch_day d) + 1) % 7 ≡ (day + 4) % 7
sunday_first d day e = omega (arith, ap (λ z. weekday_number z) e, weekday_number-parts (pos day))

-- ---- months later

-- the year and month of a sum of months
shift_parts : (d : Civil) (k y : ℤ) (m : ℕ) → month_number d +ℤ k ≡ y *ℤ pos 12 +ℤ pos (m - 1) → 1 ≤ m → m ≤ 12 → (shifted_year d k ≡ y) × (shifted_month d k ≡ m)
shift_parts d k y m e low high = omega (arith, signed_arith)

-- the date so many months later is one of the calendar
month_some : (y m : ℕ) → 28 ≤ month_length y m
month_some y m = grind arith

later_is : (months : ℕ) (date : Date) → IsDate date → IsDate (months_later months date)
unfolding months_later
later_is months date h = record {
  since = omega (arith, h.since);
  month_first = omega arith;
  month_last = omega arith;
  day_first = omega (arith, h.day_first, month_some ((month_number_of date + months) / 12) ((month_number_of date + months) % 12 + 1));
  day_last = omega arith;
}

-- the year and month are those of jiff, and the day
pub record IsShifted (date : Date) (d : Civil) (months : ℕ) : Type 0 where
  pub year : shifted_year d (pos months) ≡ pos date.year
  pub month : shifted_month d (pos months) ≡ date.month
  pub day : add_months d (pos months) ≡ pos (day_of date)

by_parts : (y y₂ : ℤ) (m m₂ n n₂ : ℕ) → y ≡ y₂ → m ≡ m₂ → n ≡ n₂
    → days_from_civil y m (min n (days_in_month y m)) ≡ days_from_civil y₂ m₂ (min n₂ (days_in_month y₂ m₂))
by_parts y y₂ m m₂ n n₂ year month day = rw (year, month, day) refl

pub shifted : (d : Civil) (months : ℕ) (date : Date) → IsSame date d → IsDate date → IsShifted (months_later months date) d months
unfolding months_later
shifted d months date same dated =
    let parts = shift_parts d (pos months) (pos (months_later months date).year) (months_later months date).month
    (omega (arith, signed_arith, same.year, same.month)) (omega arith) (omega arith) in
    record {
      year = parts.0;
      month = parts.1;
      day =
          by_parts (shifted_year d (pos months)) (pos (months_later months date).year) (shifted_month d (pos months)) (months_later months date).month d.day date.day
          parts.0 parts.1 same.day
          ∙ civil_day (months_later months date) (later_is months date dated);
    }

-- ---- a day some months after a day

zero_days : (b : Bool) (n : ℕ) → n ≡ 0 → signed b n ≡ pos 0
zero_days true n e = rw e refl
zero_days false n e = rw e refl

-- a span of months alone
months_span : (d : Civil) (months : ℕ) (s : Span) → IsOnly Month (pos months) s → date_add d s ≡ add_months d (pos months)
months_span d months s only =
    let m : span_months s ≡ pos months = omega (arith, signed_arith, only.months) in
    let k : span_days s ≡ pos 0 = omega (arith, signed_arith, only.days) in
    let c : clock_days s ≡ pos 0 = zero_days s.negative _ (omega (
      arith,
      only.others Hour (omega arith),
      only.others Minute (omega arith),
      only.others Second (omega arith),
      only.others Millisecond (omega arith),
      only.others Microsecond (omega arith),
      only.others Nanosecond (omega arith),
    )) in
    rw (m, k, c) (omega (arith, signed_arith))

pub later_same : (d : Civil) (day months : ℕ) (s : Span) → epoch_day d ≡ pos day → IsOnly Month (pos months) s → date_add d s ≡ pos (later_day months day)
unfolding later_day
later_same d day months s e only = months_span d months s only ∙ (shifted d months (date_of day) (date_is d day e) (date_of_is day)).day

-- where the day so many months later is not too late, jiff has it
pub later_if : (d : Civil) (day months : ℕ) (s : Span) → epoch_day d ≡ pos day → IsOnly Month (pos months) s → later_day months day < day_limit → CanAddToDate d s
unfolding later_day
later_if d day months s e only early =
    let m : span_months s ≡ pos months = omega (arith, signed_arith, only.months) in
    let there = shifted d months (date_of day) (date_is d day e) (date_of_is day) in
    let year : shifted_year d (span_months s) ≡ pos (months_later months (date_of day)).year = ap (shifted_year d) m ∙ there.year in
    let few = near (months_later months (date_of day)) (later_is months (date_of day) (date_of_is day)) early in
    let last : date_add d s ≡ pos (later_day months day) = later_same d day months s e only in
    ((omega (arith, signed_arith, year), omega (arith, signed_arith, year, few)), (omega (arith, signed_arith, last), omega (arith, signed_arith, last, early)))

year_late : (months : ℕ) (date : Date) → IsDate date → 119988 < months → 10000 ≤ (months_later months date).year
unfolding months_later
year_late months date dated h = omega (arith, dated.since)

-- so many months that no year is left
pub too_many : (day months : ℕ) → 119988 < months → day_limit ≤ later_day months day
unfolding later_day
too_many day months h =
    far (months_later months (date_of day)) (later_is months (date_of day) (date_of_is day)) (year_late months (date_of day) (date_of_is day) h)

pub day_if : (day : ℕ) → day < day_limit → Some day ≡ if_day day
day_if day h = let test : nat_lt day day_limit ≡ true = grind (arith, nat_tests) in rw test refl

pub no_day : (day : ℕ) → day_limit ≤ day → None ≡ if_day day
no_day day h = let test : nat_lt day day_limit ≡ false = grind (arith, nat_tests) in rw test refl

-- jiff's date so many months later has that day
pub later_found : (d later : Civil) (day months found : ℕ) (s : Span) → epoch_day d ≡ pos day → IsOnly Month (pos months) s → epoch_day later ≡ date_add d s
    → pos found ≡ epoch_day later → Some found ≡ if_day (later_day months day)
later_found d later day months found s e only added is =
    let same : found ≡ later_day months day = omega (arith, signed_arith, is, added, later_same d day months s e only) in
    let early : found < day_limit = omega (arith, signed_arith, is, (epoch_day_range later).1) in
    day_if found early ∙ ap if_day same

pub later_missed : (d : Civil) (day months : ℕ) (s : Span) → epoch_day d ≡ pos day → IsOnly Month (pos months) s → (CanAddToDate d s → ⊥) → None ≡ if_day (later_day months day)
later_missed d day months s e only never =
    no_day (later_day months day) (not_more day_limit (later_day months day) (λ early. never (later_if d day months s e only early)))
  where
    not_more : (a b : ℕ) → (b < a → ⊥) → a ≤ b
    not_more a b never = grind arith

-- ---- the end of an expiry

some_day : (n day : ℕ) (b : Bool) → nat_lt n day_limit ≡ b → Some day ≡ (if b then Some n else None) → day ≡ n
some_day n day true t e = cc
some_day n day false t e = absurd (cc)

late_day : (n : ℕ) (b : Bool) → nat_lt n day_limit ≡ b → None ≡ (if b then Some n else None) → day_limit ≤ n
late_day n true t e = absurd (cc)
late_day n false t e = grind (arith, nat_tests)

if_moment : (moment : ℕ) → moment < moment_limit → Some moment ≡ (if nat_lt moment moment_limit then Some moment else None)
if_moment moment h = let test : nat_lt moment moment_limit ≡ true = grind (arith, nat_tests) in rw test refl

no_moment : (moment : ℕ) → moment_limit ≤ moment → None ≡ (if nat_lt moment moment_limit then Some moment else None)
no_moment moment h = let test : nat_lt moment moment_limit ≡ false = grind (arith, nat_tests) in rw test refl

-- the end where the day so many months later was found
end_is : (created day : ℕ) (expiry : Expiry) → Some day ≡ if_day (later_day (months_in expiry) (created / 86400))
    → end_of created expiry ≡ day * 86400 + created % 86400 + seconds_in expiry
unfolding end_of
end_is created day expiry found =
    let same : day ≡ later_day (months_in expiry) (created / 86400) = some_day (later_day (months_in expiry) (created / 86400)) day (nat_lt (later_day (months_in expiry) (created / 86400)) day_limit) refl found in
    ap (λ k. k * 86400 + created % 86400 + seconds_in expiry) (sym same)

pub expires_then : (created day : ℕ) (expiry : Expiry) → Some day ≡ if_day (later_day (months_in expiry) (created / 86400))
    → day * 86400 + created % 86400 + seconds_in expiry < moment_limit → Some (day * 86400 + created % 86400 + seconds_in expiry) ≡ expires_at created expiry
unfolding expires_at
expires_then created day expiry found h =
    let same = end_is created day expiry found in
    ap Some (sym same) ∙ if_moment (end_of created expiry) (omega (arith, same, h))

pub expires_never : (created day : ℕ) (expiry : Expiry) → Some day ≡ if_day (later_day (months_in expiry) (created / 86400))
    → moment_limit ≤ day * 86400 + created % 86400 + seconds_in expiry → None ≡ expires_at created expiry
unfolding expires_at
expires_never created day expiry found h = no_moment (end_of created expiry) (omega (arith, end_is created day expiry found, h))

pub expires_beyond : (created : ℕ) (expiry : Expiry) → None ≡ if_day (later_day (months_in expiry) (created / 86400)) → None ≡ expires_at created expiry
unfolding expires_at end_of
expires_beyond created expiry missed =
    let late = late_day (later_day (months_in expiry) (created / 86400)) (nat_lt (later_day (months_in expiry) (created / 86400)) day_limit) refl missed in
    no_moment (end_of created expiry) (omega (arith, late))
