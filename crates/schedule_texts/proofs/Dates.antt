-- The date of a day is one of the calendar, and it is the one that has the day.
use Rattle.std.proofs.Common.{◌≡◌, ℕ, zero, suc, ◌+◌, ◌-◌, ◌<◌, ◌≤◌, nat_lt, Bool, true, false, if◌then◌else◌, refl, sym, ap, subst, ◌∙◌, arith}
use Rattle.std.proofs.lemmas.Bool.Decides.{nat_tests}
use Rattle.schedule_texts.specs.Calendar.{Date, IsDate, is_leap, year_length, month_length, days_of_years, days_of_months, day_of, in_months, in_years, date_of}

less_if : (n l : ℕ) → nat_lt n l ≡ true → n < l
less_if n l e = grind (arith, nat_tests)

more_if : (n l : ℕ) → nat_lt n l ≡ false → l ≤ n
more_if n l e = grind (arith, nat_tests)

-- ---- months

months_none : (y : ℕ) → days_of_months y 0 ≡ 0
unfolding days_of_months
months_none y = refl

pub months_more : (y m : ℕ) → 1 ≤ m → days_of_months y m ≡ days_of_months y (m - 1) + month_length y m
unfolding days_of_months
months_more y zero h = absurd (omega arith)
months_more y (suc m) h =
    let back : suc m - 1 ≡ m = omega arith in
    ap (λ k. days_of_months y k + month_length y (suc m)) (sym back)

by_leap : (b : Bool) → 31 + (if b then 29 else 28) + 31 + 30 + 31 + 30 + 31 + 31 + 30 + 31 + 30 + 31 ≡ (if b then 366 else 365)
by_leap true = refl
by_leap false = refl

pub months_all : (y : ℕ) → days_of_months y 12 ≡ year_length y
unfolding days_of_months
months_all y = by_leap (is_leap y)

-- a date of the year, so many days after its first of January
record IsDayIn (y days : ℕ) (date : Date) : Type 0 where
  year : date.year ≡ y
  is : days_of_months y (date.month - 1) + (date.day - 1) ≡ days
  month_first : 1 ≤ date.month
  month_last : date.month ≤ 12
  day_first : 1 ≤ date.day
  day_last : date.day ≤ month_length y date.month

-- one month of the walk: the day is in it, or it is counted from the next one on
month_step : (turns y m n : ℕ) (b : Bool) → 1 ≤ m → m ≤ 12 → nat_lt n (month_length y m) ≡ b
    → (month_length y m ≤ n → IsDayIn y (days_of_months y m + (n - month_length y m)) (in_months turns y (m + 1) (n - month_length y m)))
    → IsDayIn y (days_of_months y (m - 1) + n)
    (if b then record { year = y; month = m; day = n + 1 } else in_months turns y (m + 1) (n - month_length y m))
month_step turns y m n true low high e later = record {
  year = refl;
  is = omega arith;
  month_first = low;
  month_last = high;
  day_first = omega arith;
  day_last = omega (arith, less_if n (month_length y m) e);
}
month_step turns y m n false low high e later =
    let past = more_if n (month_length y m) e in
    let rest = later past in
    record {
      year = rest.year;
      is = omega (arith, rest.is, months_more y m low, past);
      month_first = rest.month_first;
      month_last = rest.month_last;
      day_first = rest.day_first;
      day_last = rest.day_last;
    }

month_found : (turns y m n : ℕ) → 1 ≤ m → m + turns ≡ 13 → days_of_months y (m - 1) + n < days_of_months y 12
    → IsDayIn y (days_of_months y (m - 1) + n) (in_months turns y m n)
unfolding in_months
month_found zero y m n low all h =
    let last : m - 1 ≡ 12 = omega arith in
    absurd (omega (arith, h, ap (days_of_months y) last))
month_found (suc turns) y m n low all h =
    month_step turns y m n (nat_lt n (month_length y m)) low (omega (arith, all)) refl
    (λ past.
    let back : m + 1 - 1 ≡ m = omega arith in
    let left = n - month_length y m in
    subst (λ (k : ℕ). IsDayIn y (days_of_months y k + left) (in_months turns y (m + 1) left)) back
    (month_found turns y (m + 1) left (omega arith) (omega (arith, all)) (omega (arith, h, past, months_more y m low, ap (days_of_months y) back))))

-- ---- years

years_more : (y : ℕ) → 1970 ≤ y → days_of_years (y + 1 - 1970) ≡ days_of_years (y - 1970) + year_length y
unfolding days_of_years
years_more y h =
    let next : y + 1 - 1970 ≡ suc (y - 1970) = omega arith in
    let there : 1970 + (y - 1970) ≡ y = omega arith in
    ap days_of_years next ∙ ap (λ k. days_of_years (y - 1970) + year_length k) there

year_bounds : (y : ℕ) → (year_length y ≤ 366) × (365 ≤ year_length y)
year_bounds y = grind arith

-- a date from a year on, so many days after its first of January
record IsDated (y days : ℕ) (date : Date) : Type 0 where
  later : y ≤ date.year
  is : day_of date ≡ days_of_years (y - 1970) + days
  dated : IsDate date

day_parts : (date : Date) (y : ℕ) → date.year ≡ y
    → day_of date ≡ days_of_years (y - 1970) + days_of_months y (date.month - 1) + (date.day - 1)
unfolding day_of
day_parts date y e = ap (λ k. days_of_years (k - 1970) + days_of_months k (date.month - 1) + (date.day - 1)) e

in_year : (y n : ℕ) → 1970 ≤ y → n < year_length y → IsDated y n (in_months 12 y 1 n)
in_year y n since h =
    let none = months_none y in
    let found = month_found 12 y 1 n (omega arith) refl (omega (arith, none, months_all y, h)) in
    record {
      later = omega (arith, found.year);
      is = omega (arith, day_parts (in_months 12 y 1 n) y found.year, found.is, none);
      dated = record {
        since = omega (arith, since, found.year);
        month_first = found.month_first;
        month_last = found.month_last;
        day_first = found.day_first;
        day_last = omega (arith, found.day_last, ap (λ k. month_length k (in_months 12 y 1 n).month) found.year);
      };
    }

year_step : (turns y n : ℕ) (b : Bool) → 1970 ≤ y → nat_lt n (year_length y) ≡ b
    → (year_length y ≤ n → IsDated (y + 1) (n - year_length y) (in_years turns (y + 1) (n - year_length y)))
    → IsDated y n (if b then in_months 12 y 1 n else in_years turns (y + 1) (n - year_length y))
year_step turns y n true since e later = in_year y n since (less_if n (year_length y) e)
year_step turns y n false since e later =
    let past = more_if n (year_length y) e in
    let rest = later past in
    record {
      later = omega (arith, rest.later);
      is = omega (arith, rest.is, years_more y since, past);
      dated = rest.dated;
    }

year_found : (turns y n : ℕ) → 1970 ≤ y → n ≤ turns → IsDated y n (in_years turns y n)
unfolding in_years
year_found zero y n since h = in_year y n since (omega (arith, h, (year_bounds y).1))
year_found (suc turns) y n since h =
    year_step turns y n (nat_lt n (year_length y)) since refl
    (λ past. year_found turns (y + 1) (n - year_length y) (omega (arith, since)) (omega (arith, h, past, (year_bounds y).1)))

-- ---- dates

pub date_of_is : (day : ℕ) → IsDate (date_of day)
unfolding date_of
date_of_is day = (year_found day 1970 day (omega arith) (omega arith)).dated

years_none : days_of_years (1970 - 1970) ≡ 0
unfolding days_of_years
years_none = refl

pub day_of_date_of : (day : ℕ) → day_of (date_of day) ≡ day
unfolding date_of
day_of_date_of day = omega (arith, (year_found day 1970 day (omega arith) (omega arith)).is, years_none)

-- ---- and each date is the one of its day

months_up : (y m k : ℕ) → days_of_months y m ≤ days_of_months y (m + k)
unfolding days_of_months
months_up y m zero = let none : m + 0 ≡ m = omega arith in omega (arith, ap (days_of_months y) none)
months_up y m (suc k) =
    let next : m + suc k ≡ suc (m + k) = omega arith in
    omega (arith, months_up y m k, ap (days_of_months y) next)

years_up : (n k : ℕ) → days_of_years n ≤ days_of_years (n + k)
unfolding days_of_years
years_up n zero = let none : n + 0 ≡ n = omega arith in omega (arith, ap days_of_years none)
years_up n (suc k) =
    let next : n + suc k ≡ suc (n + k) = omega arith in
    omega (arith, years_up n k, ap days_of_years next)

later_month : (y m later : ℕ) → m ≤ later → days_of_months y m ≤ days_of_months y later
later_month y m later h =
    let there : m + (later - m) ≡ later = omega arith in
    omega (arith, months_up y m (later - m), ap (days_of_months y) there)

later_year : (y later : ℕ) → 1970 ≤ y → y < later → days_of_years (y - 1970) + year_length y ≤ days_of_years (later - 1970)
later_year y later since h =
    let there : y + 1 - 1970 + (later - (y + 1)) ≡ later - 1970 = omega arith in
    omega (arith, years_more y since, years_up (y + 1 - 1970) (later - (y + 1)), ap days_of_years there)

-- a date lies before the end of its month, and of its year
in_month : (p : Date) → IsDate p → days_of_months p.year (p.month - 1) + p.day ≤ days_of_months p.year p.month
in_month p h = omega (arith, months_more p.year p.month h.month_first, h.day_last)

of_year : (p : Date) → IsDate p → days_of_months p.year (p.month - 1) + p.day ≤ year_length p.year
of_year p h = omega (arith, in_month p h, later_month p.year p.month 12 h.month_last, months_all p.year)

earlier_year : (p q : Date) → IsDate p → IsDate q → p.year < q.year → day_of p < day_of q
unfolding day_of
earlier_year p q h k less = omega (arith, of_year p h, h.day_first, later_year p.year q.year h.since less)

earlier_month : (p q : Date) → IsDate p → IsDate q → p.year ≡ q.year → p.month < q.month → day_of p < day_of q
unfolding day_of
earlier_month p q h k same less =
    let later = later_month p.year p.month (q.month - 1) (omega arith) in
    omega (arith, in_month p h, h.day_first, later, ap (λ y. days_of_years (y - 1970)) same, ap (λ y. days_of_months y (q.month - 1)) same)

not_less : (a b : ℕ) → (a < b → ⊥) → (b < a → ⊥) → a ≡ b
not_less a b up down = grind arith

same_date : (p q : Date) → IsDate p → IsDate q → day_of p ≡ day_of q → p ≡ q
unfolding day_of
same_date p q h k e = by year month day
  where
    year : p.year ≡ q.year
    year = not_less p.year q.year (λ less. omega (arith, e, earlier_year p q h k less)) (λ less. omega (arith, e, earlier_year q p k h less))

    month : p.month ≡ q.month
    month = not_less p.month q.month (λ less. omega (arith, e, earlier_month p q h k year less)) (λ less. omega (arith, e, earlier_month q p k h (sym year) less))

    day : p.day ≡ q.day
    day =
        let years = ap (λ y. days_of_years (y - 1970)) year in
        let months = ap (λ y. days_of_months y (p.month - 1)) year ∙ ap (λ m. days_of_months q.year (m - 1)) month in
        omega (arith, e, years, months, h.day_first, k.day_first)

    made : ℕ → ℕ → ℕ → Date
    made y m d = record { year = y; month = m; day = d }

    by : p.year ≡ q.year → p.month ≡ q.month → p.day ≡ q.day → p ≡ q
    by a b c = ap (λ y. made y p.month p.day) a ∙ ap (λ m. made q.year m p.day) b ∙ ap (λ d. made q.year q.month d) c

pub date_of_day_of : (date : Date) → IsDate date → date_of (day_of date) ≡ date
date_of_day_of date h = same_date (date_of (day_of date)) date (date_of_is (day_of date)) h (day_of_date_of (day_of date))
