use Rattle.std.proofs.Common.{◌≡◌, ℕ, ◌+◌, ◌/◌, ◌%◌, arith, ap, ◌∙◌, w8}
use Rattle.std.specs.Prelude.{unsigned_abs}
use Rattle.jiff_core.proofs.SignedLemmas.{signed_arith, back_small}
use Rattle.jiff_core.proofs.CalendarLemmas.{days_in_month_bounds}
use Rattle.snapshot_clock.proofs.Calendar.{date_is, sunday_first}
use Rattle.schedule_texts.specs.Matches.{minute_of}
use Rattle.schedule_texts.specs.declared.minute.CivilMinute.{CivilMinute}
use Rattle.snapshot_clock.proofs.minutes.minute_of.Goals as goal

abbrev made : ℕ → ℕ → ℕ → ℕ → ℕ → CivilMinute
made minute hour day month weekday = record { minute = minute; hour = hour; day = day; month = month; weekday = weekday }

alike : (minute hour day month weekday day₂ month₂ weekday₂ : ℕ) → day ≡ day₂ → month ≡ month₂ → weekday ≡ weekday₂
    → made minute hour day month weekday ≡ made minute hour day₂ month₂ weekday₂
alike minute hour day month weekday day₂ month₂ weekday₂ d m w = cc

pub returns : goal.returns
unfolding minute_of
returns c =
    let same = date_is c.date_of-date.result (c.args.moment / 86400) c.date_of-date.ensures in
    let sunday = sunday_first c.date_of-date.result (c.args.moment / 86400) c.date_of-date.ensures in
    alike (c.args.moment / 60 % 60) (c.args.moment / 3600 % 24) _ _ _ _ _ _
    (ap unsigned_abs (back_small w8 c.day.result (omega (arith, signed_arith, c.day.ensures, c.date_of-date.result.day_in, days_in_month_bounds c.date_of-date.result.year c.date_of-date.result.month))) ∙ ap unsigned_abs c.day.ensures ∙ same.day)
    (ap unsigned_abs (back_small w8 c.month.result (omega (arith, signed_arith, c.month.ensures, c.date_of-date.result.month_in))) ∙ ap unsigned_abs c.month.ensures ∙ same.month)
    (ap unsigned_abs (back_small w8 c.to_sunday_zero_offset.result (omega (arith, signed_arith, c.to_sunday_zero_offset.ensures.value)))
    ∙ ap unsigned_abs c.to_sunday_zero_offset.ensures.value ∙ ap (λ n. (n + 1) % 7) c.weekday.ensures ∙ sunday)
