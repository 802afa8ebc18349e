-- What the examples speak of.
use Rattle.std.specs.Prelude.{ℕ, Bool, codes}
use Rattle.size_values.specs.declared.expiry.Expiry.{Expiry}
use Rattle.schedule_texts.specs.Matches.{fits_text, minute_of}

-- an expiry of months and days
abbrev pub after_months_and_days : ℕ → ℕ → Expiry
after_months_and_days months days =
    record { minutes = 0; hours = 0; days = days; weeks = 0; months = months; years = 0 }

-- the moment fits the 13th of a month or a Monday, at midnight
abbrev pub is_due_on : ℕ → Bool
is_due_on moment = fits_text (codes "0 0 13 * 1") (minute_of moment)
