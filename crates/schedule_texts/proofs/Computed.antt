-- Examples of the definitions, computed.
use Rattle.std.proofs.Common.{◌≡◌, true, false, Some, refl}
use Rattle.schedule_texts.specs.Numbers.{bits_below}
use Rattle.schedule_texts.specs.Parts.{part_of, range_of, number_of}
use Rattle.schedule_texts.specs.Fields.{field_of, fields_of}
use Rattle.schedule_texts.specs.Matches.{minute_of}
use Rattle.schedule_texts.specs.Calendar.{days_of_years, days_of_months, day_of, in_months, in_years, date_of, months_later}
use Rattle.schedule_texts.specs.Expires.{later_day, end_of, expires_at}
use Rattle.schedule_texts.specs.Worked.{after_months_and_days, is_due_on}

-- a month after the last day of January 2024, and a day more
pub month : expires_at 1706659200 (after_months_and_days 1 0) ≡ Some 1709164800
unfolding expires_at end_of later_day date_of in_years in_months months_later day_of days_of_years days_of_months
month = refl

pub month_and_day : expires_at 1706659200 (after_months_and_days 1 1) ≡ Some 1709251200
unfolding expires_at end_of later_day date_of in_years in_months months_later day_of days_of_years days_of_months
month_and_day = refl

-- Monday the 16th, Friday the 13th and Saturday the 14th of September 2024
pub monday : is_due_on 1726444800 ≡ true
unfolding fields_of field_of part_of range_of number_of bits_below minute_of date_of in_years in_months
monday = refl

pub saturday : is_due_on 1726272000 ≡ false
unfolding fields_of field_of part_of range_of number_of bits_below minute_of date_of in_years in_months
saturday = refl

pub friday_13 : is_due_on 1726185600 ≡ true
unfolding fields_of field_of part_of range_of number_of bits_below minute_of date_of in_years in_months
friday_13 = refl
