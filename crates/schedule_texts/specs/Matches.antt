-- At which moments a schedule is due.
use Rattle.std.specs.Prelude.{ℕ, ◌/◌, ◌%◌, Bool, false, ◌==◌, ◌&&◌, ◌||◌, if◌then◌else◌, List, codes, Option, Some, None}
use Rattle.schedule_texts.specs.Numbers.{has}
use Rattle.schedule_texts.specs.Fields.{fields_of}
use Rattle.schedule_texts.specs.Calendar.{date_of, weekday_of}
use Rattle.schedule_texts.specs.declared.fields.FieldSets.{FieldSets}
use Rattle.schedule_texts.specs.declared.aliases.AliasSet.{AliasSet}
use Rattle.schedule_texts.specs.declared.minute.CivilMinute.{CivilMinute}
use Rattle.schedule_texts.specs.declared.schedule.Schedule.{Schedule}
use Rattle.schedule_texts.specs.declared.schedule.Schedule.TheVariants.{Fields, Aliases}

-- the day is in both day fields; where neither of them is `*` it is enough that it is in one
abbrev pub fits_day : FieldSets → CivilMinute → Bool
fits_day fields at =
    if fields.any_day || fields.any_weekday
    then has fields.days at.day && has fields.weekdays at.weekday
    else has fields.days at.day || has fields.weekdays at.weekday

-- minute, hour and month are in their fields, and the day is right
abbrev pub fits_fields : FieldSets → CivilMinute → Bool
fits_fields fields at =
    has fields.minutes at.minute && has fields.hours at.hour && has fields.months at.month && fits_day fields at

-- the minute fits the fields that a text says
abbrev pub fits_read : Option FieldSets → CivilMinute → Bool
fits_read (Some fields) at = fits_fields fields at
fits_read None at = false

abbrev pub fits_text : List ℕ → CivilMinute → Bool
fits_text text at = fits_read (fields_of text) at

-- one of the aliases fits: what each stands for
unfoldable pub fits_aliases : AliasSet → CivilMinute → Bool
fits_aliases aliases at =
    (aliases.hourly && fits_text (codes "0 * * * *") at)
    || (aliases.daily && fits_text (codes "0 0 * * *") at)
    || (aliases.weekly && fits_text (codes "0 0 * * 0") at)
    || (aliases.monthly && fits_text (codes "0 0 1 * *") at)
    || (aliases.yearly && fits_text (codes "0 0 1 1 *") at)

abbrev pub fits : Schedule → CivilMinute → Bool
fits (Fields fields) at = fits_fields fields at
fits (Aliases aliases) at = fits_aliases aliases at

-- the minute of the calendar in which a moment lies, which is in seconds since 1970
unfoldable pub minute_of : ℕ → CivilMinute
minute_of moment =
    let date = date_of (moment / 86400) in
    record {
      minute = moment / 60 % 60;
      hour = moment / 3600 % 24;
      day = date.day;
      month = date.month;
      weekday = weekday_of (moment / 86400);
    }

-- the schedule is due at the moment: it begins a minute, and the minute fits
unfoldable pub matches : Schedule → ℕ → Bool
matches schedule moment = moment % 60 == 0 && fits schedule (minute_of moment)
