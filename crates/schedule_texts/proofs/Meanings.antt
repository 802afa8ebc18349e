-- What the aliases stand for, as sets of numbers.
use Rattle.std.proofs.Common.{◌≡◌, ℕ, Bool, true, false, ◌&&◌, ◌||◌, Some, refl}
use Rattle.std.specs.Prelude.{codes}
use Rattle.schedule_texts.specs.declared.fields.FieldSets.{FieldSets}
use Rattle.schedule_texts.specs.declared.aliases.AliasSet.{AliasSet}
use Rattle.schedule_texts.specs.declared.minute.CivilMinute.{CivilMinute}
use Rattle.schedule_texts.specs.Numbers.{bits_below}
use Rattle.schedule_texts.specs.Parts.{part_of, range_of, number_of}
use Rattle.schedule_texts.specs.Fields.{fields_of, field_of}
use Rattle.schedule_texts.specs.Matches.{fits_aliases, fits_fields}

abbrev fields : ℕ → ℕ → ℕ → ℕ → ℕ → Bool → Bool → FieldSets
fields minutes hours days months weekdays any_day any_weekday = record {
  minutes = record { bits = minutes };
  hours = record { bits = hours };
  days = record { bits = days };
  months = record { bits = months };
  weekdays = record { bits = weekdays };
  any_day = any_day;
  any_weekday = any_weekday;
}

hourly : fields_of (codes "0 * * * *") ≡ Some (fields 1 0xffffff 0xfffffffe 0x1ffe 0x7f true true)
unfolding fields_of field_of part_of range_of number_of bits_below
hourly = refl

daily : fields_of (codes "0 0 * * *") ≡ Some (fields 1 1 0xfffffffe 0x1ffe 0x7f true true)
unfolding fields_of field_of part_of range_of number_of bits_below
daily = refl

weekly : fields_of (codes "0 0 * * 0") ≡ Some (fields 1 1 0xfffffffe 0x1ffe 1 true false)
unfolding fields_of field_of part_of range_of number_of bits_below
weekly = refl

monthly : fields_of (codes "0 0 1 * *") ≡ Some (fields 1 1 2 0x1ffe 0x7f false true)
unfolding fields_of field_of part_of range_of number_of bits_below
monthly = refl

yearly : fields_of (codes "0 0 1 1 *") ≡ Some (fields 1 1 2 2 0x7f false true)
unfolding fields_of field_of part_of range_of number_of bits_below
yearly = refl

pub meanings : (aliases : AliasSet) (at : CivilMinute) → fits_aliases aliases at
    ≡ ((aliases.hourly && fits_fields (fields 1 0xffffff 0xfffffffe 0x1ffe 0x7f true true) at)
    || (aliases.daily && fits_fields (fields 1 1 0xfffffffe 0x1ffe 0x7f true true) at)
    || (aliases.weekly && fits_fields (fields 1 1 0xfffffffe 0x1ffe 1 true false) at)
    || (aliases.monthly && fits_fields (fields 1 1 2 0x1ffe 0x7f false true) at)
    || (aliases.yearly && fits_fields (fields 1 1 2 2 0x7f false true) at))
unfolding fits_aliases
meanings aliases at = rw (hourly, daily, weekly, monthly, yearly) refl
