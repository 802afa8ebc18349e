-- The five fields of a schedule.
use Rattle.std.specs.Prelude.{ℕ, Bool, if◌then◌else◌, List, [], ◌∷◌, map, codes, Option, Some, None, is_some}
use Rattle.std.specs.List.{list_all, list_any, slice_split}
use Rattle.std.specs.Str.{bytes_eq}
use Rattle.schedule_texts.specs.Signs.{is_comma, is_space}
use Rattle.schedule_texts.specs.Numbers.{set_of}
use Rattle.schedule_texts.specs.Parts.{part_of, is_named}
use Rattle.schedule_texts.specs.declared.numbers.NumberSet.{NumberSet}
use Rattle.schedule_texts.specs.declared.fields.FieldSets.{FieldSets}

-- The numbers of a field, which are from `least` to `most`: each text between commas is a part, and the numbers are
-- those that a part has.
unfoldable pub field_of : ℕ → ℕ → List ℕ → Option NumberSet
field_of least most text =
    let parts = map (part_of least most) (slice_split is_comma text) in
    if list_all is_some parts
    then Some (set_of (λ number. list_any (is_named number) parts)) else None

-- the fields, where each of the five has its numbers
abbrev pub fields_with : Option NumberSet → Option NumberSet → Option NumberSet → Option NumberSet → Option NumberSet
    → Bool → Bool → Option FieldSets
fields_with (Some minutes) (Some hours) (Some days) (Some months) (Some weekdays) any_day any_weekday = Some (record {
  minutes = minutes;
  hours = hours;
  days = days;
  months = months;
  weekdays = weekdays;
  any_day = any_day;
  any_weekday = any_weekday;
})
fields_with minutes hours days months weekdays any_day any_weekday = None

-- minute, hour, day, month and weekday, in this order
abbrev pub fields_in : List (List ℕ) → Option FieldSets
fields_in (minutes ∷ hours ∷ days ∷ months ∷ weekdays ∷ []) =
    fields_with (field_of 0 59 minutes) (field_of 0 23 hours) (field_of 1 31 days) (field_of 1 12 months)
    (field_of 0 6 weekdays) (bytes_eq days (codes "*")) (bytes_eq weekdays (codes "*"))
fields_in texts = None

-- five fields with one space between them
unfoldable pub fields_of : List ℕ → Option FieldSets
fields_of text = fields_in (slice_split is_space text)
