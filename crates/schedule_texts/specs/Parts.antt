-- The parts of a field: `*`, a number, two numbers with a dash between them, and a step behind a slash.
use Rattle.std.specs.Prelude.{ℕ, ◌-◌, ◌%◌, ◌<◌, ◌==◌, Bool, false, not, ◌&&◌, ◌||◌, if◌then◌else◌, List, length, codes}
use Rattle.std.specs.Prelude.{Option, Some, None, nat_le}
use Rattle.std.specs.Option.{option_map, option_or}
use Rattle.std.specs.List.{list_all, list_any, before_first, after_first}
use Rattle.std.specs.Char.{is_ascii_digit}
use Rattle.std.specs.Str.{bytes_eq}
use Rattle.std.specs.Str.Parse.{digits_value}
use Rattle.size_values.specs.Reading.{is_outside}
use Rattle.schedule_texts.specs.Signs.{is_dash, is_slash}
use Rattle.schedule_texts.specs.declared.part.Part.{Part}

-- all numbers of parts are below this
abbrev pub part_limit : ℕ
part_limit = 60

-- the number from `least` to `most` that a text of digits says; zeros may come first
unfoldable pub number_of : ℕ → ℕ → List ℕ → Option ℕ
number_of least most text =
    if length text == 0 || not (list_all is_ascii_digit text) || is_outside least most text
    then None else Some (digits_value 10 text)

-- each number from `low` to `high`
abbrev pub from_to : ℕ → ℕ → Part
from_to low high = record { low = low; high = high; step = 1 }

-- two numbers of which the first is not above the second
abbrev pub rising : Option ℕ → Option ℕ → Option Part
rising (Some low) (Some high) = if nat_le low high then Some (from_to low high) else None
rising low high = None

-- `*` is each number from `least` to `most`; `a-b` is each from a to b
unfoldable pub range_of : ℕ → ℕ → List ℕ → Option Part
range_of least most text =
    if bytes_eq text (codes "*") then Some (from_to least most)
    else if list_any is_dash text
    then rising (number_of least most (before_first is_dash text)) (number_of least most (after_first is_dash text))
    else None

-- each number of a range that lies so many steps after its first
abbrev pub stepped : Option Part → Option ℕ → Option Part
stepped (Some range) (Some step) = Some (record range { step = step })
stepped range step = None

-- a part is a range with a step from 1 to 59 behind a slash, a range without one, or a number
unfoldable pub part_of : ℕ → ℕ → List ℕ → Option Part
part_of least most text =
    if list_any is_slash text
    then stepped (range_of least most (before_first is_slash text)) (number_of 1 59 (after_first is_slash text))
    else option_or (range_of least most text) (option_map (λ number. from_to number number) (number_of least most text))

-- the number is one of the part: from `low` to `high`, and so many steps after `low`
abbrev pub part_has : ℕ → Part → Bool
part_has number part = nat_le part.low number && nat_le number part.high && (number - part.low) % part.step == 0

-- the text was a part, and the number is one of it
abbrev pub is_named : ℕ → Option Part → Bool
is_named number None = false
is_named number (Some part) = part_has number part

-- what is known of every part that was read
pub record IsFitPart (part : Part) : Type 0 where
  pub below : part.high < part_limit
  pub step : 0 < part.step
