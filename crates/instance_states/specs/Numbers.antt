use Rattle.std.specs.Prelude.{ℕ, ◌+◌, ◌-◌, ◌==◌, ◌&&◌, ◌||◌, not, nat_le, nat_eq, Bool, max, Option, Some, None, List}
use Rattle.std.specs.Prelude.{[], ◌∷◌, ◌++◌, length, slice_index, slice_range, if◌then◌else◌}
use Rattle.std.specs.List.{starts_with, ends_with, list_all}
use Rattle.std.specs.Option.{option_map_or, option_and_then}
use Rattle.std.specs.Char.{is_ascii_digit}
use Rattle.std.specs.Str.Parse.{digits_value}
use Rattle.std.specs.Fmt.{decimal}

-- whether two bytes are `%d`
abbrev pub is_hole : ℕ → ℕ → Bool
is_hole first second = first == 37 && second == 100

-- the text before the first `%d`
abbrev pub before_hole : List ℕ → List ℕ
before_hole [] = []
before_hole (first ∷ []) = first ∷ []
before_hole (first ∷ second ∷ rest) = if is_hole first second then [] else first ∷ before_hole (second ∷ rest)

-- the text after the first `%d`
abbrev pub after_hole : List ℕ → List ℕ
after_hole [] = []
after_hole (first ∷ []) = []
after_hole (first ∷ second ∷ rest) = if is_hole first second then rest else after_hole (second ∷ rest)

-- the numbers that were seen in names: the text before and after the number, and the greatest
pub record Numbering : Type 0 where
  pub before : List ℕ
  pub after : List ℕ
  pub greatest : Option ℕ

-- no name was seen yet
abbrev pub unseen : List ℕ → Numbering
unseen pattern = record { before = before_hole pattern; after = after_hole pattern; greatest = None }

-- one to nine digits without a leading zero
abbrev pub is_number : List ℕ → Bool
is_number digits =
    nat_le 1 (length digits) && nat_le (length digits) 9 && list_all is_ascii_digit digits
    && (length digits == 1 || not (slice_index digits 0 == 48))

-- the number that such digits write
abbrev pub number_of : List ℕ → Option ℕ
number_of digits = if is_number digits then Some (digits_value 10 digits) else None

-- the part of a name between the text before and the text after
abbrev pub text_between : List ℕ → List ℕ → List ℕ → Option (List ℕ)
text_between before after name =
    if nat_le (length before + length after) (length name) && starts_with nat_eq name before
    && ends_with nat_eq name after
    then Some (slice_range name (length before) (length name - length after))
    else None

-- the number of a name, where the name is of the pattern
abbrev pub number_in : Numbering → List ℕ → Option ℕ
number_in numbers name = option_and_then number_of (text_between numbers.before numbers.after name)

-- the greater of two numbers, if there are any
abbrev pub greater_number : Option ℕ → Option ℕ → Option ℕ
greater_number None other = other
greater_number (Some number) None = Some number
greater_number (Some number) (Some other) = Some (max number other)

-- after one more name
abbrev pub seen : List ℕ → Numbering → Numbering
seen name numbers = record numbers { greatest = greater_number numbers.greatest (number_in numbers name) }

-- the next number is one more than the greatest, or 0
abbrev pub next_number : Numbering → ℕ
next_number numbers = option_map_or (λ number. number + 1) numbers.greatest 0

-- the name with the next number
abbrev pub next_name : Numbering → List ℕ
next_name numbers = numbers.before ++ decimal (next_number numbers) ++ numbers.after
