use Rattle.std.specs.Prelude.{ℕ, Bool, not, ◌==◌, ◌&&◌, ◌||◌, List, [], ◌∷◌, length, unwrap_or, Result, find, codes}
use Rattle.std.specs.Prelude.{count_by, nat_lt}
use Rattle.std.specs.Option.{option_map}
use Rattle.std.specs.List.{list_any, take_while, slice_split}
use Rattle.std.specs.Char.{is_ascii_digit}
use Rattle.std.specs.Str.{byte}
use Rattle.std.specs.Str.Parse.{digits_value}
use Rattle.size_values.specs.Reading.{reading, fault_if, stray, last_byte, is_outside}
use Rattle.size_values.specs.declared.fault.ValueFault.{ValueFault}
use Rattle.size_values.specs.declared.fault.ValueFault.TheVariants.{Empty, BadByte, OutOfRange}
use Rattle.size_values.specs.declared.expiry.Expiry.{Expiry}

-- the letters of the units: minutes, hours, days, weeks, months, years
abbrev pub unit_letters : List ℕ
unit_letters = codes "MHdwmy"

abbrev pub is_unit : ℕ → Bool
is_unit sign = list_any (λ letter. letter == sign) unit_letters

abbrev pub is_space : ℕ → Bool
is_space sign = sign == byte " "

-- a digit may stand first, after a digit or after a space; a letter of a unit after a digit; a space after a letter
abbrev pub may_follow_in_expiry : List ℕ → ℕ → Bool
may_follow_in_expiry front next =
    (is_ascii_digit next && not (is_unit (last_byte front)))
    || (is_unit next && is_ascii_digit (last_byte front))
    || (is_space next && is_unit (last_byte front))

-- an expiry ends with the letter of a unit
abbrev pub is_whole_expiry : List ℕ → Bool
is_whole_expiry text = is_unit (last_byte text)

-- the digits of a part
abbrev pub digits_of_part : List ℕ → List ℕ
digits_of_part part = take_while is_ascii_digit part

-- the part ends with the letter
abbrev pub has_letter : ℕ → List ℕ → Bool
has_letter letter part = last_byte part == letter

-- the number of the part with the letter, or 0 where there is none
abbrev pub amount_of : ℕ → List (List ℕ) → ℕ
amount_of letter parts =
    unwrap_or (option_map (λ part. digits_value 10 (digits_of_part part)) (find (has_letter letter) parts)) 0

-- the number of each unit
abbrev pub amounts_in : List (List ℕ) → Expiry
amounts_in parts = record {
  minutes = amount_of (byte "M") parts;
  hours = amount_of (byte "H") parts;
  days = amount_of (byte "d") parts;
  weeks = amount_of (byte "w") parts;
  months = amount_of (byte "m") parts;
  years = amount_of (byte "y") parts;
}

-- two parts have the same letter
abbrev pub repeats_unit : List (List ℕ) → Bool
repeats_unit parts = list_any (λ letter. nat_lt 1 (count_by (has_letter letter) parts)) unit_letters

-- The expiry that a text gives, or the first fault: parts of digits and the letter of a unit, joined by one space.
unfoldable pub expiry_of : List ℕ → Result Expiry ValueFault
expiry_of text =
    let parts = slice_split is_space text in
    reading (amounts_in parts) (
    fault_if (length text == 0) Empty
    ∷ option_map BadByte (stray may_follow_in_expiry is_whole_expiry text)
    ∷ fault_if (list_any (λ part. is_outside 1 9999 (digits_of_part part)) parts || repeats_unit parts) OutOfRange
    ∷ [])
