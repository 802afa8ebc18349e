use Rattle.std.specs.Prelude.{ℕ, ◌==◌, true, List, [], ◌∷◌, length, Result}
use Rattle.std.specs.Option.{option_map}
use Rattle.std.specs.Char.{is_ascii_digit}
use Rattle.std.specs.Str.Parse.{digits_value}
use Rattle.size_values.specs.Reading.{reading, fault_if, stray, is_too_large, is_outside}
use Rattle.size_values.specs.declared.fault.ValueFault.{ValueFault}
use Rattle.size_values.specs.declared.fault.ValueFault.TheVariants.{Empty, BadByte, TooLarge, OutOfRange}

-- The count that a text gives, or the first fault: digits alone, whose number is from least to most.
unfoldable pub count_of : List ℕ → ℕ → ℕ → Result ℕ ValueFault
count_of text least most =
    reading (digits_value 10 text) (
    fault_if (length text == 0) Empty
    ∷ option_map BadByte (stray (λ front next. is_ascii_digit next) (λ _. true) text)
    ∷ fault_if (is_too_large text) TooLarge
    ∷ fault_if (is_outside least most text) OutOfRange
    ∷ [])
