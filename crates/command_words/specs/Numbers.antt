-- Numbers that values say.
use Rattle.std.specs.Prelude.{ℕ, ◌==◌, Bool, false, not, ◌&&◌, if◌then◌else◌, List, [], ◌∷◌, length, Option, Some, None}
use Rattle.std.specs.Prelude.{nat_le}
use Rattle.std.specs.Char.{is_ascii_digit}
use Rattle.std.specs.List.{list_all}
use Rattle.std.specs.Str.{byte}
use Rattle.std.specs.Str.Parse.{digits_value}

-- a zero stands before another byte
abbrev pub leads_with_zero : List ℕ → Bool
leads_with_zero [] = false
leads_with_zero (first ∷ []) = false
leads_with_zero (first ∷ next ∷ more) = first == byte "0"

-- a text of digits alone, one to twenty of them, and without a zero before another digit
abbrev pub is_numeral : List ℕ → Bool
is_numeral text =
    nat_le 1 (length text) && nat_le (length text) 20 && not (leads_with_zero text) && list_all is_ascii_digit text

-- the number from least to most that a text says
abbrev pub number_said : ℕ → ℕ → List ℕ → Option ℕ
number_said least most text =
    if is_numeral text && nat_le least (digits_value 10 text) && nat_le (digits_value 10 text) most
    then Some (digits_value 10 text) else None
