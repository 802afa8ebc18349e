-- The numbers that texts of digits say.
use Rattle.std.proofs.Common.{◌≡◌, ◌<◌, ◌≤◌, ◌^◌, ◌&&◌, not, ℕ, List, Bool, true, length, Result, Ok, Err, ⊎_elim, rules}
use Rattle.std.proofs.Common.{arith}
use Rattle.std.proofs.lemmas.Bool.{cases_lt}
use Rattle.std.proofs.lemmas.Bool.Decides.{nat_tests}
use Rattle.std.specs.Prelude.{nat_le}
use Rattle.std.proofs.lemmas.Str.Parse.{IsDigitsTest, IsNumeralModel, numerals_by_value, parse_digits}
use Rattle.std.specs.Char.{is_ascii_digit}
use Rattle.std.specs.List.{list_all}
use Rattle.std.specs.Str.Parse.{digits_value, ParsesUnsigned}
use Rattle.command_words.specs.Numbers.{is_numeral, leads_with_zero}

-- a text of digits, in std's words for what is parsed
tells_digits : IsDigitsTest (λ ds. list_all is_ascii_digit ds ≡ true)
tells_digits = search rules

digits : IsNumeralModel (λ ds. list_all is_ascii_digit ds ≡ true) (digits_value 10)
digits = numerals_by_value _ tells_digits

module _ (text : List ℕ) (numeral : is_numeral text ≡ true) where
  all_digits : list_all is_ascii_digit text ≡ true
  all_digits = by (length text) (leads_with_zero text) (list_all is_ascii_digit text) numeral where
    by : (len : ℕ) (zero all : Bool) → (nat_le 1 len && nat_le len 20 && not zero && all) ≡ true → all ≡ true
    by len zero all is = grind (arith, nat_tests)

  filled : 0 < length text
  filled = by (length text) (leads_with_zero text) (list_all is_ascii_digit text) numeral where
    by : (len : ℕ) (zero all : Bool) → (nat_le 1 len && nat_le len 20 && not zero && all) ≡ true → 0 < len
    by len zero all is = grind (arith, nat_tests)

  -- the number that is parsed is the one that the digits write
  pub parsed_is : {E : Type 0} (r : Result ℕ E) (n : ℕ) → r ≡ Ok n → ParsesUnsigned 64 10 text r
      → n ≡ digits_value 10 text
  parsed_is {E} (Ok m) n is parsed =
      let value = (parse_digits digits {E = E} 64 text (Ok m) parsed all_digits).1 in cc (is, value)
  parsed_is {E} (Err e) n is parsed = absurd (cc is)

  -- and where none is, they write a larger one than 64 bits hold
  pub not_parsed : {E : Type 0} (e : E) → ParsesUnsigned 64 10 text (Err e) → 2 ^ 64 ≤ digits_value 10 text
  not_parsed e parsed = ⊎_elim
      (λ below. absurd (parse_digits digits 64 text (Err e) parsed all_digits (filled, below)))
      (λ above. above)
      (cases_lt (digits_value 10 text) (2 ^ 64))
