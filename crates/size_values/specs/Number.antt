use Rattle.std.specs.Prelude.{ℕ, ◌-◌, ◌^◌, min, List, take_while}
use Rattle.std.specs.List.{prefix_len}
use Rattle.std.specs.Char.{is_ascii_digit}
use Rattle.std.specs.Str.Parse.{digits_value}
use Rattle.size_values.specs.declared.number.Number.{Number}

-- the decimal number at the front of a text: how many digits it has, and its value as far as 64 bits hold it
abbrev pub number_at : List ℕ → Number
number_at text = record {
  len = prefix_len is_ascii_digit text;
  value = min (digits_value 10 (take_while is_ascii_digit text)) (2 ^ 64 - 1);
}
