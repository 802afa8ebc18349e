use Rattle.std.proofs.Common.{◌≡◌, ℕ, ◌-◌, ◌^◌, ◌<◌, min, true, take, get_or}
use Rattle.std.specs.Char.{is_ascii_digit}
use Rattle.std.specs.Str.Parse.{digits_value}
use Rattle.size_values.proofs.number.Number.at_front.Given as goal

abbrev pub invariant-loop-len : goal.invariant-loop-len
invariant-loop-len l = record {
  value : l.value ≡ min (digits_value 10 (take l.len l.text)) (2 ^ 64 - 1);
  digits : (k : ℕ) → k < l.len → is_ascii_digit (get_or l.text k 0) ≡ true;
}
