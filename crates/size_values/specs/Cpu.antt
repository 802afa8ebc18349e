use Rattle.std.specs.Prelude.{ℕ, Bool, not, ◌==◌, ◌&&◌, ◌||◌, if◌then◌else◌, List, [], ◌∷◌, Result, filter, nat_lt}
use Rattle.std.specs.Option.{option_map}
use Rattle.std.specs.Result.{result_map_both}
use Rattle.std.specs.List.{list_all, list_any, before_first, after_first, slice_split}
use Rattle.std.specs.Char.{is_ascii_digit}
use Rattle.std.specs.Str.{byte}
use Rattle.std.specs.Str.Parse.{digits_value}
use Rattle.size_values.specs.Reading.{reading, fault_if, stray, last_byte, is_too_large, is_outside}
use Rattle.size_values.specs.Count.{count_of}
use Rattle.size_values.specs.declared.fault.ValueFault.{ValueFault}
use Rattle.size_values.specs.declared.fault.ValueFault.TheVariants.{BadByte, TooLarge, OutOfRange}
use Rattle.size_values.specs.declared.cpu.Cpu.{Cpu}
use Rattle.size_values.specs.declared.cpu.Cpu.TheVariants.{Count, Pinned}

abbrev pub is_comma : ℕ → Bool
is_comma sign = sign == byte ","

abbrev pub is_dash : ℕ → Bool
is_dash sign = sign == byte "-"

-- a digit may stand anywhere, a comma after a digit, and a dash after a digit where the last sign before it is no dash
abbrev pub may_follow_in_set : List ℕ → ℕ → Bool
may_follow_in_set front next =
    is_ascii_digit next
    || (is_ascii_digit (last_byte front)
    && (is_comma next
    || (is_dash next && not (is_dash (last_byte (filter (λ sign. not (is_ascii_digit sign)) front))))))

-- a set ends with a digit
abbrev pub is_whole_set : List ℕ → Bool
is_whole_set text = is_ascii_digit (last_byte text)

-- a part of a set falls: it is a range, and its second number is below its first
abbrev pub falls : List ℕ → Bool
falls part = list_any is_dash part
    && nat_lt (digits_value 10 (after_first is_dash part)) (digits_value 10 (before_first is_dash part))

-- What a text that is not digits alone gives, or the first fault: numbers and rising ranges joined by commas.
unfoldable pub set_of : List ℕ → Result Cpu ValueFault
set_of text =
    let numbers = slice_split (λ sign. is_comma sign || is_dash sign) text in
    let parts = slice_split is_comma text in
    reading Pinned (
    option_map BadByte (stray may_follow_in_set is_whole_set text)
    ∷ fault_if (list_any is_too_large numbers) TooLarge
    ∷ fault_if (list_any (is_outside 0 1000000) numbers || list_any falls parts) OutOfRange
    ∷ [])

-- The CPU setting that a text gives, or the first fault: digits alone are a count, any other text is a set.
unfoldable pub cpu_of : List ℕ → Result Cpu ValueFault
cpu_of text = if list_all is_ascii_digit text
    then result_map_both Count (λ fault. fault) (count_of text 1 1000000) else set_of text
