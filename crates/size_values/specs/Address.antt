use Rattle.std.specs.Prelude.{ℕ, ◌+◌, ◌*◌, Bool, ◌==◌, ◌&&◌, ◌||◌, if◌then◌else◌, List, [], ◌∷◌, length, slice_index}
use Rattle.std.specs.Prelude.{fold, count_by, Result, nat_lt}
use Rattle.std.specs.Option.{option_map}
use Rattle.std.specs.List.{list_any, before_first, after_first, slice_split}
use Rattle.std.specs.Char.{is_ascii_digit}
use Rattle.std.specs.Str.{byte}
use Rattle.std.specs.Str.Parse.{digits_value}
use Rattle.size_values.specs.Reading.{reading, fault_if, stray, last_byte, is_outside}
use Rattle.size_values.specs.declared.fault.ValueFault.{ValueFault}
use Rattle.size_values.specs.declared.fault.ValueFault.TheVariants.{Empty, BadByte, OutOfRange}

abbrev pub is_dot : ℕ → Bool
is_dot sign = sign == byte "."

abbrev pub is_slash : ℕ → Bool
is_slash sign = sign == byte "/"

-- a digit may stand anywhere; a dot after a digit, three times at most
abbrev pub may_follow_in_address : List ℕ → ℕ → Bool
may_follow_in_address front next = is_ascii_digit next
    || (is_dot next && is_ascii_digit (last_byte front) && nat_lt (count_by is_dot front) 3)

-- an address has three dots and ends with a digit
abbrev pub is_whole_address : List ℕ → Bool
is_whole_address text = is_ascii_digit (last_byte text) && count_by is_dot text == 3

-- before the slash an address; the slash after a whole one; after the slash digits
abbrev pub may_follow_in_cidr : List ℕ → ℕ → Bool
may_follow_in_cidr front next =
    if list_any is_slash front then is_ascii_digit next
    else may_follow_in_address front next || (is_slash next && is_whole_address front)

-- an address with a length has a slash and ends with a digit
abbrev pub is_whole_cidr : List ℕ → Bool
is_whole_cidr text = is_ascii_digit (last_byte text) && list_any is_slash text

-- digits that begin with a zero and go on
abbrev pub has_leading_zero : List ℕ → Bool
has_leading_zero digits = slice_index digits 0 == byte "0" && nat_lt 1 (length digits)

-- digits that are no plain number from least to most
abbrev pub is_unfit : ℕ → ℕ → List ℕ → Bool
is_unfit least most digits = has_leading_zero digits || is_outside least most digits

-- the four numbers of an address as one number, the first one the highest
abbrev pub address_value : List ℕ → ℕ
address_value text = fold (λ value part. value * 256 + digits_value 10 part) 0 (slice_split is_dot text)

-- some number of an address is unfit
abbrev pub is_address_unfit : List ℕ → Bool
is_address_unfit text = list_any (is_unfit 0 255) (slice_split is_dot text)

-- The address that a text gives, or the first fault: four numbers joined by dots.
unfoldable pub address_of : List ℕ → Result ℕ ValueFault
address_of text =
    reading (address_value text) (
    fault_if (length text == 0) Empty
    ∷ option_map BadByte (stray may_follow_in_address is_whole_address text)
    ∷ fault_if (is_address_unfit text) OutOfRange
    ∷ [])

-- The address and the length that a text gives, or the first fault: an address, a slash and a length from 8 to 30.
unfoldable pub cidr_of : List ℕ → Result (ℕ × ℕ) ValueFault
cidr_of text =
    let address = before_first is_slash text in
    let bits = after_first is_slash text in
    reading (address_value address, digits_value 10 bits) (
    fault_if (length text == 0) Empty
    ∷ option_map BadByte (stray may_follow_in_cidr is_whole_cidr text)
    ∷ fault_if (is_address_unfit address || is_unfit 8 30 bits) OutOfRange
    ∷ [])
