-- What every reader has in common: faults in their order, the form of a text, and decimal numbers.
use Rattle.std.specs.Prelude.{ℕ, ◌-◌, ◌^◌, Bool, not, ◌||◌, if◌then◌else◌, List, [], ◌∷◌, length, take, slice_index}
use Rattle.std.specs.Prelude.{Option, Some, None, Result, Ok, Err, nat_lt, nat_le}
use Rattle.std.specs.List.{prefix_len, enumerate_from}
use Rattle.std.specs.Str.Parse.{digits_value}
use Rattle.size_values.specs.declared.fault.ValueFault.{ValueFault}

-- the value, or the first of the faults that stands, in the order of the list
abbrev pub reading : {T : Type 0} → T → List (Option ValueFault) → Result T ValueFault
reading value [] = Ok value
reading value (None ∷ faults) = reading value faults
reading value (Some fault ∷ faults) = Err fault

-- the fault, where the test holds
abbrev pub fault_if : Bool → ValueFault → Option ValueFault
fault_if holds fault = if holds then Some fault else None

-- The place at which a text leaves its form, if it does: the first byte that may not follow the bytes before it,
-- or else the end of a text that is not whole.
abbrev pub stray : (List ℕ → ℕ → Bool) → (List ℕ → Bool) → List ℕ → Option ℕ
stray may_follow is_whole text =
    let place = prefix_len (λ placed. may_follow (take placed.0 text) placed.1) (enumerate_from 0 text) in
    if nat_lt place (length text) || not (is_whole text) then Some place else None

-- the last byte, or 0 where there is none
abbrev pub last_byte : List ℕ → ℕ
last_byte text = slice_index text (length text - 1)

-- digits whose number is too large: more than twenty digits, or a number of 2^63 or more
abbrev pub is_too_large : List ℕ → Bool
is_too_large digits = nat_lt 20 (length digits) || nat_le (2 ^ 63) (digits_value 10 digits)

-- digits whose number is not from least to most
abbrev pub is_outside : ℕ → ℕ → List ℕ → Bool
is_outside least most digits = nat_lt (digits_value 10 digits) least || nat_lt most (digits_value 10 digits)
