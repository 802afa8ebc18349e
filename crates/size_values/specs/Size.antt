use Rattle.std.specs.Prelude.{ℕ, ◌==◌, ◌*◌, ◌^◌, Bool, true, ◌&&◌, ◌||◌, if◌then◌else◌, List, [], ◌∷◌, length, drop}
use Rattle.std.specs.Prelude.{is_none, unwrap_or, Option, Result, find, codes, nat_lt, nat_le}
use Rattle.std.specs.Option.{option_map}
use Rattle.std.specs.List.{before_first, list_any}
use Rattle.std.specs.Char.{is_ascii_digit, is_ascii_alphabetic}
use Rattle.std.specs.Str.{bytes_eq}
use Rattle.std.specs.Str.Parse.{digits_value}
use Rattle.size_values.specs.Reading.{reading, fault_if, stray}
use Rattle.size_values.specs.declared.fault.ValueFault.{ValueFault}
use Rattle.size_values.specs.declared.fault.ValueFault.TheVariants.{Empty, BadByte, UnknownSuffix, TooLarge}

-- the suffixes of a size, each with the bytes that one of it stands for
abbrev pub suffixes : List (List ℕ × ℕ)
suffixes =
    (codes "", 1) ∷ (codes "B", 1)
    ∷ (codes "kB", 1000 ^ 1) ∷ (codes "MB", 1000 ^ 2) ∷ (codes "GB", 1000 ^ 3)
    ∷ (codes "TB", 1000 ^ 4) ∷ (codes "PB", 1000 ^ 5) ∷ (codes "EB", 1000 ^ 6)
    ∷ (codes "KiB", 1024 ^ 1) ∷ (codes "MiB", 1024 ^ 2) ∷ (codes "GiB", 1024 ^ 3)
    ∷ (codes "TiB", 1024 ^ 4) ∷ (codes "PiB", 1024 ^ 5) ∷ (codes "EiB", 1024 ^ 6) ∷ []

-- the bytes that one of the suffix stands for, where it is listed
abbrev pub factor_of : List ℕ → Option ℕ
factor_of suffix = option_map (λ row. row.1) (find (λ row. bytes_eq row.0 suffix) suffixes)

-- a digit may stand before the first letter; a letter may stand after a digit or a letter
abbrev pub may_follow_in_size : List ℕ → ℕ → Bool
may_follow_in_size front next =
    if list_any is_ascii_alphabetic front then is_ascii_alphabetic next
    else is_ascii_digit next || (is_ascii_alphabetic next && nat_lt 0 (length front))

-- The size that a text gives in bytes, or the first fault: digits and then a suffix.
unfoldable pub size_of : List ℕ → Result ℕ ValueFault
size_of text =
    let digits = before_first is_ascii_alphabetic text in
    let factor = factor_of (drop (length digits) text) in
    let size = digits_value 10 digits * unwrap_or factor 0 in
    reading size (
    fault_if (length text == 0) Empty
    ∷ option_map BadByte (stray may_follow_in_size (λ _. true) text)
    ∷ fault_if (is_none factor) (UnknownSuffix (length digits))
    ∷ fault_if (nat_lt 20 (length digits) || nat_le (2 ^ 63) size) TooLarge
    ∷ [])
