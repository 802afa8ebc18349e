-- Names and patterns of names.
use Rattle.std.specs.Prelude.{ℕ, ◌==◌, Bool, false, ◌&&◌, ◌||◌, List, [], ◌∷◌, length, slice_index, drop, nat_le}
use Rattle.std.specs.List.{list_all, prefix_len, slice_split}
use Rattle.std.specs.Char.{is_ascii_alphanumeric}
use Rattle.std.specs.Str.{byte}

-- a letter, a digit, a dash, an underscore or a dot
abbrev pub is_name_byte : ℕ → Bool
is_name_byte sign = is_ascii_alphanumeric sign || sign == byte "-" || sign == byte "_" || sign == byte "."

-- one of these, a colon or a slash
abbrev pub is_device_byte : ℕ → Bool
is_device_byte sign = is_name_byte sign || sign == byte ":" || sign == byte "/"

-- the name of a device: 1 to 64 of these bytes
abbrev pub is_device_name : List ℕ → Bool
is_device_name name = nat_le 1 (length name) && nat_le (length name) 64 && list_all is_device_byte name

-- the name of a network: 2 to 15 bytes, the first a letter or a digit
abbrev pub is_network_name : List ℕ → Bool
is_network_name name = nat_le 2 (length name) && nat_le (length name) 15 && is_ascii_alphanumeric (slice_index name 0)
    && list_all is_name_byte name

-- names of networks, joined by commas
abbrev pub are_network_names : List ℕ → Bool
are_network_names text = list_all is_network_name (slice_split (λ sign. sign == byte ",") text)

-- the first byte of a pattern: a letter, a digit, or the sign before its `d`
abbrev pub may_begin : ℕ → Bool
may_begin sign = is_ascii_alphanumeric sign || sign == byte "%"

-- `%d`, and after it bytes of names
abbrev pub is_numbered : List ℕ → Bool
is_numbered [] = false
is_numbered (first ∷ []) = false
is_numbered (first ∷ second ∷ back) = first == byte "%" && second == byte "d" && list_all is_name_byte back

-- a pattern of names: 3 to 50 bytes, in which one `%d` stands between bytes of names
abbrev pub is_pattern : List ℕ → Bool
is_pattern text = nat_le 3 (length text) && nat_le (length text) 50 && may_begin (slice_index text 0)
    && is_numbered (drop (prefix_len is_name_byte text) text)
