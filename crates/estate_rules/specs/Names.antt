use Rattle.std.specs.Prelude.{ℕ, ◌-◌, ◌==◌, ◌&&◌, ◌||◌, nat_le, not, Bool, false, List, length, slice_get}
use Rattle.std.specs.Char.{is_ascii_alphanumeric, is_ascii_alphabetic}
use Rattle.std.specs.List.{list_all}
use Rattle.std.specs.Option.{option_map_or}
use Rattle.size_values.specs.declared.kinds.ObjectKind.{ObjectKind}
use Rattle.size_values.specs.declared.kinds.ObjectKind.TheVariants.{Project, Profile}
use Rattle.size_values.specs.declared.kinds.ObjectKind.TheVariants.{Network, Pool, Volume, Instance}
use Rattle.size_values.specs.declared.kinds.ObjectKind.TheVariants.{Snapshot, Operation}

-- letters, digits and '-'
abbrev pub is_instance_byte : ℕ → Bool
is_instance_byte byte = is_ascii_alphanumeric byte || byte == 45

-- letters, digits, '-' and '.'
abbrev pub is_project_byte : ℕ → Bool
is_project_byte byte = is_instance_byte byte || byte == 46

-- letters, digits, '-', '.' and '_'
abbrev pub is_object_byte : ℕ → Bool
is_object_byte byte = is_project_byte byte || byte == 95

-- there is a first byte, and it passes the test
abbrev pub begins_by : (ℕ → Bool) → List ℕ → Bool
begins_by test name = option_map_or test (slice_get name 0) false

-- there is a last byte, and it passes the test
abbrev pub ends_by : (ℕ → Bool) → List ℕ → Bool
ends_by test name = option_map_or test (slice_get name (length name - 1)) false

-- the text has least to most bytes, all of which pass the test
abbrev pub is_word_of : (ℕ → Bool) → ℕ → ℕ → List ℕ → Bool
is_word_of test least most name = nat_le least (length name) && nat_le (length name) most && list_all test name

-- a name of up to 63 bytes that can be a host name: it begins with a letter and does not end with a dash
unfoldable pub is_instance_name : List ℕ → Bool
is_instance_name name =
    is_word_of is_instance_byte 1 63 name
    && begins_by is_ascii_alphabetic name
    && ends_by (λ byte. not (byte == 45)) name

-- a name of up to 63 bytes that begins with a letter or a digit
unfoldable pub is_project_name : List ℕ → Bool
is_project_name name = is_word_of is_project_byte 1 63 name && begins_by is_ascii_alphanumeric name

-- a name of the other objects: of least to most bytes, and it begins with a letter or a digit
unfoldable pub is_object_name : ℕ → ℕ → List ℕ → Bool
is_object_name least most name = is_word_of is_object_byte least most name && begins_by is_ascii_alphanumeric name

-- A name that an object of this kind may get. A network's name is also that of a network interface, so it is short.
-- An operation has no name.
abbrev pub good_name_of : ObjectKind → List ℕ → Bool
good_name_of Project name = is_project_name name
good_name_of Profile name = is_object_name 1 63 name
good_name_of Network name = is_object_name 2 15 name
good_name_of Pool name = is_object_name 1 63 name
good_name_of Volume name = is_object_name 1 63 name
good_name_of Instance name = is_instance_name name
good_name_of Snapshot name = is_object_name 1 63 name
good_name_of Operation name = false
