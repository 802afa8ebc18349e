-- The ids of operations: UUIDs of version 8 that hold the boot word and the number of the operation.
use Rattle.std.specs.Prelude.{◌≡◌, ◌<◌, ℕ, ◌+◌, ◌-◌, ◌*◌, ◌/◌, ◌%◌, ◌^◌, ◌==◌, nat_lt, nat_le, ◌&&◌, if◌then◌else◌}
use Rattle.std.specs.Prelude.{List, ◌++◌, Option, Some, None, option_and_then, codes}
use Rattle.std.specs.Int.{w128, to_be_bytes, from_be_bytes}
use Rattle.uuid.specs.Text.{lower, hyphenated_text, parsed}

-- the first half of the ids of a boot: the low 48 bits of the boot word, the version 8, and 12 zero bits
unfoldable pub high_half : ℕ → ℕ
high_half boot = boot % 2 ^ 48 * 2 ^ 16 + 8 * 2 ^ 12

-- the second half of the id of a number: the variant, a one and a zero, and the low 62 bits of the number
unfoldable pub low_half : ℕ → ℕ
low_half number = 2 ^ 63 + number % 2 ^ 62

-- the sixteen bytes of the id of a number
unfoldable pub id_bytes : ℕ → ℕ → List ℕ
id_bytes boot number = to_be_bytes w128 (high_half boot * 2 ^ 64 + low_half number)

-- the id of a number, in lower case and with hyphens
unfoldable pub id_text : ℕ → ℕ → List ℕ
id_text boot number = hyphenated_text lower (id_bytes boot number)

-- the URL of an operation
unfoldable pub operation_url : ℕ → ℕ → List ℕ
operation_url boot number = codes "/1.0/operations/" ++ id_text boot number

-- the number that two halves name, where they are those of an id of this boot
unfoldable pub number_in : ℕ → ℕ → ℕ → Option ℕ
number_in boot high low = if high == high_half boot
    && (nat_le (2 ^ 63) low && nat_lt low (2 ^ 63 + 2 ^ 62)) then Some (low - 2 ^ 63) else None

-- the number that sixteen bytes name
unfoldable pub number_in_bytes : ℕ → List ℕ → Option ℕ
number_in_bytes boot bytes = number_in boot (from_be_bytes w128 bytes / 2 ^ 64) (from_be_bytes w128 bytes % 2 ^ 64)

-- the number that a text names, where it is a text form of an id of this boot
unfoldable pub number_of : List ℕ → ℕ → Option ℕ
number_of text boot = option_and_then (number_in_bytes boot) (parsed text)

-- the id of a number names that number again
abbrev pub ReadsBack : Type 0
ReadsBack = (boot number : ℕ) → number < 2 ^ 62 → number_of (id_text boot number) boot ≡ Some number
