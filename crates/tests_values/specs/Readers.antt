-- What the readers of option values give for texts, one table for each reader.
use Prim.Native.String.{String}
use Rattle.std.specs.Prelude.{ℕ, ◌-◌, ◌^◌, Bool, true, false, List, [], ◌∷◌, Result, Ok, Err, codes}
use Rattle.size_values.specs.Address.{address_of, cidr_of}
use Rattle.size_values.specs.Boolean.{boolean_of}
use Rattle.size_values.specs.Count.{count_of}
use Rattle.size_values.specs.Cpu.{cpu_of}
use Rattle.size_values.specs.Expiry.{expiry_of}
use Rattle.size_values.specs.Fault.{fault_number}
use Rattle.size_values.specs.MemorySize.{memory_of}
use Rattle.size_values.specs.Size.{size_of}
use Rattle.size_values.specs.declared.cpu.Cpu.{Cpu}
use Rattle.size_values.specs.declared.cpu.Cpu.TheVariants as cpu
use Rattle.size_values.specs.declared.expiry.Expiry.{Expiry}
use Rattle.size_values.specs.declared.fault.ValueFault.{ValueFault}
use Rattle.size_values.specs.declared.fault.ValueFault.TheVariants.{Empty, BadByte, UnknownSuffix}
use Rattle.size_values.specs.declared.fault.ValueFault.TheVariants.{TooLarge, OutOfRange}
use Rattle.size_values.specs.declared.memory_size.Memory.{Memory}
use Rattle.size_values.specs.declared.memory_size.Memory.TheVariants as memory
use Rattle.tests_values.specs.Tables.{Gives}

-- texts, and what a reader gives for each
abbrev pub Readings : Type 0 → Type 0
Readings Value = List (String × Result Value ValueFault)

-- an expiry of so many minutes, hours, days, weeks, months and years
abbrev pub expiry : ℕ → ℕ → ℕ → ℕ → ℕ → ℕ → Expiry
expiry minutes hours days weeks months years = record {
  minutes = minutes;
  hours = hours;
  days = days;
  weeks = weeks;
  months = months;
  years = years;
}

-- truth values
abbrev pub booleans : Readings Bool
booleans =
    ("true", Ok true)
    ∷ ("1", Ok true)
    ∷ ("yes", Ok true)
    ∷ ("on", Ok true)
    ∷ ("TRUE", Ok true)
    ∷ ("yEs", Ok true)
    ∷ ("On", Ok true)
    ∷ ("false", Ok false)
    ∷ ("0", Ok false)
    ∷ ("no", Ok false)
    ∷ ("off", Ok false)
    ∷ ("False", Ok false)
    ∷ ("NO", Ok false)
    ∷ ("oFF", Ok false)
    ∷ ("", Err Empty)
    ∷ ("2", Err OutOfRange)
    ∷ ("t", Err OutOfRange)
    ∷ ("true ", Err OutOfRange)
    ∷ ("01", Err OutOfRange)
    ∷ []

-- processors
abbrev pub cpus : Readings Cpu
cpus =
    ("", Err Empty)
    ∷ ("0", Err OutOfRange)
    ∷ ("1", Ok (cpu.Count 1))
    ∷ ("01", Ok (cpu.Count 1))
    ∷ ("1000000", Ok (cpu.Count 1000000))
    ∷ ("1000001", Err OutOfRange)
    ∷ ("00000000000000000001", Ok (cpu.Count 1))
    ∷ ("000000000000000000001", Err TooLarge)
    ∷ ("0-3", Ok cpu.Pinned)
    ∷ ("3-3", Ok cpu.Pinned)
    ∷ ("0,1000000", Ok cpu.Pinned)
    ∷ ("0-3,5,7-9", Ok cpu.Pinned)
    ∷ ("0,00000000000000000001", Ok cpu.Pinned)
    ∷ ("3-0", Err OutOfRange)
    ∷ ("1-2,4-3", Err OutOfRange)
    ∷ ("0,1000001", Err OutOfRange)
    ∷ ("0-1000001", Err OutOfRange)
    ∷ ("0,9223372036854775808", Err TooLarge)
    ∷ ("0,000000000000000000001", Err TooLarge)
    ∷ ("5-1,99999999999999999999", Err TooLarge)
    ∷ ("18446744073709551615-18446744073709551614", Err TooLarge)
    ∷ ("a", Err (BadByte 0))
    ∷ (",1", Err (BadByte 0))
    ∷ ("-1", Err (BadByte 0))
    ∷ ("1 2", Err (BadByte 1))
    ∷ ("1,", Err (BadByte 2))
    ∷ ("1-", Err (BadByte 2))
    ∷ ("1,,2", Err (BadByte 2))
    ∷ ("1-,2", Err (BadByte 2))
    ∷ ("1-2-3", Err (BadByte 3))
    ∷ ("1,2-3-4", Err (BadByte 5))
    ∷ ("1,2 ", Err (BadByte 3))
    ∷ ("5-1,99999999999999999999x", Err (BadByte 24))
    ∷ []

-- addresses
abbrev pub addresses : Readings ℕ
addresses =
    ("0.0.0.0", Ok 0)
    ∷ ("10.0.255.1", Ok 167837441)
    ∷ ("255.255.255.255", Ok 4294967295)
    ∷ ("", Err Empty)
    ∷ ("1", Err (BadByte 1))
    ∷ (".1.2.3", Err (BadByte 0))
    ∷ ("a.1.2.3", Err (BadByte 0))
    ∷ ("1..2.3", Err (BadByte 2))
    ∷ ("1.2.3", Err (BadByte 5))
    ∷ ("1.2.3.", Err (BadByte 6))
    ∷ ("1.2.3.4 ", Err (BadByte 7))
    ∷ ("1.2.3.4.5", Err (BadByte 7))
    ∷ ("1.2.3.4/24", Err (BadByte 7))
    ∷ ("999.2.3.x", Err (BadByte 8))
    ∷ ("256.2.3.4", Err OutOfRange)
    ∷ ("1.2.3.256", Err OutOfRange)
    ∷ ("1000.1.1.1", Err OutOfRange)
    ∷ ("01.2.3.4", Err OutOfRange)
    ∷ ("1.2.3.00", Err OutOfRange)
    ∷ ("1.2.3.00000000000000000004", Err OutOfRange)
    ∷ ("1.2.3.999999999999999999999", Err OutOfRange)
    ∷ []

-- addresses with the lengths of their networks
abbrev pub networks : Readings (ℕ × ℕ)
networks =
    ("10.0.0.1/24", Ok (167772161, 24))
    ∷ ("10.0.0.1/8", Ok (167772161, 8))
    ∷ ("255.255.255.255/30", Ok (4294967295, 30))
    ∷ ("", Err Empty)
    ∷ ("/24", Err (BadByte 0))
    ∷ ("10.0.0/24", Err (BadByte 6))
    ∷ ("10.0.0.1", Err (BadByte 8))
    ∷ ("10.0.0.1.2/24", Err (BadByte 8))
    ∷ ("10.0.0.1/", Err (BadByte 9))
    ∷ ("10.0.0.1/x", Err (BadByte 9))
    ∷ ("10.0.0.1/24/", Err (BadByte 11))
    ∷ ("10.0.0.1/24.", Err (BadByte 11))
    ∷ ("256.0.0.1/24x", Err (BadByte 12))
    ∷ ("10.0.0.1/7", Err OutOfRange)
    ∷ ("10.0.0.1/31", Err OutOfRange)
    ∷ ("10.0.0.1/08", Err OutOfRange)
    ∷ ("10.0.0.256/24", Err OutOfRange)
    ∷ ("10.0.00.1/24", Err OutOfRange)
    ∷ []

-- counts from 1 to 100
abbrev pub small_counts : Readings ℕ
small_counts =
    ("", Err Empty)
    ∷ ("0", Err OutOfRange)
    ∷ ("1", Ok 1)
    ∷ ("007", Ok 7)
    ∷ ("100", Ok 100)
    ∷ ("101", Err OutOfRange)
    ∷ ("a", Err (BadByte 0))
    ∷ ("+1", Err (BadByte 0))
    ∷ ("1x", Err (BadByte 1))
    ∷ ("1 ", Err (BadByte 1))
    ∷ ("00000000000000000100", Ok 100)
    ∷ ("000000000000000000100", Err TooLarge)
    ∷ ("9223372036854775807", Err OutOfRange)
    ∷ ("9223372036854775808", Err TooLarge)
    ∷ ("99999999999999999999x", Err (BadByte 20))
    ∷ []

-- counts without bounds of their own
abbrev pub any_counts : Readings ℕ
any_counts =
    ("9223372036854775807", Ok 9223372036854775807)
    ∷ ("9223372036854775808", Err TooLarge)
    ∷ []

-- memory
abbrev pub memories : Readings Memory
memories =
    ("", Err Empty)
    ∷ ("%", Err Empty)
    ∷ ("0%", Err OutOfRange)
    ∷ ("1%", Ok (memory.Percent 1))
    ∷ ("0050%", Ok (memory.Percent 50))
    ∷ ("100%", Ok (memory.Percent 100))
    ∷ ("101%", Err OutOfRange)
    ∷ ("00000000000000000050%", Ok (memory.Percent 50))
    ∷ ("000000000000000000050%", Err TooLarge)
    ∷ ("5x%", Err (BadByte 1))
    ∷ ("50%%", Err (BadByte 2))
    ∷ ("%5", Err (BadByte 0))
    ∷ ("50% ", Err (BadByte 2))
    ∷ ("512", Ok (memory.Bytes 512))
    ∷ ("1GiB", Ok (memory.Bytes 1073741824))
    ∷ ("12kb", Err (UnknownSuffix 2))
    ∷ ("8EiB", Err TooLarge)
    ∷ []

-- sizes
abbrev pub sizes : Readings ℕ
sizes =
    ("", Err Empty)
    ∷ ("0", Ok 0)
    ∷ ("7", Ok 7)
    ∷ ("1B", Ok 1)
    ∷ ("1kB", Ok 1000)
    ∷ ("1MB", Ok 1000000)
    ∷ ("1GB", Ok 1000000000)
    ∷ ("1TB", Ok 1000000000000)
    ∷ ("1PB", Ok 1000000000000000)
    ∷ ("1EB", Ok 1000000000000000000)
    ∷ ("1KiB", Ok 1024)
    ∷ ("1MiB", Ok 1048576)
    ∷ ("1GiB", Ok 1073741824)
    ∷ ("1TiB", Ok 1099511627776)
    ∷ ("1PiB", Ok 1125899906842624)
    ∷ ("1EiB", Ok 1152921504606846976)
    ∷ ("9223372036854775807", Ok 9223372036854775807)
    ∷ ("9223372036854775808", Err TooLarge)
    ∷ ("9007199254740991KiB", Ok 9223372036854774784)
    ∷ ("9007199254740992KiB", Err TooLarge)
    ∷ ("7EiB", Ok 8070450532247928832)
    ∷ ("8EiB", Err TooLarge)
    ∷ ("9EB", Ok 9000000000000000000)
    ∷ ("10EB", Err TooLarge)
    ∷ ("18446744073709551616kB", Err TooLarge)
    ∷ ("00000000000000000001", Ok 1)
    ∷ ("000000000000000000001", Err TooLarge)
    ∷ ("99999999999999999999", Err TooLarge)
    ∷ ("B", Err (BadByte 0))
    ∷ ("kB", Err (BadByte 0))
    ∷ (" 1", Err (BadByte 0))
    ∷ ("-1", Err (BadByte 0))
    ∷ ("1 GB", Err (BadByte 1))
    ∷ ("1.5GB", Err (BadByte 1))
    ∷ ("1Ã©", Err (BadByte 1))
    ∷ ("1G2", Err (BadByte 2))
    ∷ ("5EB ", Err (BadByte 3))
    ∷ ("12x%", Err (BadByte 3))
    ∷ ("999999999999999999999 ", Err (BadByte 21))
    ∷ ("12kb", Err (UnknownSuffix 2))
    ∷ ("12KB", Err (UnknownSuffix 2))
    ∷ ("1b", Err (UnknownSuffix 1))
    ∷ ("1gib", Err (UnknownSuffix 1))
    ∷ ("1EiBB", Err (UnknownSuffix 1))
    ∷ ("99999999999999999999x", Err (UnknownSuffix 20))
    ∷ []

-- expiries
abbrev pub expiries : Readings Expiry
expiries =
    ("1M", Ok (expiry 1 0 0 0 0 0))
    ∷ ("2H", Ok (expiry 0 2 0 0 0 0))
    ∷ ("3d", Ok (expiry 0 0 3 0 0 0))
    ∷ ("4w", Ok (expiry 0 0 0 4 0 0))
    ∷ ("5m", Ok (expiry 0 0 0 0 5 0))
    ∷ ("9999y", Ok (expiry 0 0 0 0 0 9999))
    ∷ ("1m 2M", Ok (expiry 2 0 0 0 1 0))
    ∷ ("4w 007d", Ok (expiry 0 0 7 4 0 0))
    ∷ ("1M 2H 3d 4w 5m 6y", Ok (expiry 1 2 3 4 5 6))
    ∷ ("6y 5m 4w 3d 2H 1M", Ok (expiry 1 2 3 4 5 6))
    ∷ ("00000000000000000001d", Ok (expiry 0 0 1 0 0 0))
    ∷ ("000000000000000000001d", Ok (expiry 0 0 1 0 0 0))
    ∷ ("", Err Empty)
    ∷ ("d", Err (BadByte 0))
    ∷ (" 3d", Err (BadByte 0))
    ∷ ("3", Err (BadByte 1))
    ∷ ("3D", Err (BadByte 1))
    ∷ ("3 d", Err (BadByte 1))
    ∷ ("3h", Err (BadByte 1))
    ∷ ("3dd", Err (BadByte 2))
    ∷ ("3d4w", Err (BadByte 2))
    ∷ ("3d ", Err (BadByte 3))
    ∷ ("3d  4w", Err (BadByte 3))
    ∷ ("3d 4", Err (BadByte 4))
    ∷ ("0d x", Err (BadByte 3))
    ∷ ("0d", Err OutOfRange)
    ∷ ("10000y", Err OutOfRange)
    ∷ ("99999999999999999999d", Err OutOfRange)
    ∷ ("1d 2d", Err OutOfRange)
    ∷ ("1d 4w 1d", Err OutOfRange)
    ∷ ("4w 0d", Err OutOfRange)
    ∷ []

-- the numbers of the faults
abbrev pub fault_numbers : List (ValueFault × ℕ)
fault_numbers =
    (Empty, 1)
    ∷ (BadByte 7, 2)
    ∷ (UnknownSuffix 7, 3)
    ∷ (TooLarge, 4)
    ∷ (OutOfRange, 5)
    ∷ []

-- every case
pub record ReadersGive : Type 0 where
  pub of_booleans : Gives (λ text. boolean_of (codes text)) booleans
  pub of_cpus : Gives (λ text. cpu_of (codes text)) cpus
  pub of_addresses : Gives (λ text. address_of (codes text)) addresses
  pub of_networks : Gives (λ text. cidr_of (codes text)) networks
  pub of_small_counts : Gives (λ text. count_of (codes text) 1 100) small_counts
  pub of_any_counts : Gives (λ text. count_of (codes text) 0 (2 ^ 64 - 1)) any_counts
  pub of_memories : Gives (λ text. memory_of (codes text)) memories
  pub of_sizes : Gives (λ text. size_of (codes text)) sizes
  pub of_expiries : Gives (λ text. expiry_of (codes text)) expiries
  pub numbers : Gives fault_number fault_numbers
