-- What the values of options say.
use Rattle.std.specs.Prelude.{ℕ, ◌-◌, ◌^◌, ◌==◌, Bool, not, ◌&&◌, if◌then◌else◌, List, length, Option, Some, None}
use Rattle.std.specs.Prelude.{option_map, is_some, nat_le, codes}
use Rattle.std.specs.List.{filter_map, list_all, slice_split}
use Rattle.std.specs.Str.{byte, bytes_eq}
use Rattle.size_values.specs.Moments.{moment_limit}
use Rattle.rest_json.specs.declared.terms.Dialect.{Dialect}
use Rattle.rest_json.specs.declared.terms.Dialect.TheVariants.{Client, Plain}
use Rattle.command_words.specs.Numbers.{number_said}
use Rattle.command_words.specs.declared.run_words.Pace.{Pace}
use Rattle.command_words.specs.declared.run_words.Pace.TheVariants.{All, Steps}

-- ---- numbers

-- the moment that a value of `--now` says: a number of seconds since 1970, before the year 10000
abbrev pub moment_said : List ℕ → Option ℕ
moment_said value = number_said 0 (moment_limit - 1) value

-- the word of the start that a value of `--boot` says
abbrev pub boot_said : List ℕ → Option ℕ
boot_said value = number_said 0 (2 ^ 64 - 1) value

-- the seed of a stream of requests
abbrev pub seed_said : List ℕ → Option ℕ
seed_said value = number_said 0 (2 ^ 64 - 1) value

-- how many instances a stream of requests makes
abbrev pub count_said : List ℕ → Option ℕ
count_said value = number_said 0 10000 value

-- the number of a call, where calls are numbered from 1
abbrev pub call_number_said : List ℕ → Option ℕ
call_number_said text = number_said 1 (2 ^ 64 - 1) text

-- ---- paces

-- the pace that a value of `--steps` says: a number of steps up to 1,000,000, or all of them
abbrev pub pace_said : List ℕ → Option Pace
pace_said value =
    if bytes_eq value (codes "all") then Some All else option_map Steps (number_said 0 1000000 value)

-- ---- dialects

-- the dialect that a value of `--dialect` says
abbrev pub dialect_said : List ℕ → Option Dialect
dialect_said value =
    if bytes_eq value (codes "plain") then Some Plain
    else if bytes_eq value (codes "client") then Some Client
    else None

-- ---- lists of calls

-- the parts of a text between its commas
abbrev pub parts_of : List ℕ → List (List ℕ)
parts_of text = slice_split (λ code. code == byte ",") text

-- a text is 1 to 64 numbers of calls, joined by commas
abbrev pub are_call_numbers : List ℕ → Bool
are_call_numbers value =
    nat_le (length (parts_of value)) 64 && list_all (λ part. is_some (call_number_said part)) (parts_of value)

-- the numbers of calls that a value of `--fail-host` or `--fail-keeper` says
abbrev pub call_numbers_said : List ℕ → Option (List ℕ)
call_numbers_said value =
    if are_call_numbers value then Some (filter_map call_number_said (parts_of value)) else None
