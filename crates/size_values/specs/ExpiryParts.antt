-- Words for the contracts with which an expiry is read part by part.
use Rattle.std.specs.Prelude.{ℕ, ◌≡◌, ◌+◌, ◌<◌, ◌⊎◌, ◌==◌, true, false, not, ◌&&◌, ◌||◌, if◌then◌else◌, List, drop}
use Rattle.std.specs.Prelude.{slice_index, Option, Some, None, nat_le}
use Rattle.std.specs.Str.{byte}
use Rattle.size_values.specs.Number.{number_at}
use Rattle.size_values.specs.Expiry.{is_unit, is_space}
use Rattle.size_values.specs.declared.expiry.Expiry.{Expiry}
use Rattle.size_values.specs.declared.expiry.Part.{Part}
use Rattle.size_values.specs.declared.expiry.Unit.{Unit}
use Rattle.size_values.specs.declared.expiry.Unit.TheVariants.{Minutes, Hours, Days, Weeks, Months, Years}

abbrev pub letter_of : Unit → ℕ
letter_of Minutes = byte "M"
letter_of Hours = byte "H"
letter_of Days = byte "d"
letter_of Weeks = byte "w"
letter_of Months = byte "m"
letter_of Years = byte "y"

-- the number of one unit
abbrev pub amount_in : Unit → Expiry → ℕ
amount_in Minutes expiry = expiry.minutes
amount_in Hours expiry = expiry.hours
amount_in Days expiry = expiry.days
amount_in Weeks expiry = expiry.weeks
amount_in Months expiry = expiry.months
amount_in Years expiry = expiry.years

-- the same with another number of one unit
abbrev pub with_amount : Unit → ℕ → Expiry → Expiry
with_amount Minutes number expiry = record expiry { minutes = number }
with_amount Hours number expiry = record expiry { hours = number }
with_amount Days number expiry = record expiry { days = number }
with_amount Weeks number expiry = record expiry { weeks = number }
with_amount Months number expiry = record expiry { months = number }
with_amount Years number expiry = record expiry { years = number }

-- no unit is named
abbrev pub none_yet : Expiry
none_yet = record { minutes = 0; hours = 0; days = 0; weeks = 0; months = 0; years = 0 }

-- the same with one more part, if its number is fit and its unit is not named yet
abbrev pub with_part : Part → Expiry → Option Expiry
with_part part expiry =
    if not (nat_le 1 part.number.value && nat_le part.number.value 9999) || not (amount_in part.unit expiry == 0)
    then None
    else Some (with_amount part.unit part.number.value expiry)

-- the part is the digits at the place and the letter after them
pub record IsPartAt (text : List ℕ) (at : ℕ) (part : Part) : Type 0 where
  pub number : part.number ≡ number_at (drop at text)
  pub some : 0 < part.number.len
  pub letter : letter_of part.unit ≡ slice_index text (at + part.number.len)
  pub end : part.end ≡ at + part.number.len + 1

-- no digit stands at the place, or no letter of a unit after the digits
abbrev pub MissesPart : List ℕ → ℕ → ℕ → Type 0
MissesPart text at place =
    let len = (number_at (drop at text)).len in
    ((place ≡ at) × (len ≡ 0)) ⊎ ((place ≡ at + len) × (0 < len) × (is_unit (slice_index text (at + len)) ≡ false))

-- the part is the one after a space at the place
pub record FollowsSpace (text : List ℕ) (at : ℕ) (part : Part) : Type 0 where
  pub space : is_space (slice_index text at) ≡ true
  pub part_is : IsPartAt text (at + 1) part

-- no space stands at the place, or no part after it
abbrev pub MissesSpace : List ℕ → ℕ → ℕ → Type 0
MissesSpace text at place =
    ((place ≡ at) × (is_space (slice_index text at) ≡ false))
    ⊎ ((is_space (slice_index text at) ≡ true) × MissesPart text (at + 1) place)
