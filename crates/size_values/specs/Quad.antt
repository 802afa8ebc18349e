-- Words for the contracts with which an address is read number by number.
use Rattle.std.specs.Prelude.{ℕ, ◌≡◌, ◌+◌, ◌*◌, ◌<◌, ◌≤◌, ◌⊎◌, ◌==◌, true, false, if◌then◌else◌, List, length, take}
use Rattle.std.specs.Prelude.{drop, slice_index, take_while, Option, Some, None}
use Rattle.std.specs.List.{prefix_len}
use Rattle.std.specs.Char.{is_ascii_digit}
use Rattle.std.specs.Str.Parse.{digits_value}
use Rattle.size_values.specs.Form.{StandsTo}
use Rattle.size_values.specs.Address.{is_unfit, may_follow_in_address, is_whole_address, is_address_unfit}
use Rattle.size_values.specs.Address.{address_value}
use Rattle.size_values.specs.declared.address.SmallNumber.{SmallNumber}
use Rattle.size_values.specs.declared.address.Quad.{Quad}

-- the number that digits write, if they are fit
abbrev pub fit_of : ℕ → ℕ → List ℕ → Option ℕ
fit_of least most digits = if is_unfit least most digits then None else Some (digits_value 10 digits)

-- the address of four numbers, if all are fit
abbrev pub quad_value : Option ℕ → Option ℕ → Option ℕ → Option ℕ → Option ℕ
quad_value (Some first) (Some second) (Some third) (Some fourth) =
    Some (((first * 256 + second) * 256 + third) * 256 + fourth)
quad_value first second third fourth = None

-- the number is the one whose digits begin at the place
pub record IsFrom (least most : ℕ) (text : List ℕ) (at : ℕ) (number : SmallNumber) : Type 0 where
  pub end : number.end ≡ at + prefix_len is_ascii_digit (drop at text)
  pub within : number.end ≤ length text
  pub some : at < number.end
  pub value : number.value ≡ fit_of least most (take_while is_ascii_digit (drop at text))

-- the number is the one after the separator at the place
pub record Follows (separator least most : ℕ) (text : List ℕ) (at : ℕ) (number : SmallNumber) : Type 0 where
  pub separates : (slice_index text at == separator) ≡ true
  pub number_is : IsFrom least most text (at + 1) number

-- the separator does not stand at the place, or no digit after it
pub record Misses (separator : ℕ) (text : List ℕ) (at place : ℕ) : Type 0 where
  pub within : place ≤ length text
  pub misses : ((place ≡ at) × ((slice_index text at == separator) ≡ false))
      ⊎ ((place ≡ at + 1) × ((slice_index text at == separator) ≡ true)
      × (prefix_len is_ascii_digit (drop place text) ≡ 0))

-- an address stands at the front, and no digit follows it
pub record IsQuad (text : List ℕ) (quad : Quad) : Type 0 where
  pub stands : StandsTo may_follow_in_address text quad.end
  pub whole : is_whole_address (take quad.end text) ≡ true
  pub ends : is_ascii_digit (slice_index text quad.end) ≡ false
  pub address : quad.address
      ≡ (if is_address_unfit (take quad.end text) then None else Some (address_value (take quad.end text)))

-- the text leaves the form of an address at the place
pub record IsAstray (text : List ℕ) (place : ℕ) : Type 0 where
  pub stands : StandsTo may_follow_in_address text place
  pub stops : place < length text → may_follow_in_address (take place text) (slice_index text place) ≡ false
  pub part : is_whole_address (take place text) ≡ false
