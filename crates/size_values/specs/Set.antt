-- Words for the contracts with which a CPU set is read number by number.
use Rattle.std.specs.Prelude.{ℕ, ◌≡◌, ◌+◌, ◌^◌, ◌<◌, ◌⊎◌, Bool, true, false, not, ◌&&◌, ◌||◌, List, drop, slice_index}
use Rattle.std.specs.Prelude.{nat_lt, nat_le}
use Rattle.size_values.specs.Cpu.{is_comma, is_dash}
use Rattle.size_values.specs.Number.{number_at}
use Rattle.size_values.specs.declared.cpu.SetFront.{SetFront}
use Rattle.size_values.specs.declared.number.Number.{Number}

-- the sign at the end of the front may stand there
abbrev pub is_sign : List ℕ → SetFront → Bool
is_sign text front = is_comma (slice_index text front.end)
    || (is_dash (slice_index text front.end) && not front.in_range)

abbrev pub is_number_large : Number → Bool
is_number_large number = nat_lt 20 number.len || nat_le (2 ^ 63) number.value

-- the front is the first number of a set
pub record BeginsSet (number : Number) (front : SetFront) : Type 0 where
  pub some : 0 < front.end
  pub end : front.end ≡ number.len
  pub last : front.last ≡ number.value
  pub in_range : front.in_range ≡ false
  pub too_large : front.too_large ≡ is_number_large number
  pub unfit : front.unfit ≡ nat_lt 1000000 number.value

-- the new front is the old one with one more sign and number
pub record ContinuesSet (text : List ℕ) (old new : SetFront) : Type 0 where
  pub sign : is_sign text old ≡ true
  pub some : old.end + 1 < new.end
  pub end : new.end ≡ old.end + 1 + (number_at (drop (old.end + 1) text)).len
  pub last : new.last ≡ (number_at (drop (old.end + 1) text)).value
  pub in_range : new.in_range ≡ is_dash (slice_index text old.end)
  pub too_large : new.too_large ≡ (old.too_large || is_number_large (number_at (drop (old.end + 1) text)))
  pub unfit : new.unfit ≡ (old.unfit || nat_lt 1000000 new.last || (new.in_range && nat_lt new.last old.last))

-- no sign that may stand there follows the front, or no number after it
abbrev pub BreaksSet : List ℕ → SetFront → ℕ → Type 0
BreaksSet text front place =
    ((place ≡ front.end) × (is_sign text front ≡ false))
    ⊎ ((place ≡ front.end + 1) × (is_sign text front ≡ true) × ((number_at (drop (front.end + 1) text)).len ≡ 0))
