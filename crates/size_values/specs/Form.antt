-- Words for the readers' own contracts: a text as far as it has been read.
use Rattle.std.specs.Prelude.{ℕ, ◌≡◌, ◌<◌, ◌≤◌, Bool, true, List, length, take, slice_index}

-- each of the first n bytes may follow the bytes before it
pub record StandsTo (may_follow : List ℕ → ℕ → Bool) (text : List ℕ) (n : ℕ) : Type 0 where
  pub within : n ≤ length text
  pub each : (place : ℕ) → place < n → may_follow (take place text) (slice_index text place) ≡ true
