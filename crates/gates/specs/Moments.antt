-- One reading of a clock.
use Rattle.std.specs.Prelude.{◌<◌, ℕ, [], ◌∷◌}
use Rattle.size_values.specs.Moments.{moment_limit}
use Rattle.http_front.specs.Clocks.{Readings, Reads}

-- a clock was read once, and gave this moment, before the year 10000
pub record IsRead (told : Readings) (moment : ℕ) (told' : Readings) : Type 0 where
  pub read : Reads told (moment ∷ []) told'
  pub early : moment < moment_limit
