-- What a clock tells of the moments that it will give.
use Rattle.std.specs.Prelude.{◌≡◌, ℕ, ◌+◌, ◌-◌, min, List, [], ◌∷◌, Option, Some, None, IfSome, option_map}
use Rattle.size_values.specs.Moments.{moment_limit}

-- The readings to come, by their numbers from 0 on, where a clock tells them.
abbrev pub Readings : Type 0
Readings = Option (ℕ → ℕ)

-- the readings that come after the next one
abbrev pub after_next : Readings → Readings
after_next told = option_map (λ readings number. readings (number + 1)) told

-- where the readings are told, the next one is this moment
abbrev pub IsNext : Readings → ℕ → Type 0
IsNext told moment = IfSome told (λ readings. moment ≡ readings 0)

-- A clock was read once for each of these moments: they are the readings that it told, in their order, and it tells
-- those after them.
abbrev pub Reads : Readings → List ℕ → Readings → Type 0
Reads told [] told' = told' ≡ told
Reads told (moment ∷ more) told' = IsNext told moment × Reads (after_next told) more told'

-- the readings of a clock that stands still at a moment
abbrev pub standing_still : ℕ → Readings
standing_still moment = Some (λ number. moment)

-- What the clock of the system gives for the seconds since 1970 that the system gives: these, and never more than the
-- last moment; where it gives none, what was given last.
abbrev pub moment_of : Option ℕ → ℕ → ℕ
moment_of (Some seconds) last = min seconds (moment_limit - 1)
moment_of None last = last
