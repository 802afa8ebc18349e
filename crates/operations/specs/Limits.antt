-- How many operations are kept, and how far their numbers go.
use Rattle.std.specs.Prelude.{ℕ, ◌^◌}

-- at most so many operations are live
abbrev pub most_live : ℕ
most_live = 1024

-- at most so many of those that ended are kept
abbrev pub most_ended : ℕ
most_ended = 256

-- every operation's number lies below this one
abbrev pub number_limit : ℕ
number_limit = 2 ^ 40
