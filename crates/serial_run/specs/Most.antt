-- How long a session may be.
use Rattle.std.specs.Prelude.{ℕ}

-- the most requests that one session answers
abbrev pub most_requests : ℕ
most_requests = 1000000
