-- How many commands a server has answered, counted from what it asks of its clock and of its host.
use Rattle.std.specs.Prelude.{◌≡◌, ◌≤◌, ℕ, zero, suc, ◌+◌, ◌-◌, ◌^◌, min, List, [], ◌∷◌, length, Option, Some, None}
use Rattle.incus_run.specs.declared.counts.Counts.{Counts}
use Rattle.incus_run.specs.declared.counts.Last.{Last}
use Rattle.incus_run.specs.declared.counts.Last.TheVariants.{Reading, Call, Report}

-- nothing was asked yet
abbrev pub no_counts : Counts
no_counts = record { answered = 0; last = Report }

-- after a reading of the clock, by what was asked before it
abbrev pub after_reading_at : Last → ℕ → Counts
after_reading_at Reading answered = record { answered = min (answered + 1) (2 ^ 64 - 1); last = Reading }
after_reading_at Call answered = record { answered = answered; last = Report }
after_reading_at Report answered = record { answered = answered; last = Reading }

-- after one more reading of the clock
abbrev pub after_reading : Counts → Counts
after_reading counts = after_reading_at counts.last counts.answered

-- after one more call of the host
abbrev pub after_call : Counts → Counts
after_call counts = record { answered = counts.answered; last = Call }

-- after so many calls of the host, each with the reading for its report
abbrev pub after_calls : ℕ → Counts → Counts
after_calls zero counts = counts
after_calls (suc calls) counts = after_calls calls (after_reading (after_call counts))

-- After a command, for which the clock is read. One that begins an operation is followed by the worker's steps: the
-- clock is read for its first call, and that call is made, and so many more.
abbrev pub after_command : Option ℕ → Counts → Counts
after_command None counts = after_reading counts
after_command (Some more) counts = after_calls (suc more) (after_reading (after_reading counts))

-- after some commands, one after the other
abbrev pub after_commands : List (Option ℕ) → Counts → Counts
after_commands [] counts = counts
after_commands (command ∷ commands) counts = after_commands commands (after_command command counts)

-- At the reading that follows some commands, these are answered.
abbrev pub EachCommandCounts : Type 0
EachCommandCounts = (commands : List (Option ℕ)) → length commands ≤ 2 ^ 64 - 1
    → (after_reading (after_commands commands no_counts)).answered ≡ length commands
