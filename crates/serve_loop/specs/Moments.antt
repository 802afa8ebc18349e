-- The deadlines of waits.
use Rattle.std.specs.Prelude.{◌≡◌, ◌+◌, ℕ, ℤ, pos, negsuc, nat_le, Bool, false, Option, Some, None}
use Rattle.http_front.specs.Clocks.{Readings}
use Rattle.records.specs.declared.commands.What.{What}
use Rattle.records.specs.declared.commands.What.TheVariants as what
use Rattle.gates.specs.Moments.{IsRead}

-- when a wait of so many seconds ends that was asked for at this moment; a negative number is no end
abbrev pub deadline_of : ℕ → ℤ → Option ℕ
deadline_of moment (pos seconds) = Some (moment + seconds)
deadline_of moment (negsuc n) = None

-- the deadline of a command that was asked at this moment, if it is a wait that has one
abbrev pub deadline_by : ℕ → What → Option ℕ
deadline_by moment (what.Wait op timeout) = deadline_of moment timeout
deadline_by moment other = None

-- Whether a deadline is reached: it is at the clock's next reading or before it. Without a deadline the clock is not
-- read.
abbrev pub IsLate : Option ℕ → Readings → Bool → Readings → Type 0
IsLate None told late told' = (late ≡ false) × (told' ≡ told)
IsLate (Some deadline) told late told' = (moment : ℕ) × IsRead told moment told' × (late ≡ nat_le deadline moment)
