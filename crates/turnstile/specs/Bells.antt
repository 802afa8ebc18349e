-- Bells: which of them a turn rings, and after which turn each rang last.
use Rattle.std.specs.Prelude.{ℕ, Bool, false, if◌then◌else◌}
use Rattle.turnstile.specs.declared.bells.Bell.{Bell}
use Rattle.turnstile.specs.declared.bells.Bell.TheVariants as bell
use Rattle.turnstile.specs.declared.bells.LastRung.{LastRung}
use Rattle.turnstile.specs.declared.bells.Rings.{Rings}

-- whether this bell is among those that ring
abbrev pub is_rung : Rings → Bell → Bool
is_rung rings bell.Events = rings.events
is_rung rings bell.Ends = rings.ends
is_rung rings bell.Calls = rings.calls

-- no bell rings
abbrev pub no_rings : Rings
no_rings = record { events = false; ends = false; calls = false }

-- the turn after which this bell rang last
abbrev pub rung_last : LastRung → Bell → ℕ
rung_last last bell.Events = last.events
rung_last last bell.Ends = last.ends
rung_last last bell.Calls = last.calls

-- after a turn of this number, which rings these bells and no other
abbrev pub rung_after : LastRung → Rings → ℕ → LastRung
rung_after last rings turn = record {
  events = if rings.events then turn else last.events;
  ends = if rings.ends then turn else last.ends;
  calls = if rings.calls then turn else last.calls;
}
