-- The last notices, and what a push and a listener make of them.
use Rattle.std.specs.Prelude.{ℕ, ◌+◌, ◌-◌, ◌^◌, ◌==◌, Bool, ◌&&◌, nat_le, List, [], ◌∷◌, if◌then◌else◌}
use Rattle.plain_lists.specs.Rings.{ring_push}
use Rattle.records.specs.declared.notices.Filter.{Filter}
use Rattle.records.specs.declared.notices.Notice.{Notice}
use Rattle.records.specs.declared.notices.Untold.{Untold}
use Rattle.row_machine.specs.machine.State.{State, empty_state}
use Rattle.row_machine.specs.shown.Notices.{kept_notices, takes}

-- the last notices, oldest first, and the number of the next one
pub record Recent : Type 0 where
  pub notices : List Notice
  pub next : ℕ

-- before anything is told
abbrev pub no_notices : Recent
no_notices = record { notices = []; next = 1 }

-- a notice under a number
abbrev pub numbered : ℕ → Untold → Notice
numbered number notice =
    record { number = number; moment = notice.moment; project = notice.project; body = notice.body }

-- a notice gets the next number; where the numbers have come to their end it is dropped
abbrev pub pushed : Untold → Recent → Recent
pushed notice recent =
    if recent.next == 2 ^ 64 - 1 then recent
    else record {
      notices = ring_push kept_notices (numbered recent.next notice) recent.notices;
      next = recent.next + 1;
    }

-- several notices, in their order
abbrev pub all_pushed : List Untold → Recent → Recent
all_pushed [] recent = recent
all_pushed (notice ∷ rest) recent = all_pushed rest (pushed notice recent)

-- the state of the machine that has these notices
abbrev pub with_recent : Recent → State → State
with_recent recent state = record state { notices = recent.notices; next_notice = recent.next }

-- the one that has nothing else
abbrev pub as_state : Recent → State
as_state recent = with_recent recent empty_state

-- the notices of a state of the machine
abbrev pub recent_of : State → Recent
recent_of state = record { notices = state.notices; next = state.next_notice }

-- a listener that asks from a number on takes the notice
abbrev pub is_wanted : ℕ → Filter → Notice → Bool
is_wanted cursor filter notice = nat_le cursor notice.number && takes filter notice

-- the number of the oldest notice, or the next one where there is none
abbrev pub oldest_or : ℕ → List Notice → ℕ
oldest_or next [] = next
oldest_or next (notice ∷ rest) = notice.number

abbrev pub oldest_in : Recent → ℕ
oldest_in recent = oldest_or recent.next recent.notices
