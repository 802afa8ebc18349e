-- What the hub is seen as, and what is true of its fields.
use Rattle.std.specs.Prelude.{◌≡◌}
use Rattle.row_machine.specs.shown.Notices.{kept_notices}
use Rattle.event_hub.specs.declared.hub.Hub.TheInside.{Inside}
use Rattle.event_hub.specs.Recent.{Recent}

-- the notices, and the next number
abbrev pub recent_in : Inside → Recent
recent_in hub = record { notices = hub.ring.items; next = hub.next }

-- there is room for the notices that are kept
abbrev pub IsHub : Inside → Type 0
IsHub hub = hub.ring.capacity ≡ kept_notices
