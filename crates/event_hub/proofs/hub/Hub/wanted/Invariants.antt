use Rattle.std.proofs.Common.{◌≡◌, ◌++◌, filter}
use Rattle.event_hub.specs.Recent.{is_wanted}
use Rattle.event_hub.proofs.hub.Hub.wanted.Given as goal

-- those taken so far, and of the notices that are left those that will be
abbrev pub invariant-loop-slot : goal.invariant-loop-slot
invariant-loop-slot l =
    l.wanted.items ++ filter (is_wanted l.cursor l.listener) l.slot-iterator ≡ filter (is_wanted l.cursor l.listener) l.self.notices
