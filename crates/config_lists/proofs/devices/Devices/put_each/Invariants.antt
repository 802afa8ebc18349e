use Rattle.std.proofs.Common.{◌≡◌, drop}
use Rattle.config_lists.specs.Entries.{replaced}
use Rattle.config_lists.proofs.devices.Devices.put_each.Given as goal

-- what is left of `by` leads to the whole replacement
abbrev pub invariant-loop-place : goal.invariant-loop-place
invariant-loop-place l = replaced l.self (drop l.place l.by) ≡ replaced l.fn.self l.by
