use Rattle.std.proofs.Common.{◌≡◌, drop}
use Rattle.config_lists.specs.Entries.{replaced}
use Rattle.expansion.proofs.expanded.overlay.Given as goal

-- what is left leads to the whole
abbrev pub invariant-loop-place : goal.invariant-loop-place
invariant-loop-place l = replaced l.config (drop l.place l.by) ≡ replaced l.fn.config l.by
