use Rattle.std.proofs.Common.{◌≡◌, take}
use Rattle.config_lists.specs.Entries.{KeysRise}
use Rattle.plain_lists.specs.Members.{Each}
use Rattle.row_readings.specs.PoolLimits.{all_limits}
use Rattle.row_readings.proofs.pool_limits.PoolLimits.of_all.Given as goal

-- those of the projects before, whose keys rise
abbrev pub invariant-loop-project : goal.invariant-loop-project
invariant-loop-project l =
    (l.limits.items ≡ all_limits (take l.project-index l.projects)) × Each (λ p. KeysRise p.config) (take l.project-index l.projects)
