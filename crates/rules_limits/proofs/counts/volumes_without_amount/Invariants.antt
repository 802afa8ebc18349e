use Rattle.std.proofs.Common.{◌≡◌, None, take}
use Rattle.rules_limits.specs.Within.{own_volume}
use Rattle.plain_lists.specs.Firsts.{first_of}
use Rattle.rules_limits.proofs.counts.volumes_without_amount.Given as goal

-- those before break nothing
abbrev pub invariant-loop-row : goal.invariant-loop-row
invariant-loop-row l = first_of (own_volume l.project) (take l.row-index l.rows) ≡ None
