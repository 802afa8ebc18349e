use Rattle.std.proofs.Common.{◌≡◌, None, take}
use Rattle.rules_limits.specs.Within.{own_instance}
use Rattle.plain_lists.specs.Firsts.{first_of}
use Rattle.rules_limits.proofs.counts.instances_without_amount.Given as goal

-- those before break nothing
abbrev pub invariant-loop-row : goal.invariant-loop-row
invariant-loop-row l = first_of (own_instance l.view l.project) (take l.row-index l.rows) ≡ None
