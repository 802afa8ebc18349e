use Rattle.std.proofs.Common.{◌≡◌, None, take}
use Rattle.plain_lists.specs.Firsts.{first_of}
use Rattle.rules_conflicts.specs.Users.{instance_url}
use Rattle.rules_conflicts.proofs.users.unused_by_instances.Given as goal

-- those before name it not
abbrev pub invariant-loop-row : goal.invariant-loop-row
invariant-loop-row l = first_of (instance_url l.view l.home l.of) (take l.row-index l.rows) ≡ None
