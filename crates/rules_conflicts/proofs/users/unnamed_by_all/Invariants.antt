use Rattle.std.proofs.Common.{◌≡◌, None, take}
use Rattle.plain_lists.specs.Firsts.{first_of}
use Rattle.rules_conflicts.specs.Users.{naming_url}
use Rattle.rules_conflicts.proofs.users.unnamed_by_all.Given as goal

-- those before name it not
abbrev pub invariant-loop-row : goal.invariant-loop-row
invariant-loop-row l = first_of (naming_url l.view l.home l.profile) (take l.row-index l.rows) ≡ None
