use Rattle.std.proofs.Common.{◌≡◌, None, take}
use Rattle.plain_lists.specs.Firsts.{first_of}
use Rattle.rules_conflicts.specs.Users.{claim_url}
use Rattle.rules_conflicts.proofs.users.unused_by_claims.Given as goal

-- those before name it not
abbrev pub invariant-loop-operation : goal.invariant-loop-operation
invariant-loop-operation l = first_of (claim_url l.view l.home l.of l.project) (take l.operation-index l.live) ≡ None
