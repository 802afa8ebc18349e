use Rattle.std.proofs.Common.{◌≡◌, None, take}
use Rattle.plain_lists.specs.Firsts.{first_of}
use Rattle.row_machine.specs.machine.Holders.{user_in}
use Rattle.rules_conflicts.proofs.users.unused_within.Given as goal

-- those before name it not
abbrev pub invariant-loop-project : goal.invariant-loop-project
invariant-loop-project l = first_of (λ p. user_in l.view l.home l.of p.name) (take l.project-index l.projects) ≡ None
