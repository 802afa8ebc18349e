use Rattle.std.proofs.Common.{◌≡◌, None, take}
use Rattle.row_machine.specs.machine.LimitRules.{project_without_amount}
use Rattle.plain_lists.specs.Firsts.{first_of}
use Rattle.rules_limits.proofs.counts.counts_broken.Given as goal

-- those before break nothing
abbrev pub invariant-loop-project : goal.invariant-loop-project
invariant-loop-project l = first_of (project_without_amount l.after) (take l.project-index l.projects) ≡ None
