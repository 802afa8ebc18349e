use Rattle.std.proofs.Common.{◌≡◌, take}
use Rattle.rules_limits.proofs.limited.limited_projects.Given as goal

abbrev pub invariant-loop-project : goal.invariant-loop-project
invariant-loop-project l = l.all.items ≡ take l.project-index l.projects
