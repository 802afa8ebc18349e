use Rattle.std.proofs.Common.{◌≡◌, None, take}
use Rattle.rules_limits.specs.AllProjects.{networks_over}
use Rattle.plain_lists.specs.Firsts.{first_of}
use Rattle.rules_limits.proofs.all_projects.networks_exceed.Given as goal

-- those before break nothing
abbrev pub invariant-loop-project : goal.invariant-loop-project
invariant-loop-project l = first_of (networks_over l.before l.after) (take l.project-index l.projects) ≡ None
