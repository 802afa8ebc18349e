use Rattle.std.proofs.Common.{◌≡◌, drop}
use Rattle.std.specs.Option.{option_copied}
use Rattle.row_machine.specs.machine.Rows.{project_named}
use Rattle.core_judging.proofs.After.{after_all}
use Rattle.core_judging.proofs.one_project.project_after.Given as goal

-- the changes that are left lead to the same
abbrev pub invariant-loop-change : goal.invariant-loop-change
invariant-loop-change l =
    after_all (drop l.change-index l.changes) l.name (option_copied l.project)
    ≡ after_all l.changes l.name (project_named l.view.projects l.name)
