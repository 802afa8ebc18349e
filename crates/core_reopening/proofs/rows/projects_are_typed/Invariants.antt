use Rattle.std.proofs.Common.{take}
use Rattle.plain_lists.specs.Members.{Each}
use Rattle.records.specs.declared.rows.Project.{Project}
use Rattle.records.specs.declared.rows.Row.TheVariants as row
use Rattle.row_codec.specs.Rows.{HasTypedParts}
use Rattle.core_reopening.proofs.rows.projects_are_typed.Given as goal

abbrev pub invariant-loop-project : goal.invariant-loop-project
invariant-loop-project l = Each (λ (r : Project). HasTypedParts (row.Project r)) (take l.project-index l.projects)
