use Rattle.records.specs.declared.rows.Project.{Project}
use Rattle.records.specs.declared.rows.Row.TheVariants as row
use Rattle.row_codec.specs.Rows.{HasTypedParts}
use Rattle.core_reopening.proofs.Typed.{each-all, each-next}
use Rattle.core_reopening.proofs.rows.projects_are_typed.Goals as goal

pub loop-project-preserved : goal.loop-project-preserved
loop-project-preserved c =
    each-next (λ (r : Project). HasTypedParts (row.Project r)) c.args.projects.now c.loop-project.project-index c.project-item.result c.loop-project-test.true c.project-item.is
    c.project_is_typed.ensures c.loop-project.invariant

pub returns : goal.returns
returns c =
    each-all (λ (r : Project). HasTypedParts (row.Project r)) c.args.projects.now c.loop-project.project-index c.loop-project-test.false c.loop-project.invariant
