use Rattle.std.proofs.Common.{Bool, ap, ◌∙◌}
use Rattle.std.specs.List.{list_any}
use Rattle.std.specs.Str.{bytes_eq}
use Rattle.records.specs.declared.rows.Volume.{Volume}
use Rattle.row_machine.specs.machine.State.{State}
use Rattle.rules_conflicts.proofs.OwnRows.{any-own}
use Rattle.rules_conflicts.proofs.occupied.project_has_volume.Goals as goal

pub returns : goal.returns
returns c =
    c.has_volume.ensures ∙ ap (list_any test) c.rows_of.ensures
    ∙ any-own test test c.view.inside.volumes.now (λ r other. other)
    ∙ ap (λ (s : State). list_any test s.volumes) c.view.view_is
  where
    test : Volume → Bool
    test r = bytes_eq r.project c.args.project.now
