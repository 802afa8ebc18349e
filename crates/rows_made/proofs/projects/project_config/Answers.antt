use Rattle.std.proofs.Common.{ap, ◌∙◌}
use Rattle.std.specs.Prelude.{codes}
use Rattle.row_machine.specs.machine.NewRows.{feature_on}
use Rattle.rows_made.proofs.projects.project_config.Goals as goal

pub returns : goal.returns
returns c =
    c.in_ok-turn_on-4.ensures
    ∙ ap (λ settings. feature_on settings (codes "features.storage.buckets"))
    (c.in_ok-turn_on-3.ensures
    ∙ ap (λ settings. feature_on settings (codes "features.images"))
    (c.in_ok-turn_on-2.ensures
    ∙ ap (λ settings. feature_on settings (codes "features.storage.volumes"))
    (c.in_ok-turn_on.ensures ∙ ap (λ settings. feature_on settings (codes "features.profiles")) c.in_ok-config.ensures)))
