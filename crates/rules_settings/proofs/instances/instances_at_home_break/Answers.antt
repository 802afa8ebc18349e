use Rattle.std.proofs.Common.{ap, ◌∙◌}
use Rattle.plain_lists.specs.Firsts.{first_of}
use Rattle.row_machine.specs.machine.Rows.{instance_names}
use Rattle.row_machine.specs.machine.State.{State}
use Rattle.row_readings.specs.Rising.{rows_at_home}
use Rattle.rules_refusals.proofs.Saying.{says-as}
use Rattle.rules_settings.specs.Named.{where_named}
use Rattle.rules_settings.proofs.AtHome.{named-at_home}
use Rattle.rules_settings.proofs.instances.instances_at_home_break.Goals as goal

pub returns : goal.returns
returns c =
    let named = where_named c.args.view.now c.args.profile.now in
    says-as c.instances_break.result
    (ap (first_of named) (c.rows_at_home-rows.ensures
    ∙ ap (λ home. rows_at_home instance_names home c.view.inside.instances.now) c.view-2.ensures.value)
    ∙ named-at_home c.args.view.now c.args.profile.now c.view.inside.instances.now
    ∙ ap (λ (s : State). first_of named s.instances) c.view.view_is)
    c.instances_break.ensures
