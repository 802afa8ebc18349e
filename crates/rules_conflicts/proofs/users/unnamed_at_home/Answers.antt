use Rattle.std.proofs.Common.{ap, ◌∙◌}
use Rattle.plain_lists.specs.Firsts.{first_of}
use Rattle.row_machine.specs.machine.Rows.{instance_names}
use Rattle.row_machine.specs.machine.State.{State}
use Rattle.row_readings.specs.Rising.{rows_at_home}
use Rattle.rules_refusals.proofs.Saying.{says-as}
use Rattle.rules_conflicts.specs.Users.{naming_url}
use Rattle.rules_conflicts.proofs.AtHome.{naming-at_home}
use Rattle.rules_conflicts.proofs.users.unnamed_at_home.Goals as goal

pub returns : goal.returns
returns c =
    let home = c.args.home.now in
    says-as c.unnamed_by_all.result
    (ap (first_of (naming_url c.args.view.now home c.args.profile.now))
    (c.rows_at_home-rows.ensures ∙ ap (λ (s : State). rows_at_home instance_names home s.instances) c.view.view_is)
    ∙ naming-at_home c.args.view.now home c.args.profile.now)
    c.unnamed_by_all.ensures
