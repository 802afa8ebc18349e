use Rattle.std.proofs.Common.{filter, ap, ◌∙◌}
use Rattle.std.specs.Str.{bytes_eq}
use Rattle.plain_lists.specs.Firsts.{first_of}
use Rattle.row_machine.specs.machine.State.{State}
use Rattle.rules_refusals.proofs.Saying.{says-as}
use Rattle.rules_policy.specs.Within.{own_instance}
use Rattle.rules_policy.proofs.OwnRows.{own-instances}
use Rattle.rules_policy.proofs.policy.own_instances_forbid.Goals as goal

pub returns : goal.returns
returns c =
    let state = c.args.view.now in
    let project = c.args.project.now in
    let rule = own_instance state project c.args.number in
    let instances = c.view.inside.instances.now in
    says-as c.instances_forbid.result
    (ap (first_of rule) (c.rows_of.ensures ∙ ap (λ name. filter (λ row. bytes_eq row.project name) instances) c.name.ensures)
    ∙ own-instances project c.args.number state instances
    ∙ ap (λ (s : State). first_of rule s.instances) c.view.view_is)
    c.instances_forbid.ensures
