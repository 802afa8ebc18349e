use Rattle.std.proofs.Common.{filter, ap, ◌∙◌}
use Rattle.std.specs.Str.{bytes_eq}
use Rattle.row_machine.specs.machine.State.{State}
use Rattle.plain_lists.specs.Firsts.{first_of}
use Rattle.rules_refusals.proofs.Saying.{says-as}
use Rattle.rules_limits.specs.Within.{own_instance}
use Rattle.rules_limits.proofs.OwnRows.{own-instances}
use Rattle.rules_limits.proofs.counts.own_instances_without_amount.Goals as goal

pub returns : goal.returns
returns c =
    let rule = own_instance c.args.view.now c.args.project.now in
    let rows = c.view.inside.instances.now in
    says-as c.instances_without_amount.result
    (ap (first_of rule) (c.rows_of-rows.ensures ∙ ap (λ name. filter (λ row. bytes_eq row.project name) rows) (c.view-2.ensures.value ∙ c.name.ensures))
    ∙ own-instances c.args.view.now c.args.project.now rows
    ∙ ap (λ (s : State). first_of rule s.instances) c.view.view_is)
    c.instances_without_amount.ensures
