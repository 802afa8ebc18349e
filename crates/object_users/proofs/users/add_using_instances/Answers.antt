use Rattle.std.proofs.Common.{◌≡◌, ◌++◌, OnOk, map, filter, ap, subst, ◌∙◌}
use Rattle.records.specs.declared.rows.Row.TheVariants as row
use Rattle.row_machine.specs.machine.Holders.{instance_uses}
use Rattle.row_machine.specs.machine.State.{State}
use Rattle.object_users.proofs.AtHome.{using-instances}
use Rattle.object_users.proofs.users.add_using_instances.Goals as goal

pub returns : goal.returns
returns c =
    let uses = instance_uses c.args.view.now c.args.home.now c.args.of.now in
    subst (λ is. OnOk c.add_instances_among.result (c.add_instances_among.new.all.items ≡ c.args.all.now.items ++ map row.Instance is))
    (ap (filter uses) c.rows_that_may_use-rows.ensures
    ∙ using-instances c.args.view.now c.args.home.now c.args.of.now c.view.inside.instances.now
    ∙ ap (λ (s : State). filter uses s.instances) c.view.view_is)
    c.add_instances_among.ensures
