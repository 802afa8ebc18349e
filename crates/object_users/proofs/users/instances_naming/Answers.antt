use Rattle.std.proofs.Common.{◌≡◌, IfOk, map, filter, ap, subst, ◌∙◌}
use Rattle.records.specs.declared.rows.Row.TheVariants as row
use Rattle.row_machine.specs.machine.Holders.{names_profile}
use Rattle.row_machine.specs.machine.State.{State}
use Rattle.object_users.proofs.AtHome.{naming-at_home}
use Rattle.object_users.proofs.users.instances_naming.Goals as goal

pub returns : goal.returns
returns c =
    let uses = names_profile c.args.view.now c.args.home.now c.args.profile.now in
    subst (λ is. IfOk c.naming_among.result (λ all. all.items ≡ map row.Instance is))
    (ap (filter uses) c.rows_at_home-rows.ensures
    ∙ naming-at_home c.args.view.now c.args.home.now c.args.profile.now c.view.inside.instances.now
    ∙ ap (λ (s : State). filter uses s.instances) c.view.view_is)
    c.naming_among.ensures
