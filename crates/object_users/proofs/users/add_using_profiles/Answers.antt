use Rattle.std.proofs.Common.{◌≡◌, ◌++◌, OnOk, map, filter, ap, subst, ◌∙◌}
use Rattle.records.specs.declared.rows.Row.TheVariants as row
use Rattle.row_machine.specs.machine.Holders.{profile_uses}
use Rattle.row_machine.specs.machine.State.{State}
use Rattle.object_users.proofs.AtHome.{using-profiles}
use Rattle.object_users.proofs.users.add_using_profiles.Goals as goal

pub returns : goal.returns
returns c =
    let uses = profile_uses c.args.view.now c.args.home.now c.args.of.now in
    subst (λ is. OnOk c.add_profiles_among.result (c.add_profiles_among.new.all.items ≡ c.args.all.now.items ++ map row.Profile is))
    (ap (filter uses) c.rows_that_may_use-rows.ensures
    ∙ using-profiles c.args.view.now c.args.home.now c.args.of.now c.view.inside.profiles.now
    ∙ ap (λ (s : State). filter uses s.profiles) c.view.view_is)
    c.add_profiles_among.ensures
