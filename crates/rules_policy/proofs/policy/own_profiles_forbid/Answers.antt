use Rattle.std.proofs.Common.{filter, ap, ◌∙◌}
use Rattle.std.specs.Str.{bytes_eq}
use Rattle.plain_lists.specs.Firsts.{first_of}
use Rattle.row_machine.specs.machine.State.{State}
use Rattle.rules_refusals.proofs.Saying.{says-as}
use Rattle.rules_policy.specs.Within.{own_profile}
use Rattle.rules_policy.proofs.OwnRows.{own-profiles}
use Rattle.rules_policy.proofs.policy.own_profiles_forbid.Goals as goal

pub returns : goal.returns
returns c =
    let project = c.args.project.now in
    let rule = own_profile project c.args.number in
    let profiles = c.view.inside.profiles.now in
    says-as c.profiles_forbid.result
    (ap (first_of rule) (c.rows_of.ensures ∙ ap (λ name. filter (λ row. bytes_eq row.project name) profiles) c.name.ensures)
    ∙ own-profiles project c.args.number profiles
    ∙ ap (λ (s : State). first_of rule s.profiles) c.view.view_is)
    c.profiles_forbid.ensures
