use Rattle.std.proofs.Common.{filter, length, sym, ap, ◌∙◌}
use Rattle.std.specs.Str.{bytes_eq}
use Rattle.project_limits.specs.declared.admission.LimitKey.TheVariants.{Networks}
use Rattle.project_limits.specs.declared.limits.Limits.{Limits}
use Rattle.row_machine.specs.machine.LimitRules.{limit_exceeded}
use Rattle.rules_refusals.proofs.Saying.{says-as}
use Rattle.rules_limits.proofs.all_projects.count_exceeds.Goals as goal

pub returns : goal.returns
returns c =
    let project = c.args.project.now in
    let before = c.networks_before-before.ensures.count ∙ ap (λ name. length (filter (λ text. bytes_eq text name) c.args.before.now)) c.name-name.ensures in
    let after = c.networks_after-after.ensures.count ∙ ap (λ name. length (filter (λ n. bytes_eq n.project name) c.args.after.now)) c.name-name.ensures in
    let limit = sym c.in-Some.is ∙ ap (λ (l : Limits). l.networks) c.limits.ensures in
    says-as c.limit_exceeded.result
    (λ i. limit_exceeded project Networks (limit i) (before i) (after i))
    c.limit_exceeded.ensures
