use Rattle.std.proofs.Common.{ap, ap₂, ◌∙◌}
use Rattle.rules_refusals.proofs.Saying.{says-as}
use Rattle.rules_limits.specs.Sums.{lines, lines_over, sums_of}
use Rattle.rules_limits.proofs.Tables.{lines-are}
use Rattle.rules_limits.proofs.all_projects.parts_exceed.Goals as goal

pub returns : goal.returns
returns c =
    let projects = c.args.projects.now in
    says-as c.sums_exceed.result
    (ap₂ (λ before after. lines_over (lines c.args.limited.now before after)) (c.deref.ensures.value ∙ c.in_ok-before.ensures) (c.deref-2.ensures.value ∙ c.in_ok-after.ensures)
    ∙ ap (λ ps. lines_over (lines ps (sums_of c.args.before.now projects) (sums_of c.args.after.now projects))) c.requires.same
    ∙ lines-are c.args.before.now c.args.after.now projects)
    c.sums_exceed.ensures
