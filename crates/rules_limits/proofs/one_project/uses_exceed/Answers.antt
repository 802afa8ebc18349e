use Rattle.std.proofs.Common.{length, sym, ap, ◌∙◌}
use Rattle.rules_limits.proofs.one_project.uses_exceed.Goals as goal

pub lines_exceed-requires-clause-before : goal.lines_exceed-requires-clause-before
lines_exceed-requires-clause-before c = ap length c.view-2.ensures ∙ c.requires.before ∙ sym (ap length c.view.ensures.same)

pub lines_exceed-requires-clause-after : goal.lines_exceed-requires-clause-after
lines_exceed-requires-clause-after c = ap length c.view-3.ensures ∙ c.requires.after ∙ sym (ap length c.view.ensures.same)
