use Rattle.std.proofs.Common.{sym, ap, ◌∙◌}
use Rattle.row_machine.specs.machine.StandingRules.{deed_asked}
use Rattle.rules_conflicts.proofs.powers.deed_asked.Goals as goal

pub returns-in-Create : goal.returns-in-Create
returns-in-Create c = c.creation_deed.ensures c.in-Create.body ∙ ap deed_asked (sym c.in-Create.is)

pub returns-in-Move : goal.returns-in-Move
returns-in-Move c = c.rename_deed.ensures c.in-Move.to ∙ ap deed_asked (sym c.in-Move.is)
