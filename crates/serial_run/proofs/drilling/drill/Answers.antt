use Rattle.serial_run.proofs.Drilled.{drill_text}
use Rattle.serial_run.proofs.drilling.drill.Goals as goal

pub returns-clause-text : goal.returns-clause-text
returns-clause-text g c = drill_text _ _ _ _ _ _ _ _ _ _ _ c.drill_from.ensures
