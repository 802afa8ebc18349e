use Rattle.machine_laws.proofs.SortedKept.{steps-sorted}
use Rattle.machine_laws.proofs.laws.steps_keep_settings_in_order.Goals as goal

pub returns : goal.returns
returns c = steps-sorted
