use Rattle.machine_laws.proofs.ChangeKinds.{notices-keep, closing-keeps}
use Rattle.machine_laws.proofs.kinds.notices_and_closing_keep_the_facts.Goals as goal

pub returns-clause-notices : goal.returns-clause-notices
returns-clause-notices c = notices-keep

pub returns-clause-closing : goal.returns-clause-closing
returns-clause-closing c = closing-keeps
