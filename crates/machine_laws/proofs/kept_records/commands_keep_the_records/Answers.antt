use Rattle.machine_laws.proofs.RecordsKept.{commands-follow}
use Rattle.machine_laws.proofs.kept_records.commands_keep_the_records.Goals as goal

pub returns : goal.returns
returns c = commands-follow
