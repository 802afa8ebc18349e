use Rattle.machine_laws.proofs.RecordsChanges.{records-after}
use Rattle.machine_laws.proofs.kept_records.commits_keep_the_records.Goals as goal

pub returns : goal.returns
returns c = records-after
