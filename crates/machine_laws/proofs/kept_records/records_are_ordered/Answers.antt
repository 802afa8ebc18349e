use Rattle.machine_laws.proofs.RecordsOrdered.{records-ordered}
use Rattle.machine_laws.proofs.kept_records.records_are_ordered.Goals as goal

pub returns : goal.returns
returns c = records-ordered
