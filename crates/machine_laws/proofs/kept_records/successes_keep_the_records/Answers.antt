use Rattle.machine_laws.proofs.RecordsKept.{successes-follow}
use Rattle.machine_laws.proofs.kept_records.successes_keep_the_records.Goals as goal

pub returns : goal.returns
returns c = successes-follow
