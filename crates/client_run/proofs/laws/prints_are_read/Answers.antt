use Rattle.client_run.proofs.PrintLaws.{prints_are_read}
use Rattle.client_run.proofs.laws.prints_are_read.Goals as goal

pub returns : goal.returns
returns c = prints_are_read
