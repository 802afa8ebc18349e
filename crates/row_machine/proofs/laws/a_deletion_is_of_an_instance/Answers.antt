use Rattle.row_machine.proofs.Deeds.{deletes-instances}
use Rattle.row_machine.proofs.laws.a_deletion_is_of_an_instance.Goals as goal

pub returns : goal.returns
returns c = deletes-instances
