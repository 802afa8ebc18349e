use Rattle.row_machine.proofs.Deeds.{success-is-fixed}
use Rattle.row_machine.proofs.laws.a_success_tells_what_is_fixed_at_its_entry.Goals as goal

pub returns : goal.returns
returns c = success-is-fixed
