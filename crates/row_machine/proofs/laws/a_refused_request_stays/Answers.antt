use Rattle.row_machine.proofs.Following.{refused-stays}
use Rattle.row_machine.proofs.laws.a_refused_request_stays.Goals as goal

pub returns : goal.returns
returns c = refused-stays
