use Rattle.core_turns.proofs.Shortness.{stay-short}
use Rattle.core_turns.proofs.notice_laws.operations_stay_short.Goals as goal

pub returns : goal.returns
returns c = stay-short
