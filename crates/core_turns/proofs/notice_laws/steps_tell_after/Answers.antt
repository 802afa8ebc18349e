use Rattle.core_turns.proofs.After.{tells-after}
use Rattle.core_turns.proofs.notice_laws.steps_tell_after.Goals as goal

pub returns : goal.returns
returns c = tells-after
