use Rattle.machine_laws.proofs.AgainRefused.{sent-again}
use Rattle.machine_laws.proofs.repeats.a_creation_sent_again_is_refused.Goals as goal

pub returns : goal.returns
returns c = sent-again
