use Rattle.core_turns.proofs.Workers.{close-comes}
use Rattle.core_turns.proofs.working.close.Goals as goal

pub returns : goal.returns
returns c = λ store.
    close-comes c.args.estate.now.state c.close.new.self.state c.close.new.self.untold store c.close.ensures.state c.close.ensures.untold
