use Rattle.gates.proofs.Telling.{may-answer-then, turned_so}
use Rattle.gates.proofs.machine.DaemonMachineMachine.turn.Goals as goal

pub returns-clause-answer : goal.returns-clause-answer
returns-clause-answer g c = may-answer-then c.args.self.now.latest c.latest_after-latest.result c.args.event c.at_moment-taken.result
    c.latest_after-latest.ensures.rises c.latest_after-latest.ensures.early c.facts_hold.ensures
    c.latest_after-latest.ensures.is c.at_moment-taken.ensures.is c.turn-answer.ensures

pub returns-clause-turned : goal.returns-clause-turned
returns-clause-turned g c = turned_so c.args.self.now.latest c.latest_after-latest.result c.args.event c.at_moment-taken.result
    c.latest_after-latest.ensures.is c.at_moment-taken.ensures.is c.turn-answer.ensures
