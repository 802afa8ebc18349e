use Rattle.core_reports.proofs.Failing.{failed-by}
use Rattle.core_reports.proofs.ends.fail.Goals as goal

pub returns-clause-state : goal.returns-clause-state
returns-clause-state c = λ o live.
    failed-by c.args.draft.now.state c.break_instance.new.draft.state c.end.new.self.state c.give_back.new.self.state c.args.number o c.args.why c.args.done c.args.moment
    live (c.break_instance.ensures.state o live) c.end.ensures.state c.give_back.ensures.state
