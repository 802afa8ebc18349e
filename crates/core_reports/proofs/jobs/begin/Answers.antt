use Rattle.core_reports.proofs.Begun.{first-live-at, first-handed, begun-is}
use Rattle.core_reports.proofs.jobs.begin.Goals as goal

pub set_status-requires-clause-live : goal.set_status-requires-clause-live
set_status-requires-clause-live c = first-live-at c.args.draft.now.state c.args.number c.requires.whole c.requires.first

pub hand_out-requires-clause-call : goal.hand_out-requires-clause-call
hand_out-requires-clause-call c =
    first-handed c.args.draft.now.state c.set_status.new.self.state c.args.number c.args.moment c.requires.whole c.requires.first c.set_status.ensures.state

pub returns-clause-begun : goal.returns-clause-begun
returns-clause-begun c =
    begun-is c.args.draft.now.state c.set_status.new.self.state c.hand_out.new.self.state c.args.number c.args.moment c.hand_out.result c.requires.whole c.requires.first
    c.set_status.ensures.state c.hand_out.ensures.state
