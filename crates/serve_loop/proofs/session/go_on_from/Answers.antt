use Rattle.std.proofs.Common.{[]}
use Rattle.serve_loop.proofs.SessionParts.{hears_then}
use Rattle.serve_loop.proofs.session.go_on_from.Goals as goal

pub returns-in-At : goal.returns-in-At
returns-in-At g c = hears_then (c.in-At.ensures c.args.filter.now [] _)
    (rw c.new-held.ensures.items at c.listen-ends.ensures)

pub returns-in-Over : goal.returns-in-Over
returns-in-Over g c = c.in-Over.ensures c.args.filter.now [] _
