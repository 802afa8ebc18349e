use Rattle.std.proofs.Common.{sym, ◌∙◌}
use Rattle.serve_loop.proofs.SessionParts.{some_sent}
use Rattle.serve_loop.proofs.listening.tell.Goals as goal

pub returns : goal.returns
returns g c = λ filter held source. rw c.after_sending.ensures (
    some_sent c.args.terms filter c.args.notices c.args.next held source _ _ _ c.send_notices-written.result
    (sym c.is_empty.ensures ∙ c.if-is_empty.false) (rw c.view.ensures at c.send_notices-written.ensures)
    )
