use Rattle.http_front.proofs.LeaveLemmas.{told-head}
use Rattle.http_front.proofs.buffer.Buffer.expects_leave.Goals as goal

pub returns-clause-told : goal.returns-clause-told
returns-clause-told c =
    rw c.self.view_is
    (told-head c.args.refuses_origin c.args.len c.self.inside.start c.deref.result.now _ _ c.expects_leave.result c.deref.ensures.value c.self.view_is c.requires.ends c.expects_leave.ensures)
