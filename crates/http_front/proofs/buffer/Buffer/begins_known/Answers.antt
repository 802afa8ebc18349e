use Rattle.std.proofs.Common.{sym, ◌∙◌}
use Rattle.http_front.proofs.LeaveLemmas.{told-known}
use Rattle.http_front.proofs.buffer.Buffer.begins_known.Goals as goal

pub returns-clause-told : goal.returns-clause-told
returns-clause-told c = λ some refuses.
    told-known refuses c.self.inside.start c.deref.result.now _ _ c.begins.result _ c.deref.ensures.value c.self.view_is c.begins.ensures.is
    (sym c.is_some.ensures ∙ some)
