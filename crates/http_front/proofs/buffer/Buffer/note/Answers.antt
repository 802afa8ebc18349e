use Rattle.http_front.proofs.KnownLemmas.{head-front}
use Rattle.http_front.proofs.buffer.Buffer.note.Goals as goal

pub note-requires-clause-ends : goal.note-requires-clause-ends
note-requires-clause-ends c =
    head-front c.args.len c.self.inside.start c.deref.result.now _ _ c.deref.ensures.value c.self.view_is c.requires.within c.requires.ends
