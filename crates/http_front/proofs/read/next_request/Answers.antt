use Rattle.http_front.proofs.KnownLemmas.{Takes-held}
use Rattle.http_front.proofs.read.next_request.Goals as goal

pub returns-in-Some-clause-ok : goal.returns-in-Some-clause-ok
returns-in-Some-clause-ok g c =
    let taken = rw c.in-Some.is at c.in_ok-request.ensures.some in Takes-held (g.S.Source.left c.args.source.now) taken
