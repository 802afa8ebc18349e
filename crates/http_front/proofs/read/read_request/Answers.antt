use Rattle.http_front.proofs.ReadLemmas.{next-request, next-stop, held-request, held-stop}
use Rattle.http_front.proofs.read.read_request.Goals as goal

pub returns-in-Ok-clause-next : goal.returns-in-Ok-clause-next
returns-in-Ok-clause-next g c = next-request c.in-Ok.ensures.ok

pub returns-in-Err-clause-next : goal.returns-in-Err-clause-next
returns-in-Err-clause-next g c = rw c.from.ensures (next-stop _ c.in-Err.stop c.in-Err.ensures.held c.in-Err.ensures.err)

pub returns-in-Ok-clause-held : goal.returns-in-Ok-clause-held
returns-in-Ok-clause-held g c = held-request c.in-Ok.ensures.ok

pub returns-in-Err-clause-held : goal.returns-in-Err-clause-held
returns-in-Err-clause-held g c = rw c.from.ensures (held-stop _ c.in-Err.stop c.in-Err.ensures.held c.in-Err.ensures.err)
