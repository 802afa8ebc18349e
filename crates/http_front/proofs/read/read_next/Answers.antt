use Rattle.std.proofs.lemmas.Result.{err_from_is_err_and}
use Rattle.http_front.proofs.ReadLemmas.{ahead-head, ahead-body, TakesIn-further, head_len-taken, Says-taken, IsCut-says, StopsBefore-stops, Takes-taken}
use Rattle.http_front.proofs.read.read_next.Goals as goal

pub returns-in_err-await_body-clause-err : goal.returns-in_err-await_body-clause-err
returns-in_err-await_body-clause-err g c =
    let p = err_from_is_err_and c.from_residual-in_err-await_body.result c.from_residual-in_err-await_body.ensures.1 in
    let len = c.in_ok-len.len in
    let takes = rw c.read_head.ensures.same at c.await_body.ensures.takes in
    let ends = head_len-taken takes c.in_ok-len.ensures.ok in
    let later = Says-taken len takes c.in_ok-len.ensures.within c.in_ok-head.ensures.ok in
    rw (p.1, p.2) (StopsBefore-stops _ _ _ _ c.in_err-await_body.field-0.0 c.in_err-await_body.ensures.err (λ short. IsCut-says len ends later short))

pub take_request-requires-clause-ends : goal.take_request-requires-clause-ends
take_request-requires-clause-ends g c =
    head_len-taken (rw c.read_head.ensures.same at c.await_body.ensures.takes) c.in_ok-len.ensures.ok

pub returns-clause-ok : goal.returns-clause-ok
returns-clause-ok g c =
    let takes = rw c.read_head.ensures.same at c.await_body.ensures.takes in
    Takes-taken (TakesIn-further c.await_head.ensures.takes takes) c.in_ok-take_request.ensures.ok

pub returns-in_err-len-clause-ahead : goal.returns-in_err-len-clause-ahead
returns-in_err-len-clause-ahead g c = ahead-head c.await_head.ensures.ahead

pub returns-in_err-head-clause-ahead : goal.returns-in_err-head-clause-ahead
returns-in_err-head-clause-ahead g c = ahead-head c.await_head.ensures.ahead

pub returns-in_err-await_body-clause-held : goal.returns-in_err-await_body-clause-held
returns-in_err-await_body-clause-held g c =
    let p = err_from_is_err_and c.from_residual-in_err-await_body.result c.from_residual-in_err-await_body.ensures.1 in
    let takes = rw c.read_head.ensures.same at c.await_body.ensures.takes in
    rw p.1 (TakesIn-further c.await_head.ensures.takes takes)

pub returns-in_err-await_body-clause-ahead : goal.returns-in_err-await_body-clause-ahead
returns-in_err-await_body-clause-ahead g c =
    let ahead = rw c.read_head.ensures.same at c.await_body.ensures.ahead in
    ahead-body c.in_ok-len.len c.await_head.ensures.ahead c.in_ok-len.ensures.ok c.in_ok-head.ensures.ok ahead

pub returns-in_err-take_request-clause-held : goal.returns-in_err-take_request-clause-held
returns-in_err-take_request-clause-held g c =
    let p = err_from_is_err_and c.from_residual-in_err-take_request.result c.from_residual-in_err-take_request.ensures.1 in
    let takes = rw c.read_head.ensures.same at c.await_body.ensures.takes in
    rw (p.1, c.in_err-take_request.ensures.err) (TakesIn-further c.await_head.ensures.takes takes)

pub returns-in_err-take_request-clause-ahead : goal.returns-in_err-take_request-clause-ahead
returns-in_err-take_request-clause-ahead g c =
    let ahead = rw c.read_head.ensures.same at c.await_body.ensures.ahead in
    ahead-body c.in_ok-len.len c.await_head.ensures.ahead c.in_ok-len.ensures.ok c.in_ok-head.ensures.ok ahead

pub returns-clause-ahead : goal.returns-clause-ahead
returns-clause-ahead g c =
    let ahead = rw c.read_head.ensures.same at c.await_body.ensures.ahead in
    ahead-body c.in_ok-len.len c.await_head.ensures.ahead c.in_ok-len.ensures.ok c.in_ok-head.ensures.ok ahead
