use Rattle.std.proofs.Common.{◌≡◌, ◌-◌, length, take, drop, ap, arith, length-drop}
use Rattle.std.proofs.lemmas.List.{take_rest}
use Rattle.http_front.proofs.StreamLemmas.{appends_more, appends_none}
use Rattle.http_front.proofs.sink.write_through.Goals as goal

pub returns-in-Err : goal.returns-in-Err
returns-in-Err g c = (c.loop.done, appends_none _ _ _ _ c.loop.invariant.1 c.in-Err.ensures.err)

pub loop-preserved : goal.loop-preserved
loop-preserved g c =
    let bytes = c.args.bytes.now in
    let rest : take (length bytes - c.loop.done) (drop c.loop.done bytes) ≡ drop c.loop.done bytes = take_rest bytes c.loop.done in (
      omega (arith, c.in-Ok.ensures.bound, ap length rest, length-drop c.loop.done bytes, c.loop.invariant.0),
      appends_more _ _ _ c.loop.done c.in-Ok.count bytes _ rest c.loop.invariant.1 c.in-Ok.ensures.ok,
    )
