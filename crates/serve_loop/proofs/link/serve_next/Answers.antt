use Rattle.std.proofs.Common.{refl, inr}
use Rattle.serve_loop.proofs.Linking.{turn_follows}
use Rattle.serve_loop.proofs.link.serve_next.Goals as goal

pub returns-in-Ok : goal.returns-in-Ok
returns-in-Ok g c =
    rw c.follow.ensures.held (turn_follows _ _ _ _ c.in-Ok.got _ c.in-Ok.ensures.ok c.follow.ensures.follows)

pub returns-in-Err : goal.returns-in-Err
returns-in-Err g c = inr (inr (c.in-Err.ensures.err, record { gate = refl; clock = refl }))
