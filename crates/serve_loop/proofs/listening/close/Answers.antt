use Rattle.std.proofs.Common.{refl}
use Rattle.serve_loop.specs.Frames.{lagged_frame}
use Rattle.serve_loop.specs.declared.session.SessionEnd.TheVariants as end
use Rattle.serve_loop.proofs.SessionParts.{closes}
use Rattle.serve_loop.proofs.listening.close.Goals as goal

pub returns : goal.returns
returns g c = λ terms filter source gate. rw c.end_after_sending.ensures (
    closes lagged_frame (end.Lagged c.args.cursor c.args.oldest) (λ t takes. (refl, takes)) c.send_close-written.result
    c.send_close-written.ensures
    )
