use Rattle.std.proofs.Common.{refl}
use Rattle.serve_loop.specs.Frames.{away_frame}
use Rattle.serve_loop.specs.declared.session.SessionEnd.TheVariants as end
use Rattle.serve_loop.proofs.SessionParts.{closes}
use Rattle.serve_loop.proofs.listening.leave.Goals as goal

pub returns : goal.returns
returns g c = λ terms filter source gate. rw c.end_after_sending.ensures (
    closes away_frame end.Ended (λ t takes. (refl, takes)) c.send_close-written.result c.send_close-written.ensures
    )
