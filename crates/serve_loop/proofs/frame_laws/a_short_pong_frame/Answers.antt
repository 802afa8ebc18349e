use Rattle.std.proofs.Common.{refl}
use Rattle.websocket.specs.FrameHeader.{encode_header}
use Rattle.serve_loop.specs.ClientFrames.{pong_frame}
use Rattle.serve_loop.proofs.frame_laws.a_short_pong_frame.Goals as goal

pub returns : goal.returns
unfolding pong_frame encode_header
returns c = refl
