use Rattle.std.proofs.Common.{refl}
use Rattle.websocket.specs.FrameHeader.{encode_header}
use Rattle.serve_loop.specs.ClientFrames.{close_frame}
use Rattle.serve_loop.proofs.frame_laws.a_close_frame_without_a_code.Goals as goal

pub returns : goal.returns
unfolding close_frame encode_header
returns c = refl
