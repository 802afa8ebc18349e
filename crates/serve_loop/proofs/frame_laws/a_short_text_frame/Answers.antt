use Rattle.std.proofs.Common.{refl}
use Rattle.websocket.specs.FrameHeader.{encode_header}
use Rattle.serve_loop.specs.Frames.{text_frame}
use Rattle.serve_loop.proofs.frame_laws.a_short_text_frame.Goals as goal

pub returns : goal.returns
unfolding text_frame encode_header
returns c = refl
