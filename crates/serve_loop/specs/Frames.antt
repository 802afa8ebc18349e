-- What an event session writes of its own accord: the head that accepts its handshake (RFC 6455, section 4.2.2), and
-- WebSocket frames (section 5.2), which a server doesn't mask.
use Rattle.std.specs.Prelude.{ℕ, List, ◌++◌, None, Some, codes}
use Rattle.websocket.specs.Connection.{whole_header}
use Rattle.websocket.specs.Frame.{encode_frame}
use Rattle.websocket.specs.declared.protocol.frame.coding.OpCode.TheVariants as opcode
use Rattle.websocket.specs.declared.protocol.frame.coding.Data.TheVariants as message
use Rattle.serve_loop.specs.Accepting.{accept_text}
use Rattle.serve_loop.specs.ClientFrames.{close_frame}

-- the head that accepts a handshake of this key
unfoldable pub accepting_head : List ℕ → List ℕ
accepting_head key =
    codes "HTTP/1.1 101 Switching Protocols\r\nUpgrade: websocket\r\nConnection: Upgrade\r\nSec-WebSocket-Accept: "
    ++ accept_text key ++ codes "\r\n\r\n"

-- a text message in one frame
unfoldable pub text_frame : List ℕ → List ℕ
text_frame text = encode_frame (whole_header (opcode.Data message.Text) None) text

-- the close of a session that lagged: its client keeps no pace with the events (section 7.4.1, code 1008)
abbrev pub lagged_frame : List ℕ
lagged_frame = close_frame (Some 1008) (codes "lagged: events were missed")

-- the close of a session whose source has ended: this end is going away (code 1001)
abbrev pub away_frame : List ℕ
away_frame = close_frame (Some 1001) (codes "")
