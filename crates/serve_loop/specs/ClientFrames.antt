-- The frames that a client sends in an event session, and what is answered to each (RFC 6455, sections 5 and 7).
use Rattle.std.specs.Prelude.{◌≡◌, ◌≤◌, ℕ, Bool, true, false, ◌&&◌, ◌||◌, ◌==◌, not, nat_le, if◌then◌else◌, List, [], ◌++◌}
use Rattle.std.specs.Prelude.{length, drop, Option, None, Some, is_some, Result, Ok, Err}
use Rattle.std.specs.Int.{w16, from_be_bytes, to_be_bytes}
use Rattle.httparse.specs.Spans.{span_bytes}
use Rattle.websocket.specs.CloseCode.{close_code_of, is_allowed}
use Rattle.websocket.specs.Connection.{whole_header}
use Rattle.websocket.specs.Frame.{decode_frame, encode_frame}
use Rattle.websocket.specs.Mask.{apply_mask_if}
use Rattle.websocket.specs.declared.error.Error.{Error}
use Rattle.websocket.specs.declared.error.Error.TheVariants as error
use Rattle.websocket.specs.declared.protocol.frame.codec.FrameStatus.{FrameStatus}
use Rattle.websocket.specs.declared.protocol.frame.codec.FrameStatus.TheVariants as status
use Rattle.websocket.specs.declared.protocol.frame.codec.RawFrame.{RawFrame}
use Rattle.websocket.specs.declared.protocol.frame.coding.OpCode.{OpCode}
use Rattle.websocket.specs.declared.protocol.frame.coding.OpCode.TheVariants as opcode
use Rattle.websocket.specs.declared.protocol.frame.coding.Control.TheVariants as control
use Rattle.websocket.specs.declared.protocol.frame.header.FrameHeader.{FrameHeader}
use Rattle.serve_loop.specs.declared.answering.FrameAnswer.{FrameAnswer}
use Rattle.serve_loop.specs.declared.answering.FrameAnswer.TheVariants as answer

-- ---- what stands next

-- the most bytes of payload that a frame of a client may have
abbrev pub most_payload : ℕ
most_payload = 4096

-- What stands at the front of the bytes that came: a frame that is not whole yet; a frame, with its payload without the
-- mask, and the bytes after it; no frame; or a frame that is too long.
pub data Next : Type 0 where
  unfinished : Next
  whole : FrameHeader → List ℕ → List ℕ → Next
  malformed : Next
  too_long : Next

abbrev pub refusal : Error → Next
refusal (error.Capacity why) = too_long
refusal other = malformed

abbrev pub next_from : List ℕ → Result (FrameStatus RawFrame) Error → Next
next_from bytes (Ok (status.Partial needed)) = unfinished
next_from bytes (Ok (status.Complete frame)) =
    whole frame.header (apply_mask_if frame.header.mask (span_bytes bytes frame.payload)) (drop frame.payload.end bytes)
next_from bytes (Err why) = refusal why

abbrev pub next_in : List ℕ → Next
next_in bytes = next_from bytes (decode_frame (Some most_payload) bytes)

-- ---- what is answered

-- a control frame is not cut into fragments, and has at most 125 bytes of payload
abbrev pub is_whole_control : OpCode → Bool → ℕ → Bool
is_whole_control (opcode.Control kind) is_final count = is_final && nat_le count 125
is_whole_control (opcode.Data kind) is_final count = true

-- a frame keeps the rules for those of a client: it is masked, no extension is in use
abbrev pub is_sound : FrameHeader → ℕ → Bool
is_sound header count =
    is_some header.mask && not header.rsv1 && not header.rsv2 && not header.rsv3
    && is_whole_control header.opcode header.is_final count

abbrev pub protocol_error : ℕ
protocol_error = 1002

-- a code that an endpoint may send
abbrev pub may_be_sent : ℕ → Bool
may_be_sent code = is_allowed (close_code_of code)

-- the code that answers a close frame with this payload: its own, if it has one and that may be sent
abbrev pub code_for : List ℕ → Option ℕ
code_for payload =
    if length payload == 0 then None
    else if length payload == 1 then Some protocol_error
    else if may_be_sent (from_be_bytes w16 payload) then Some (from_be_bytes w16 payload)
    else Some protocol_error

-- what is answered to a frame that keeps the rules
abbrev pub answer_by : OpCode → List ℕ → FrameAnswer
answer_by (opcode.Control control.Ping) payload = answer.Pong
answer_by (opcode.Control control.Close) payload = answer.Close (code_for payload)
answer_by (opcode.Control control.Pong) payload = answer.Nothing
answer_by (opcode.Data kind) payload = answer.Nothing

-- What is answered to a frame with this header and this payload: a pong to a ping; a close with the same code to a
-- close; nothing to a pong and to data; and a close with the code 1002 to a frame that breaks the rules.
abbrev pub answer_to : FrameHeader → List ℕ → FrameAnswer
answer_to header payload =
    if is_sound header (length payload) then answer_by header.opcode payload else answer.Close (Some protocol_error)

-- the same for what stands next
abbrev pub answer_at : Next → FrameAnswer
answer_at unfinished = answer.Nothing
answer_at (whole header payload rest) = answer_to header payload
answer_at malformed = answer.Close (Some protocol_error)
answer_at too_long = answer.Close (Some 1009)

abbrev pub payload_at : Next → List ℕ
payload_at (whole header payload rest) = payload
payload_at other = []

-- the bytes that are held once it is answered
abbrev pub rest_at : Next → List ℕ → List ℕ
rest_at (whole header payload rest) held = rest
rest_at other held = held

-- ---- the frames that are answered, which a server doesn't mask

unfoldable pub pong_frame : List ℕ → List ℕ
pong_frame payload = encode_frame (whole_header (opcode.Control control.Pong) None) payload

-- what a close frame says: its code, if it has one, and a reason after it
abbrev pub close_payload : Option ℕ → List ℕ → List ℕ
close_payload None reason = []
close_payload (Some code) reason = to_be_bytes w16 code ++ reason

unfoldable pub close_frame : Option ℕ → List ℕ → List ℕ
close_frame code reason = encode_frame (whole_header (opcode.Control control.Close) None) (close_payload code reason)

-- an answer to a frame with this payload
abbrev pub answer_text : FrameAnswer → List ℕ → List ℕ
answer_text answer.Nothing payload = []
answer_text answer.Pong payload = pong_frame payload
answer_text (answer.Close code) payload = close_frame code []
