-- The frames that a server sends behind the head of a handshake, and what is printed of them and answered to them (RFC 6455,
-- sections 5 and 7).
use Rattle.std.specs.Prelude.{ℕ, ◌≤◌, Bool, true, false, ◌&&◌, ◌==◌, not, nat_le, if◌then◌else◌, List, [], ◌∷◌, length}
use Rattle.std.specs.Prelude.{Option, None, Some, is_some, Result, Ok, Err}
use Rattle.std.specs.Int.{w16, from_be_bytes, to_be_bytes}
use Rattle.httparse.specs.Spans.{span_bytes}
use Rattle.websocket.specs.CloseCode.{close_code_of, is_allowed}
use Rattle.websocket.specs.Connection.{whole_header}
use Rattle.websocket.specs.Frame.{decode_frame, encode_frame}
use Rattle.websocket.specs.declared.error.Error.{Error}
use Rattle.websocket.specs.declared.protocol.frame.codec.FrameStatus.{FrameStatus}
use Rattle.websocket.specs.declared.protocol.frame.codec.FrameStatus.TheVariants as status
use Rattle.websocket.specs.declared.protocol.frame.codec.RawFrame.{RawFrame}
use Rattle.websocket.specs.declared.protocol.frame.coding.OpCode.{OpCode}
use Rattle.websocket.specs.declared.protocol.frame.coding.OpCode.TheVariants as opcode
use Rattle.websocket.specs.declared.protocol.frame.coding.Control.{Control}
use Rattle.websocket.specs.declared.protocol.frame.coding.Control.TheVariants as control
use Rattle.websocket.specs.declared.protocol.frame.coding.Data.TheVariants as message
use Rattle.websocket.specs.declared.protocol.frame.header.FrameHeader.{FrameHeader}
use Rattle.client_events.specs.Columns.{event_line}
use Rattle.client_events.specs.declared.columns.EventForm.{EventForm}
use Rattle.client_events.specs.declared.frames.Heard.{Heard}
use Rattle.client_events.specs.declared.frames.Heard.TheVariants as heard

-- ---- answers, which a client masks

-- the key of the mask
abbrev pub mask : List ℕ
mask = 55 ∷ 250 ∷ 33 ∷ 61 ∷ []

-- a control frame with this payload
unfoldable pub answer_frame : Control → List ℕ → List ℕ
answer_frame kind payload = encode_frame (whole_header (opcode.Control kind) (Some mask)) payload

-- a code that an endpoint may send
abbrev pub may_be_sent : ℕ → Bool
may_be_sent code = is_allowed (close_code_of code)

-- the code of the close that answers a close with this payload: its own, if it has one and that may be sent, and else 1002,
-- a protocol error
abbrev pub code_for : List ℕ → Option ℕ
code_for payload =
    if length payload == 0 then None
    else if length payload == 1 then Some 1002
    else if may_be_sent (from_be_bytes w16 payload) then Some (from_be_bytes w16 payload)
    else Some 1002

-- a code as the payload of a close
abbrev pub code_bytes : Option ℕ → List ℕ
code_bytes None = []
code_bytes (Some code) = to_be_bytes w16 code

-- ---- what a frame is

-- a control frame has at most 125 bytes of payload
abbrev pub is_short : OpCode → ℕ → Bool
is_short (opcode.Control kind) count = nat_le count 125
is_short (opcode.Data kind) count = true

-- a frame keeps the rules for those of a server that sends each message whole: it is not masked, and no extension is in use
abbrev pub is_sound : FrameHeader → ℕ → Bool
is_sound header count =
    header.is_final && not (is_some header.mask) && not header.rsv1 && not header.rsv2 && not header.rsv3
    && is_short header.opcode count

-- a text is an event, of which a line is printed
abbrev pub heard_event : Option (List ℕ) → ℕ → Heard
heard_event (Some line) len = heard.Whole line [] false len
heard_event None len = heard.Malformed

-- a control frame: a ping is answered by a pong with its payload, and a close, which is the last frame, by a close
abbrev pub heard_control : Control → List ℕ → ℕ → Heard
heard_control control.Ping payload len = heard.Whole [] (answer_frame control.Pong payload) false len
heard_control control.Pong payload len = heard.Whole [] [] false len
heard_control control.Close payload len =
    heard.Whole [] (answer_frame control.Close (code_bytes (code_for payload))) true len

-- a frame of this kind with this payload; what is neither text nor control is no event
abbrev pub heard_by : EventForm → OpCode → List ℕ → ℕ → Heard
heard_by form (opcode.Data message.Text) payload len = heard_event (event_line form payload) len
heard_by form (opcode.Data message.Binary) payload len = heard.Malformed
heard_by form (opcode.Data message.Continue) payload len = heard.Malformed
heard_by form (opcode.Control kind) payload len = heard_control kind payload len

abbrev pub heard_of : EventForm → FrameHeader → List ℕ → ℕ → Heard
heard_of form header payload len =
    if is_sound header (length payload) then heard_by form header.opcode payload len else heard.Malformed

-- ---- what stands next

-- the most bytes of payload that a frame may have
abbrev pub most_payload : ℕ
most_payload = 67108864

abbrev pub heard_from : EventForm → List ℕ → Result (FrameStatus RawFrame) Error → Heard
heard_from form bytes (Ok (status.Partial needed)) = heard.Begun
heard_from form bytes (Ok (status.Complete frame)) =
    heard_of form frame.header (span_bytes bytes frame.payload) frame.payload.end
heard_from form bytes (Err why) = heard.Malformed

-- what stands at the front of the bytes
abbrev pub heard_in : EventForm → List ℕ → Heard
heard_in form bytes = heard_from form bytes (decode_frame (Some most_payload) bytes)

-- a whole frame ends in so many bytes
abbrev pub EndsWithin : ℕ → Heard → Type 0
EndsWithin n heard.Begun = Unit {0}
EndsWithin n heard.Malformed = Unit {0}
EndsWithin n (heard.Whole line answer is_last len) = len ≤ n
