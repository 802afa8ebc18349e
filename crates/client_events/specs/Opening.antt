-- The handshake that asks for events, and what accepts it (RFC 6455, section 4).
use Rattle.std.specs.Prelude.{ℕ, Bool, ◌&&◌, ◌==◌, not, List, [], ◌++◌, codes, bytes_eq, is_some, unwrap_or}
use Rattle.websocket.specs.Handshake.{accept_key_of}
use Rattle.websocket.specs.Headers.{Fields, header_value, value_is}

-- the key of each handshake
abbrev pub key : List ℕ
key = codes "dGhlIHNhbXBsZSBub25jZQ=="

-- the handshake that asks for the events of this project
abbrev pub handshake_for : List ℕ → List ℕ
handshake_for project =
    codes "GET /1.0/events?project=" ++ project
    ++ codes " HTTP/1.1\r\nHost: localhost\r\nConnection: Upgrade\r\nUpgrade: websocket\r\nSec-WebSocket-Version: 13\r\nSec-WebSocket-Key: dGhlIHNhbXBsZSBub25jZQ==\r\n\r\n"

-- the fields change the protocol to WebSocket, answer the key, and choose no extension and no subprotocol
unfoldable pub answers_key : Fields → Bool
answers_key fields =
    value_is fields (codes "Upgrade") (codes "websocket")
    && (value_is fields (codes "Connection") (codes "Upgrade")
    && (bytes_eq (unwrap_or (header_value fields (codes "Sec-WebSocket-Accept")) []) (accept_key_of key)
    && (not (is_some (header_value fields (codes "Sec-WebSocket-Extensions")))
    && not (is_some (header_value fields (codes "Sec-WebSocket-Protocol"))))))

-- a head with this minor version, status and fields accepts the handshake
unfoldable pub is_accepting : ℕ → ℕ → Fields → Bool
is_accepting minor code fields = not (minor == 0) && (code == 101 && answers_key fields)
