-- The text by which a server accepts a WebSocket handshake (RFC 6455, section 4.2.2).
use Rattle.std.specs.Prelude.{ℕ, List, ◌++◌, codes}
use Rattle.base64.specs.Engines.{standard}
use Rattle.base64.specs.GeneralPurpose.{encode_of}
use Rattle.sha1.specs.Sha1.{sha1}

-- the identifier that each server puts after the key
abbrev pub identifier : List ℕ
identifier = codes "258EAFA5-E914-47DA-95CA-C5AB0DC85B11"

-- the text that accepts a handshake of this key
unfoldable pub accept_text : List ℕ → List ℕ
accept_text key = encode_of standard (sha1 (key ++ identifier))
