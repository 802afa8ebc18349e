-- Whether a head asks for the WebSocket protocol, and by which key (RFC 6455, section 4.2.1).
use Rattle.std.specs.Prelude.{ℕ, ◌==◌, Bool, false, ◌||◌, ◌&&◌, if◌then◌else◌, List, [], ◌∷◌, length, take}
use Rattle.std.specs.Prelude.{drop, Option, Some, None, codes}
use Rattle.std.specs.List.{list_all}
use Rattle.std.specs.Char.{is_ascii_alphanumeric}
use Rattle.std.specs.Str.{bytes_eq}
use Rattle.httparse.specs.Grammar.{RequestHead}
use Rattle.http_heads.specs.Fields.{fields_of, values_of, some_lists}

-- a letter, a digit, `+` or `/`
abbrev pub is_base64 : ℕ → Bool
is_base64 byte = is_ascii_alphanumeric byte || byte == 43 || byte == 47

-- 22 characters of base64 and `==`, as 16 bytes are spelled (RFC 4648, section 4)
unfoldable pub is_key : List ℕ → Bool
is_key text = length text == 24 && list_all is_base64 (take 22 text) && bytes_eq (drop 22 text) (codes "==")

-- the value of a list that has no other
abbrev pub only : List (List ℕ) → Option (List ℕ)
only [] = None
only (value ∷ []) = Some value
only (value ∷ other ∷ more) = None

-- the value is there, and it is this text
abbrev pub is_text : List ℕ → Option (List ℕ) → Bool
is_text text None = false
is_text text (Some value) = bytes_eq value text

-- the headers ask for the WebSocket protocol of version 13
unfoldable pub asks_websocket : List (List ℕ × List ℕ) → Bool
asks_websocket fields =
    some_lists (codes "upgrade") (codes "websocket") fields
    && some_lists (codes "connection") (codes "upgrade") fields
    && is_text (codes "13") (only (values_of (codes "sec-websocket-version") fields))

-- the value, where it is a key
unfoldable pub key_of : Option (List ℕ) → Option (List ℕ)
key_of None = None
key_of (Some value) = if is_key value then Some value else None

-- the key of a head with this method, version and headers: HTTP/1.0 has no upgrades (RFC 9110, section 7.8)
unfoldable pub key_in : List ℕ → ℕ → List (List ℕ × List ℕ) → Option (List ℕ)
key_in method minor fields =
    if bytes_eq method (codes "GET") && minor == 1 && asks_websocket fields
    then key_of (only (values_of (codes "sec-websocket-key") fields)) else None

-- the key of the WebSocket handshake that a head asks for
abbrev pub upgrade_key : RequestHead → Option (List ℕ)
upgrade_key head = key_in head.method head.minor (fields_of head)
