-- The kit's check of the head that accepts a handshake, where no subprotocol was offered.
use Rattle.std.proofs.Common.{◌≡◌, ◌∙◌, ℕ, List, [], ◌==◌, Bool, true, false, ◌&&◌, not, cond, Option, Some, None, Err, is_ok, is_some, refl, ap}
use Rattle.std.specs.Prelude.{bytes_eq, codes, unwrap_or}
use denote.Ref.{Bor}
use Rattle.websocket.specs.Frame.{Checked}
use Rattle.websocket.specs.Handshake.{accept_key_of, check_response, check_response_headers, check_subprotocol}
use Rattle.websocket.specs.Headers.{Fields, header_value, value_is}
use Rattle.websocket.specs.declared.handshake.client.ClientRequest.{ClientRequest}
use Rattle.websocket.specs.declared.handshake.failure.HandshakeError.{HandshakeError}
use Rattle.websocket.specs.declared.handshake.failure.HandshakeError.TheVariants.{UnexpectedExtension}
use Rattle.client_events.specs.Opening.{answers_key, is_accepting, key}

-- a check that has to hold, and one that must not
holds : (b : Bool) (e : HandshakeError) (rest : Checked HandshakeError) → is_ok (cond (not b) (Err e) rest) ≡ (b && is_ok rest)
holds true e rest = refl
holds false e rest = refl

fails : (b : Bool) (e : HandshakeError) (rest : Checked HandshakeError) → is_ok (cond b (Err e) rest) ≡ (not b && is_ok rest)
fails true e rest = refl
fails false e rest = refl

-- nothing is chosen where nothing was offered
none_chosen : (offers : List (Bor (List ℕ))) → offers ≡ [] → (chosen : Option (List ℕ))
    → is_ok (check_subprotocol offers chosen) ≡ not (is_some chosen)
none_chosen offers same None = rw same refl
none_chosen offers same (Some name) = rw same refl

answers : (r : ClientRequest) (fields : Fields) → r.key ≡ key → r.subprotocols.now ≡ []
    → is_ok (check_response_headers r fields) ≡ answers_key fields
unfolding answers_key
answers r fields same none =
    let upgrade = value_is fields (codes "Upgrade") (codes "websocket") in
    let connection = value_is fields (codes "Connection") (codes "Upgrade") in
    let accepted = unwrap_or (header_value fields (codes "Sec-WebSocket-Accept")) [] in
    let extension = is_some (header_value fields (codes "Sec-WebSocket-Extensions")) in
    let chosen = header_value fields (codes "Sec-WebSocket-Protocol") in
    holds upgrade _ _
    ∙ ap (λ b. upgrade && b) (holds connection _ _
    ∙ ap (λ b. connection && b) (holds (bytes_eq accepted (accept_key_of r.key)) _ _
    ∙ ap (λ k. bytes_eq accepted (accept_key_of k) && is_ok (cond extension (Err UnexpectedExtension) (check_subprotocol r.subprotocols.now chosen))) same
    ∙ ap (λ b. bytes_eq accepted (accept_key_of key) && b) (fails extension _ _
    ∙ ap (λ b. not extension && b) (none_chosen r.subprotocols.now none chosen))))

pub accepting : (r : ClientRequest) (minor code : ℕ) (fields : Fields) → r.key ≡ key → r.subprotocols.now ≡ []
    → is_ok (check_response r minor code fields) ≡ is_accepting minor code fields
unfolding is_accepting
accepting r minor code fields same none =
    fails (minor == 0) _ _
    ∙ ap (λ b. not (minor == 0) && b) (holds (code == 101) _ _
    ∙ ap (λ b. (code == 101) && b) (answers r fields same none))
