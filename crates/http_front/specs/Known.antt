-- What is known of a head that was read before.
use Rattle.std.specs.Prelude.{◌≡◌, ℕ, ◌⊎◌, false, List, [], None}
use Rattle.http_heads.specs.declared.request.Request.{Request}
use Rattle.http_heads.specs.Messages.{IsMessage}

-- the method and the target of a plain request
pub record Known : Type 0 where
  pub method : List ℕ
  pub target : List ℕ

-- a plain request has no body, no `Origin` and no `If-Match`, and its connection stays open and asks for no other
-- protocol
abbrev pub plain_request : Known → Request
plain_request known =
    record {
      method = known.method;
      target = known.target;
      body = [];
      last = false;
      expects = false;
      upgrade = None;
      origin = false;
      if_match = None;
    }

-- the head is the whole message that this plain request is; or it is empty, and nothing is known
abbrev pub IsKnown : List ℕ → Known → Type 0
IsKnown head known = (head ≡ []) ⊎ IsMessage head (plain_request known) []
