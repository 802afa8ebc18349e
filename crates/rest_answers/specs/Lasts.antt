-- The last request on a connection.
use Rattle.std.specs.Prelude.{List, [], ◌∷◌, Bool, if◌then◌else◌}
use Rattle.std.specs.List.{list_any}
use Rattle.http_heads.specs.declared.request.Request.{Request}

-- the requests up to and with the first that is the last on its connection
abbrev pub through_last : List Request → List Request
through_last [] = []
through_last (message ∷ more) = message ∷ (if message.last then [] else through_last more)

-- one of the requests is the last on its connection
abbrev pub has_last : List Request → Bool
has_last messages = list_any (λ message. message.last) messages
