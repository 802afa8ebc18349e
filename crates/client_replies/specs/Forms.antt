-- The forms of the answers of the REST API, which are JSON objects, read by the names of their members.
use Rattle.std.specs.Prelude.{ℕ, ◌==◌, Bool, false, ◌&&◌, if◌then◌else◌, List, take, drop, Option, Some, None}
use Rattle.std.specs.Prelude.{option_map, option_and_then, codes}
use Rattle.std.specs.Option.{option_map_or}
use Rattle.std.specs.Str.{bytes_eq}
use Rattle.uuid.specs.Text.{hyphenated_text, lower, parsed}
use Rattle.serde_json.specs.Data.{Data}
use Rattle.serde_json.specs.Find.{get, as_number, as_str, as_u64}
use Rattle.serde_json.specs.View.{view}
use Rattle.serde_json.specs.Written.{has_float}
use Rattle.rest_bodies.specs.Members.{object_in}
use Rattle.client_replies.specs.declared.answer.Answer.{Answer}
use Rattle.client_replies.specs.declared.answer.Answer.TheVariants as answer

-- What an answer tells: its metadata, where the request was carried out; the operation that was begun, by its path, and
-- the metadata; or what went wrong, the HTTP status code, and the metadata that there may be.
pub data Told : Type 0 where
  done : Data → Told
  begun : List ℕ → Data → Told
  refused : List ℕ → ℕ → Option Data → Told

-- what an answer that was read tells
abbrev pub told : Answer → Told
told (answer.Sync metadata) = done (view metadata)
told (answer.Async operation metadata) = begun operation (view metadata)
told (answer.Error text code metadata) = refused text code (option_map view metadata)

-- ---- members

unfoldable pub text_at : List ℕ → Data → Option (List ℕ)
text_at key body = option_and_then as_str (get key body)

unfoldable pub number_at : List ℕ → Data → Option ℕ
number_at key body = option_and_then as_u64 (option_and_then as_number (get key body))

-- the member is this text
unfoldable pub says : List ℕ → List ℕ → Data → Bool
says key word body = option_map_or (λ text. bytes_eq text word) (text_at key body) false

-- the member is this number
unfoldable pub counts : List ℕ → ℕ → Data → Bool
counts key number body = option_map_or (λ counted. counted == number) (number_at key body) false

-- ---- paths of operations

-- a text is the UUID that it reads as, written in lower case and with hyphens
unfoldable pub is_id : List ℕ → Bool
is_id text = option_map_or (λ bytes. bytes_eq (hyphenated_text lower bytes) text) (parsed text) false

-- `/1.0/operations/` and an id
unfoldable pub is_operation : List ℕ → Bool
is_operation path = bytes_eq (take 16 path) (codes "/1.0/operations/") && is_id (drop 16 path)

-- the path of an operation
unfoldable pub operation_at : Data → Option (List ℕ)
operation_at body = option_and_then (λ path. if is_operation path then Some path else None) (text_at (codes "operation") body)

-- ---- the three forms

-- the body is behind this code, and has this status by its number and its word
unfoldable pub has_status : ℕ → ℕ → List ℕ → ℕ → Data → Bool
has_status wanted number word code body =
    code == wanted && counts (codes "status_code") number body && says (codes "status") word body

-- `{"type": "sync", "status": "Success", "status_code": 200, "metadata": ..}` behind the code 200
unfoldable pub sync_of : ℕ → Data → Option Told
sync_of code body =
    if has_status 200 200 (codes "Success") code body then option_map done (get (codes "metadata") body) else None

-- `{"type": "async", "status": "Operation created", "status_code": 100, "operation": PATH, "metadata": ..}` behind 202
unfoldable pub async_of : ℕ → Data → Option Told
async_of code body =
    if has_status 202 100 (codes "Operation created") code body
    then option_and_then (λ path. option_map (begun path) (get (codes "metadata") body)) (operation_at body)
    else None

-- `{"type": "error", "error": TEXT, "error_code": CODE}`, and maybe metadata, behind the code that it names
unfoldable pub error_of : ℕ → Data → Option Told
error_of code body =
    if counts (codes "error_code") code body
    then option_map (λ text. refused text code (get (codes "metadata") body)) (text_at (codes "error") body)
    else None

-- the form that `type` names
unfoldable pub form_of : ℕ → Data → Option Told
form_of code body =
    if says (codes "type") (codes "sync") body then sync_of code body
    else if says (codes "type") (codes "async") body then async_of code body
    else if says (codes "type") (codes "error") body then error_of code body
    else None

-- what an object tells behind this code; no number of an answer has a fraction or an exponent, or needs more than 64 bits
unfoldable pub answer_of : ℕ → Data → Option Told
answer_of code body = if has_float body then None else form_of code body

-- what the body of a reply tells
unfoldable pub answer_in : ℕ → List ℕ → Option Told
answer_in code body = option_and_then (answer_of code) (object_in body)
