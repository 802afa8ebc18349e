-- The bytes of a reply.
use Rattle.std.specs.Prelude.{ℕ, ◌==◌, Bool, ◌||◌, if◌then◌else◌, List, [], ◌++◌, length, unwrap_or, codes, decimal}
use Rattle.http.specs.StatusCode.{reason_phrase}
use Rattle.http_front.specs.declared.reply.Printed.{Printed}

-- a line of a head: it ends with CR LF
abbrev pub line : List ℕ → List ℕ
line text = text ++ codes "\r\n"

-- the codes of the replies
abbrev pub is_reply_code : ℕ → Bool
is_reply_code code =
    code == 200 || code == 202 || code == 400 || code == 403 || code == 404 || code == 405 || code == 409 || code == 412
    || code == 500 || code == 501 || code == 503

-- the phrase of a code
abbrev pub phrase_of : ℕ → List ℕ
phrase_of code = unwrap_or (reason_phrase code) []

-- the first line: HTTP/1.1, the code, and its phrase
abbrev pub status_line : ℕ → List ℕ
status_line code = line (codes "HTTP/1.1 " ++ decimal code ++ codes " " ++ phrase_of code)

-- the line that gives the length of the body
abbrev pub length_line : ℕ → List ℕ
length_line len = line (codes "Content-Length: " ++ decimal len)

-- the line of the Location, where there is one
abbrev pub location_line : List ℕ → List ℕ
location_line location = if length location == 0 then [] else line (codes "Location: " ++ location)

-- the line of the entity tag, where there is one
abbrev pub tag_line : List ℕ → List ℕ
tag_line tag = if length tag == 0 then [] else line (codes "ETag: " ++ tag)

-- the line that says that the connection ends after this reply
abbrev pub last_line : Bool → List ℕ
last_line last = if last then line (codes "Connection: close") else []

-- the head of a reply, up to and with the empty line
abbrev pub head_text : Printed → List ℕ
head_text printed =
    status_line printed.code
    ++ line (codes "Content-Type: application/json")
    ++ length_line (length printed.body)
    ++ location_line printed.location
    ++ tag_line printed.tag
    ++ last_line printed.last
    ++ line []

-- the head and the body
unfoldable pub reply_text : Printed → List ℕ
reply_text printed = head_text printed ++ printed.body

-- the body of the reply where there is no memory
abbrev pub no_memory_body : List ℕ
no_memory_body = codes "{\"error\":\"no memory\",\"error_code\":500,\"metadata\":{\"rule\":\"M1\"},\"type\":\"error\"}"
