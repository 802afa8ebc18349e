-- What follows on a reply.
use Rattle.std.specs.Prelude.{ℕ, ◌+◌, ◌<◌, List, [], ◌∷◌, Option, Some, None, codes, if◌then◌else◌}
use Rattle.std.specs.Str.{bytes_eq}
use Rattle.serde_json.specs.Data.{Data}
use Rattle.client_replies.specs.Forms.{Told, begun, done, refused}
use Rattle.client_words.specs.declared.words.ClientWords.{ClientWords}
use Rattle.client_steps.specs.Legs.{request_of}
use Rattle.client_steps.specs.Lines.{error_line, text_of}
use Rattle.client_steps.specs.Rows.{heading_of, rows_of, text_at}
use Rattle.client_steps.specs.declared.legs.Leg.{Leg}
use Rattle.client_steps.specs.declared.legs.Leg.TheVariants as leg
use Rattle.client_steps.specs.declared.cells.Cells.{Cells}
use Rattle.client_steps.specs.declared.steps.Next.{Next}
use Rattle.client_steps.specs.declared.steps.Next.TheVariants.{End, Send}

-- the reply has no form that the reply to its request may have: nothing is printed
abbrev pub malformed : Next
malformed = End [] 3

-- something went wrong: this is said of it, and these parts are kept
abbrev pub failed : List ℕ → Option Data → Next
failed text kept = End (error_line text kept) 1

-- all requests were answered well: the rows are printed
abbrev pub told_rows : ClientWords → Data → Option (List Cells) → Next
told_rows words body (Some rows) = End (text_of words.format (heading_of words.asks) rows body) 0
told_rows words body None = malformed

-- the next request, or the end of the command
abbrev pub onward : ClientWords → List Leg → List ℕ → Data → Next
onward words (leg ∷ more) operation body = Send (request_of words leg operation)
onward words [] operation body = told_rows words body (rows_of words.asks body)

-- an operation has ended so: the first text is its status, and the second says what went wrong
abbrev pub after_end : ClientWords → List Leg → Option (List ℕ) → Option (List ℕ) → Data → Next
after_end words more (Some status) (Some error) body =
    if bytes_eq status (codes "Success") then onward words more [] body else failed error None
after_end words more (Some status) None body = malformed
after_end words more None error body = malformed

-- the request was carried out
abbrev pub after_done : ClientWords → Leg → List Leg → Data → Next
after_done words leg.List more body = onward words more [] body
after_done words leg.Create more body = malformed
after_done words leg.Start more body = malformed
after_done words leg.Stop more body = malformed
after_done words leg.Delete more body = malformed
after_done words leg.Await more body =
    after_end words more (text_at (codes "status") body) (text_at (codes "err") body) body
after_done words leg.Wait more body = onward words more [] body
after_done words leg.Cancel more body = onward words more [] body
after_done words leg.Limits more body = onward words more [] body

-- an operation was begun, at this path
abbrev pub after_begun : ClientWords → Leg → List Leg → List ℕ → Data → Next
after_begun words leg.List more operation body = malformed
after_begun words leg.Create more operation body = onward words more operation body
after_begun words leg.Start more operation body = onward words more operation body
after_begun words leg.Stop more operation body = onward words more operation body
after_begun words leg.Delete more operation body = onward words more operation body
after_begun words leg.Await more operation body = malformed
after_begun words leg.Wait more operation body = malformed
after_begun words leg.Cancel more operation body = malformed
after_begun words leg.Limits more operation body = malformed

-- the reply to a leg, before the others that are left
abbrev pub after_reply : ClientWords → Leg → List Leg → Told → Next
after_reply words leg more (done body) = after_done words leg more body
after_reply words leg more (begun operation body) = after_begun words leg more operation body
after_reply words leg more (refused text code body) = failed text body

-- the same, of the legs that are left
abbrev pub next_of : ClientWords → List Leg → Told → Next
next_of words [] told = malformed
next_of words (leg ∷ more) told = after_reply words leg more told

-- where another request follows on that of this number, there is one more of all the legs
abbrev pub StaysWithin : ℕ → ℕ → Next → Type 0
StaysWithin count answered (Send request) = answered + 1 < count
StaysWithin count answered (End text status) = Unit {0}
