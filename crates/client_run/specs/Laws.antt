-- Laws of runs.
use Rattle.std.specs.Prelude.{◌≡◌, ℕ, ◌≤◌, ◌⊎◌, true, List, length, Option, Some, None}
use Rattle.std.specs.List.{list_all}
use Rattle.size_values.specs.Causes.{Rose}
use Rattle.httparse.specs.Grammar.{is_value_byte}
use Rattle.http_front.specs.declared.reply.Printed.{Printed}
use Rattle.http_front.specs.Replies.{is_reply_code, reply_text}
use Rattle.client_replies.specs.Forms.{Told, answer_in}
use Rattle.client_replies.specs.Limits.{max_body}
use Rattle.client_replies.specs.Replies.{Begins, IsReply}
use Rattle.client_words.specs.declared.words.ClientWords.{ClientWords}
use Rattle.client_steps.specs.Runs.{status_of}
use Rattle.client_run.specs.Sessions.{Outside, Runs}

-- no read, no write to the link and no print failed
pub record IsFaultless (before after : Outside) : Type 0 where
  pub reads : ¬ (Rose before.reads_failed after.reads_failed)
  pub writes : ¬ (Rose before.writes_failed after.writes_failed)
  pub prints : ¬ (Rose before.prints_failed after.prints_failed)

-- Where the words are read, the bytes that the link has left begin with replies by which the command ends well, and nothing
-- fails, the status is 0, or memory was refused.
abbrev pub EndsWell : Type 0
EndsWell = (words : ClientWords) (before after : Outside) (status : ℕ) (bytes rest : List ℕ) (replies : List Told)
    → Runs (Some words) before after status → before.left ≡ Some bytes → Begins bytes replies rest
    → status_of words replies ≡ Some 0 → IsFaultless before after → (status ≡ 0) ⊎ (status ≡ 9)

-- a status with which a command ends by its replies
abbrev pub IsEnd : ℕ → Type 0
IsEnd status = (status ≡ 0) ⊎ ((status ≡ 1) ⊎ (status ≡ 3))

-- a command ends with one of these statuses
abbrev pub EndsSo : Type 0
EndsSo = (words : ClientWords) (replies : List Told) (status : ℕ) → status_of words replies ≡ Some status → IsEnd status

-- what each of the other statuses says: the words were not read; a read or a write of the link failed; a print failed
pub record Tells (words : Option ClientWords) (before after : Outside) (status : ℕ) : Type 0 where
  pub unread : status ≡ 2 → words ≡ None
  pub link : status ≡ 4
      → Rose before.reads_failed after.reads_failed ⊎ Rose before.writes_failed after.writes_failed
  pub print : status ≡ 5 → Rose before.prints_failed after.prints_failed

abbrev pub StatusesTell : Type 0
StatusesTell = (words : Option ClientWords) (before after : Outside) (status : ℕ) → Runs words before after status
    → Tells words before after status

-- ---- what a server prints

-- A reply that a server prints, with a path of up to 8,192 bytes and an entity tag of up to 128 that may stand in a header:
-- the code is one of those that it has, and the body is not too long.
pub record IsPrinted (printed : Printed) : Type 0 where
  pub code : is_reply_code printed.code ≡ true
  pub short : length printed.location ≤ 8192
  pub visible : list_all is_value_byte printed.location ≡ true
  pub short_tag : length printed.tag ≤ 128
  pub visible_tag : list_all is_value_byte printed.tag ≡ true
  pub body : length printed.body ≤ max_body

-- Where its body tells something behind its code, the bytes of such a reply are a whole reply that tells so.
abbrev pub PrintsAreRead : Type 0
PrintsAreRead = (printed : Printed) (tells : Told) → IsPrinted printed → answer_in printed.code printed.body ≡ Some tells
    → IsReply (reply_text printed) tells (length (reply_text printed))
