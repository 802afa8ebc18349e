-- A run of the client, from its words to its status.
use Rattle.std.specs.Prelude.{◌≡◌, ℕ, ◌⊎◌, Bool, List, [], Option, Some, None, is_some, true}
use Rattle.std.specs.List.{concat}
use Rattle.std.specs.Io.KnownBytes.{Appends, Keeps}
use Rattle.size_values.specs.Causes.{Rose}
use Rattle.http_front.specs.Held.{IsOver}
use Rattle.client_replies.specs.Forms.{Told}
use Rattle.client_replies.specs.Replies.{HasBegun, IsMalformed}
use Rattle.client_words.specs.declared.words.ClientWords.{ClientWords}
use Rattle.client_steps.specs.Runs.{requests_of, lines_of, status_of}
use Rattle.client_run.specs.Talks.{Reads, SendsSome}
use Rattle.client_run.specs.declared.receive.Stop.{Stop}
use Rattle.client_run.specs.declared.receive.Stop.TheVariants as stop
use Rattle.client_run.specs.declared.talk.Ending.{Ending}
use Rattle.client_run.specs.declared.course.Course.{Course}
use Rattle.client_run.specs.declared.course.Course.TheVariants as course

-- the status of the program
abbrev pub status_in : Course → ℕ
status_in (course.Ended status) = status
status_in course.Unread = 2
status_in course.Malformed = 3
status_in course.LinkFailed = 4
status_in course.PrintFailed = 5
status_in course.NoMemory = 9

-- the course that a stop gives
abbrev pub course_of : Stop → Course
course_of stop.Malformed = course.Malformed
course_of stop.LinkFailed = course.LinkFailed
course_of stop.NoMemory = course.NoMemory

-- the end of a command was printed, or some of the first of its bytes where that failed
abbrev pub Prints : Ending → Option (List ℕ) → Option (List ℕ) → ℕ → ℕ → Course → Type 0
Prints ending shown shown' failed failed' (course.Ended status) =
    (status ≡ ending.status) × Appends shown shown' ending.text
Prints ending shown shown' failed failed' course.PrintFailed = SendsSome shown shown' ending.text × Rose failed failed'
Prints ending shown shown' failed failed' course.Unread = ⊥
Prints ending shown shown' failed failed' course.Malformed = ⊥
Prints ending shown shown' failed failed' course.LinkFailed = ⊥
Prints ending shown shown' failed failed' course.NoMemory = ⊥

-- ---- what the outside tells

-- what a link and a sink tell: the bytes that the link has left, and whether it has ended; the bytes that were sent and that
-- were printed; and how often reads, writes to the link and prints failed
pub record Outside : Type 0 where
  pub left : Option (List ℕ)
  pub ended : Bool
  pub sent : Option (List ℕ)
  pub shown : Option (List ℕ)
  pub reads_failed : ℕ
  pub writes_failed : ℕ
  pub prints_failed : ℕ

abbrev pub outside : Option (List ℕ) → Bool → Option (List ℕ) → Option (List ℕ) → ℕ → ℕ → ℕ → Outside
outside left ended sent shown reads_failed writes_failed prints_failed = record {
  left = left;
  ended = ended;
  sent = sent;
  shown = shown;
  reads_failed = reads_failed;
  writes_failed = writes_failed;
  prints_failed = prints_failed;
}

-- nothing was read, sent or printed
pub record Untouched (before after : Outside) : Type 0 where
  pub left : Keeps before.left after.left
  pub sent : Keeps before.sent after.sent
  pub shown : Keeps before.shown after.shown

-- ---- a run of words that were read

-- the requests to these replies were sent; where the link failed or memory was refused, some of the first of their bytes
abbrev pub SendsIn : ClientWords → List Told → Outside → Outside → Course → Type 0
SendsIn words replies before after course.Unread = ⊥
SendsIn words replies before after (course.Ended status) = Appends before.sent after.sent (concat (requests_of words replies))
SendsIn words replies before after course.Malformed = Appends before.sent after.sent (concat (requests_of words replies))
SendsIn words replies before after course.PrintFailed = Appends before.sent after.sent (concat (requests_of words replies))
SendsIn words replies before after course.LinkFailed = SendsSome before.sent after.sent (concat (requests_of words replies))
SendsIn words replies before after course.NoMemory = SendsSome before.sent after.sent (concat (requests_of words replies))

-- the lines that these replies give were printed; where a print failed or memory was refused, some of the first of their bytes
abbrev pub PrintsIn : ClientWords → List Told → Outside → Outside → Course → Type 0
PrintsIn words replies before after course.Unread = ⊥
PrintsIn words replies before after (course.Ended status) = Appends before.shown after.shown (lines_of words replies)
PrintsIn words replies before after course.Malformed = Appends before.shown after.shown (lines_of words replies)
PrintsIn words replies before after course.LinkFailed = Appends before.shown after.shown (lines_of words replies)
PrintsIn words replies before after course.PrintFailed = SendsSome before.shown after.shown (lines_of words replies)
PrintsIn words replies before after course.NoMemory = SendsSome before.shown after.shown (lines_of words replies)

-- The command ends by these replies with that status; or, after replies by which it does not end, what stands behind them is
-- malformed, or has begun and is not whole where the link has ended; or the link failed; or the command ends by them, and a
-- print failed; or memory was refused.
abbrev pub EndsIn : ClientWords → List Told → List ℕ → Outside → Outside → Course → Type 0
EndsIn words replies rest before after course.Unread = ⊥
EndsIn words replies rest before after (course.Ended status) = status_of words replies ≡ Some status
EndsIn words replies rest before after course.Malformed =
    (status_of words replies ≡ None) × (IsMalformed rest ⊎ (HasBegun rest × IsOver after.ended after.left))
EndsIn words replies rest before after course.LinkFailed = (status_of words replies ≡ None)
    × (Rose before.reads_failed after.reads_failed ⊎ Rose before.writes_failed after.writes_failed)
EndsIn words replies rest before after course.PrintFailed =
    (is_some (status_of words replies) ≡ true) × Rose before.prints_failed after.prints_failed
EndsIn words replies rest before after course.NoMemory = Unit {0}

-- The bytes that the link gave begin with these replies, and the rest stands behind them.
pub record Ran (words : ClientWords) (before after : Outside) (taken : Course) : Type 0 where
  pub replies : List Told
  pub rest : List ℕ
  pub reads : Reads [] rest before.left after.left replies
  pub sends : SendsIn words replies before after taken
  pub prints : PrintsIn words replies before after taken
  pub ends : EndsIn words replies rest before after taken

-- ---- a run of any words

-- The words were read and the command ran so; or they say nothing, or memory was refused, and nothing was done.
abbrev pub Goes : Option ClientWords → Outside → Outside → Course → Type 0
Goes None before after course.Unread = Untouched before after
Goes None before after course.NoMemory = Untouched before after
Goes None before after (course.Ended status) = ⊥
Goes None before after course.Malformed = ⊥
Goes None before after course.LinkFailed = ⊥
Goes None before after course.PrintFailed = ⊥
Goes (Some words) before after taken = Ran words before after taken

-- a run with this status
pub record Runs (words : Option ClientWords) (before after : Outside) (status : ℕ) : Type 0 where
  pub taken : Course
  pub status_is : status ≡ status_in taken
  pub goes : Goes words before after taken
