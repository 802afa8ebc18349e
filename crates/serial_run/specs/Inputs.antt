-- What a session comes to, told of its whole input: the requests that are answered, and how it ends.
use Rattle.std.specs.Prelude.{◌==◌, ℕ, List, [], length, map, take, if◌then◌else◌}
use Rattle.http_heads.specs.Messages.{Ending, ended, cut, malformed}
use Rattle.http_heads.specs.declared.request.Request.{Request}
use Rattle.rest_answers.specs.Lasts.{has_last, through_last}
use Rattle.rest_answers.specs.Texts.{malformed_text}
use Rattle.serial_run.specs.Exchanges.{Exchange}
use Rattle.serial_run.specs.declared.session.SessionEnd.{SessionEnd}
use Rattle.serial_run.specs.declared.session.SessionEnd.TheVariants as end
use Rattle.serial_run.specs.Most.{most_requests}

-- the exit status of a session's end
abbrev pub status_of : SessionEnd → ℕ
status_of end.Ended = 0
status_of end.Cut = 2
status_of (end.Malformed fault) = 3
status_of end.ReadFault = 4
status_of end.WriteFault = 5
status_of end.NoMemory = 9
status_of end.Spent = 10

-- the requests of these
abbrev pub requests_of : List Exchange → List Request
requests_of exchanges = map (λ exchange. exchange.request) exchanges

-- the requests of a text that are answered: these, and at most as many as a session may answer
abbrev pub answered : List Request → List Request
answered messages = take most_requests (through_last messages)

-- how a run ends: its exit status, and the text that is written after the replies
pub record End : Type 0 where
  pub status : ℕ
  pub text : List ℕ

-- the end of a run that has answered all messages of its input
abbrev pub end_at : Ending → End
end_at ended = record { status = 0; text = [] }
end_at (cut held) = record { status = 2; text = [] }
end_at (malformed fault) = record { status = 3; text = malformed_text fault }

-- The end of a run that has answered these requests of an input that ends so: the most requests that a session may
-- answer go before a last request, and that goes before the end of the input.
abbrev pub end_after : List Request → Ending → End
end_after requests ending =
    if length requests == most_requests then record { status = 10; text = [] }
    else if has_last requests then record { status = 0; text = [] }
    else end_at ending

-- the end of a run over an input with these messages and this ending, where nothing fails
abbrev pub end_due : List Request → Ending → End
end_due messages ending = end_after (answered messages) ending
