-- What is told of the replies to a stream of requests.
use Rattle.std.specs.Prelude.{ℕ, List, [], ◌∷◌, ◌++◌, fold, codes}
use Rattle.workload.specs.Summary.{summary}
use Rattle.tests_values.specs.Tables.{Gives}

abbrev pub ok : List ℕ
ok = codes "HTTP/1.1 200 OK\r\nContent-Type: application/json\r\nContent-Length: 2\r\n\r\n{}"

abbrev pub started : List ℕ
started = codes "HTTP/1.1 202 Accepted\r\nContent-Type: application/json\r\nContent-Length: 3\r\n"
    ++ codes "Location: /1.0/operations/1\r\nConnection: close\r\n\r\nabc"

abbrev pub missing : List ℕ
missing = codes "HTTP/1.1 404 Not Found\r\nContent-Length: 0\r\n\r\n"

abbrev pub joined : List (List ℕ) → List ℕ
joined pieces = fold (λ before piece. before ++ piece) [] pieces

-- the pieces of a text, and its summary
abbrev pub summaries : List (List (List ℕ) × List ℕ)
summaries =
    ([], codes "requests 0\n")
    ∷ (ok ∷ [], codes "requests 1\nreplies 200 1\n")
    ∷ (missing ∷ ok ∷ started ∷ ok ∷ [], codes "requests 4\nreplies 200 2\nreplies 202 1\nreplies 404 1\n")
    ∷ (ok ∷ codes "HTTP/1.1 200 OK\r\nContent-Length: 3\r\n\r\n{}" ∷ [], codes "requests 1\nreplies 200 1\n")
    ∷ (ok ∷ codes "x" ∷ ok ∷ [], codes "requests 1\nreplies 200 1\n")
    ∷ (codes "HTTP/1.1 200 OK\r\nContent-Length: 2\r\n" ∷ [], codes "requests 0\n")
    ∷ (codes "HTTP/1.1 200 OK\r\nServer: x\r\n\r\n" ∷ ok ∷ [], codes "requests 0\n")
    ∷ (codes "HTTP/1.1 099 X\r\nContent-Length: 0\r\n\r\n" ∷ [], codes "requests 0\n")
    ∷ (codes "HTTP/1.1 999 X\r\nContent-Length: 0\r\n\r\n" ∷ [], codes "requests 1\nreplies 999 1\n")
    ∷ (codes "HTTP/1.1 1000 X\r\nContent-Length: 0\r\n\r\n" ∷ [], codes "requests 0\n")
    ∷ (codes "HTTP/1.0 200 OK\r\nContent-Length: 0\r\n\r\n" ∷ [], codes "requests 0\n")
    ∷ (codes "HTTP/1.1 200 OK\r\nContent-Length: 00000000000000000002\r\n\r\n{}" ∷ [], codes "requests 0\n")
    ∷ []

-- every case
abbrev pub SummariesHold : Type 0
SummariesHold = Gives (λ pieces. summary (joined pieces)) summaries
