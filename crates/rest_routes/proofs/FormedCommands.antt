-- The command of each request is formed.
use Rattle.std.specs.Prelude.{ok_or}
use Rattle.std.proofs.Common.{◌≡◌, ℕ, true, List, Option, Result, Ok, Err, IfOk, IsTrue}
use Rattle.http_heads.specs.declared.request.Request.{Request}
use Rattle.records.specs.Forms.{is_timeout, is_formed}
use Rattle.records.specs.declared.commands.Command.{Command}
use Rattle.records.specs.declared.commands.What.{What}
use Rattle.records.specs.declared.refusals.Refusal.{Refusal}
use Rattle.records.specs.declared.refusals.Rule.TheVariants as rule
use Rattle.records.specs.declared.replies.Reply.{Reply}
use Rattle.rest_json.specs.declared.terms.Terms.{Terms}
use Rattle.rest_routes.proofs.Timeouts.{timeout_formed}
use Rattle.rest_routes.specs.Answers.{Reads, mapped, followed}
use Rattle.rest_routes.specs.Paths.{path_of}
use Rattle.rest_routes.specs.Endpoints.{line_of, verb_offered}
use Rattle.rest_routes.specs.Filters.{takes_filter}
use Rattle.rest_routes.specs.Leniencies.{Asked, as_plain}
use Rattle.rest_routes.specs.Queries.{query_of, project_of, wait_timeout}
use Rattle.rest_routes.specs.declared.endpoints.Line.{Line}
use Rattle.rest_routes.specs.Commands.{asked_at, command_at, command_of, plain_command, told}
use Rattle.rest_routes.specs.Routed.{RoutedIsFormed}
use Rattle.rest_routes.specs.WithBody.{needed}
use Rattle.rest_routes.proofs.FormedRequests.{AnswerIsFormed, asked_formed}

-- the command of an answer is formed, if it is one
abbrev CommandIsFormed : Result Command Refusal → Type 0
CommandIsFormed answer = IfOk answer (λ command. IsTrue (is_formed command))

in_project : (project : List ℕ) (expects : Option (List ℕ)) (answer : Result What Refusal) → AnswerIsFormed answer
    → CommandIsFormed (mapped (λ asked. record { project = project; what = asked; expects = expects }) answer)
in_project project expects (Ok asked) h = h
in_project project expects (Err refusal) h = tt

-- what comes after an answer is formed, where that of each good value is
after_good : {A : Type 0} (P : A → Type 0) (r : Result A Refusal) (f : A → Result Command Refusal) → IfOk r P
    → ((x : A) → P x → CommandIsFormed (f x)) → CommandIsFormed (followed r f)
after_good P (Ok x) f h fine = fine x h
after_good P (Err refusal) f h fine = tt

-- and where that of each value is
after_any : {A : Type 0} (r : Result A Refusal) (f : A → Result Command Refusal) → ((x : A) → CommandIsFormed (f x)) → CommandIsFormed (followed r f)
after_any (Ok x) f fine = fine x
after_any (Err refusal) f fine = tt

plain_formed : (asked : Asked) (boot : ℕ) → CommandIsFormed (plain_command asked boot)
unfolding plain_command
plain_formed asked boot =
    after_good (λ query. is_timeout (wait_timeout query) ≡ true) (query_of (takes_filter asked.endpoint asked.verb) asked.pairs) _
    (timeout_formed (takes_filter asked.endpoint asked.verb) asked.pairs) (λ query time.
    in_project (project_of query) asked.expects _ (asked_formed asked.endpoint asked.verb asked.path query boot asked.body time))

at_line : (line : Line) (request : Request) (terms : Terms) → CommandIsFormed (command_at line request terms)
unfolding command_at
at_line line request terms =
    after_any (needed rule.A2 (verb_offered line request.method)) _ (λ verb. plain_formed (as_plain terms.dialect (asked_at line verb request)) terms.boot)

-- what is told is formed, where the command is
told_formed : (answer : Result Command Refusal) → CommandIsFormed answer → IfOk (told answer) (λ command. IsTrue (is_formed command))
told_formed (Ok command) h = h
told_formed (Err refusal) h = tt

pub routed_formed : RoutedIsFormed
unfolding command_of
routed_formed request terms = by (ok_or (line_of (path_of request.target)) _)
  where
    by : (found : Result Line Reply) → IfOk (followed found (λ line. told (command_at line request terms))) (λ command. IsTrue (is_formed command))
    by (Ok line) = told_formed (command_at line request terms) (at_line line request terms)
    by (Err said) = tt

-- a command that a function returns is formed
pub formed_due : (result : Result Command Reply) (request : Request) (terms : Terms) → Reads result (command_of request terms) → IfOk result (λ c. IsTrue (is_formed c))
formed_due (Ok command) request terms h = due (command_of request terms) h (routed_formed request terms)
  where
    due : (answer : Result Command Reply) → answer ≡ Ok command → IfOk answer (λ c. IsTrue (is_formed c)) → IsTrue (is_formed command)
    due answer is h = rw is at h
formed_due (Err said) request terms h = tt
