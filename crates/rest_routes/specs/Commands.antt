-- Which command a request asks for, or by which rule of its form it is refused.
use Rattle.std.specs.Prelude.{ℕ, List, [], Option, Some, None, Result, Ok, Err, ok_or, option_map, if◌then◌else◌, codes}
use Rattle.std.specs.Str.{bytes_eq}
use Rattle.form_urlencoded.specs.Form.{raw_pairs}
use Rattle.serde_json.specs.Data.{Data}
use Rattle.http_heads.specs.declared.request.Request.{Request}
use Rattle.records.specs.declared.commands.Command.{Command}
use Rattle.records.specs.declared.commands.What.{What}
use Rattle.records.specs.declared.refusals.Refusal.{Refusal}
use Rattle.records.specs.declared.refusals.Rule.TheVariants as rule
use Rattle.records.specs.declared.replies.Reply.{Reply}
use Rattle.records.specs.declared.replies.Reply.TheVariants as reply
use Rattle.rest_bodies.specs.Members.{object_in}
use Rattle.rest_json.specs.declared.terms.Dialect.{Dialect}
use Rattle.rest_json.specs.declared.terms.Dialect.TheVariants as dialect
use Rattle.rest_json.specs.declared.terms.Terms.{Terms}
use Rattle.rest_routes.specs.Answers.{mapped, followed}
use Rattle.rest_routes.specs.Paths.{path_of, query_of}
use Rattle.rest_routes.specs.Endpoints.{empty_line_of, line_of, verb_offered, has_body}
use Rattle.rest_routes.specs.Filters.{takes_filter}
use Rattle.rest_routes.specs.Leniencies.{Asked, as_plain}
use Rattle.rest_routes.specs.Queries.{project_of, query_of as query_said}
use Rattle.rest_routes.specs.Refusals.{plain_refusal}
use Rattle.rest_routes.specs.declared.endpoints.Endpoint.{Endpoint}
use Rattle.rest_routes.specs.declared.endpoints.Line.{Line}
use Rattle.rest_routes.specs.declared.endpoints.Verb.{Verb}
use Rattle.rest_routes.specs.declared.query.Query.{Query}
use Rattle.rest_routes.specs.WithBody.{needed, what_with_body}
use Rattle.rest_routes.specs.WithoutBody.{what_without_body}

-- what a request asks for at its endpoint
abbrev pub what_at : Endpoint → Verb → List ℕ → Query → ℕ → Option Data → Result What Refusal
what_at endpoint verb path query boot body =
    if has_body verb then what_with_body endpoint verb path body else what_without_body endpoint verb path query boot

-- The command of a request in plain form, by its query (A3) and then by what it asks for. The daemon's boot word is that
-- of the ids of operations.
unfoldable pub plain_command : Asked → ℕ → Result Command Refusal
plain_command asked boot =
    followed (query_said (takes_filter asked.endpoint asked.verb) asked.pairs) (λ query.
    mapped (λ what. record { project = project_of query; what = what; expects = asked.expects })
    (what_at asked.endpoint asked.verb asked.path query boot asked.body))

-- a refusal as the reply of a request that is refused
abbrev pub told : {T : Type 0} → Result T Refusal → Result T Reply
told (Ok value) = Ok value
told (Err refusal) = Err (reply.Refused refusal)

-- the entity tag that the object of a request has to have, by its If-Match: `*` and an absent header expect nothing (RFC
-- 9110, section 13.1.1)
abbrev pub expected_in : Option (List ℕ) → Option (List ℕ)
expected_in None = None
expected_in (Some value) = if bytes_eq value (codes "*") then None else Some value

-- what a request asks by its form, with a method that is offered at the line of its path
abbrev pub asked_at : Line → Verb → Request → Asked
asked_at line verb request = record {
  endpoint = line.endpoint;
  verb = verb;
  path = path_of request.target;
  pairs = raw_pairs (query_of request.target);
  body = object_in request.body;
  expects = expected_in request.if_match;
}

-- what is shown of a list that is always empty here, by the methods that it offers, if a path is that of one
abbrev pub shown_empty : Option (Option Verb) → Reply
shown_empty None = reply.Refused (plain_refusal rule.A1)
shown_empty (Some None) = reply.Refused (plain_refusal rule.A2)
shown_empty (Some (Some verb)) = reply.Links []

-- the reply at a path that is not listed: the client's dialect shows lists that are always empty
abbrev pub unlisted : Dialect → List ℕ → List ℕ → Reply
unlisted dialect.Plain path method = reply.Refused (plain_refusal rule.A1)
unlisted dialect.Client path method = shown_empty (option_map (λ line. verb_offered line method) (empty_line_of path))

-- the command at the line of a path: the method is offered there (A2), and the rest is read as the plain dialect has it
unfoldable pub command_at : Line → Request → Terms → Result Command Refusal
command_at line request terms =
    followed (needed rule.A2 (verb_offered line request.method)) (λ verb.
    plain_command (as_plain terms.dialect (asked_at line verb request)) terms.boot)

-- What a request asks for: a command, or a reply that needs none, as where its path is not listed (A1).
unfoldable pub command_of : Request → Terms → Result Command Reply
command_of request terms =
    followed (ok_or (line_of (path_of request.target)) (unlisted terms.dialect (path_of request.target) request.method))
    (λ line. told (command_at line request terms))
