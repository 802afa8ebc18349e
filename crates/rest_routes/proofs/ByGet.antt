-- What GET /1.0 asks for.
use Rattle.std.proofs.Common.{◌≡◌, ℕ, Bool, true, false, ◌&&◌, List, [], Option, Some, None, Result, Ok, refl, ap, ap₂, ◌∙◌, codes}
use Rattle.std.specs.Prelude.{is_none, ok_or}
use Rattle.std.specs.Str.{bytes_eq}
use Rattle.std.proofs.lemmas.Slice.Eq.{bytes_eq-Decides}
use Rattle.http_heads.specs.declared.request.Request.{Request}
use Rattle.records.specs.declared.commands.Command.{Command}
use Rattle.records.specs.declared.refusals.Rule.TheVariants as rule
use Rattle.records.specs.declared.replies.Reply.{Reply}
use Rattle.rest_bodies.specs.Members.{object_in}
use Rattle.form_urlencoded.specs.Form.{split, raw_pairs}
use Rattle.rest_json.specs.declared.terms.Dialect.{Dialect}
use Rattle.rest_json.specs.declared.terms.Dialect.TheVariants as dialect
use Rattle.rest_json.specs.declared.terms.Terms.{Terms}
use Rattle.rest_routes.specs.Answers.{followed}
use Rattle.rest_routes.specs.Paths.{path_of, query_of, absolute_path, before_colon, is_http}
use Rattle.rest_routes.specs.Endpoints.{line_of, server_line, verb_of, verb_offered}
use Rattle.rest_routes.specs.Leniencies.{as_plain}
use Rattle.rest_routes.specs.declared.endpoints.Endpoint.TheVariants as endpoint
use Rattle.rest_routes.proofs.Server.{server-stands}
use Rattle.rest_routes.specs.Commands.{command_at, command_of, expected_in, plain_command, told, unlisted}
use Rattle.rest_routes.specs.Known.{is_server_asked, server_asked}
use Rattle.rest_routes.specs.WithBody.{needed}

-- what a method, a target, a body and an If-Match ask for
abbrev asked-by : List ℕ → List ℕ → List ℕ → Option (List ℕ) → Dialect → ℕ → Result Command Reply
asked-by method target body if_match dialect boot =
    followed (ok_or (line_of (path_of target)) (unlisted dialect (path_of target) method)) (λ line. told (
    followed (needed rule.A2 (verb_offered line method)) (λ verb.
    plain_command (as_plain dialect (record {
      endpoint = line.endpoint;
      verb = verb;
      path = path_of target;
      pairs = raw_pairs (query_of target);
      body = object_in body;
      expects = expected_in if_match;
    })) boot)))

-- at the line of the server
asked-there : (body : List ℕ) (dialect : Dialect) (boot : ℕ)
    → told (followed (needed rule.A2 (verb_offered server_line (codes "GET"))) (λ verb.
    plain_command (as_plain dialect (record {
      endpoint = endpoint.Server;
      verb = verb;
      path = codes "/1.0";
      pairs = raw_pairs [];
      body = object_in body;
      expects = None;
    })) boot)) ≡ Ok server_asked
unfolding verb_offered verb_of plain_command split raw_pairs
asked-there body dialect.Plain boot = refl
asked-there body dialect.Client boot = refl

by-get : (body : List ℕ) (dialect : Dialect) (boot : ℕ) → asked-by (codes "GET") (codes "/1.0") body None dialect boot ≡ Ok server_asked
unfolding path_of query_of absolute_path before_colon is_http
by-get body dialect boot =
    ap (λ found. followed (ok_or found (unlisted dialect (codes "/1.0") (codes "GET"))) (λ line. told (
    followed (needed rule.A2 (verb_offered line (codes "GET"))) (λ verb.
    plain_command (as_plain dialect (record {
      endpoint = line.endpoint;
      verb = verb;
      path = codes "/1.0";
      pairs = raw_pairs [];
      body = object_in body;
      expects = None;
    })) boot)))) server-stands
    ∙ asked-there body dialect boot

both : (a b : Bool) → (a && b) ≡ true → (a ≡ true) × (b ≡ true)
both true true e = (refl, refl)
both true false e = cc
both false b e = cc

-- there is none
absent : (o : Option (List ℕ)) → is_none o ≡ true → o ≡ None
absent None e = refl
absent (Some value) e = cc

pub known : (request : Request) (terms : Terms) → is_server_asked request ≡ true → command_of request terms ≡ Ok server_asked
unfolding command_of command_at
known request terms is =
    let parts = both (bytes_eq request.method (codes "GET") && bytes_eq request.target (codes "/1.0")) (is_none request.if_match) is in
    let line = both (bytes_eq request.method (codes "GET")) (bytes_eq request.target (codes "/1.0")) parts.0 in
    ap₂ (λ method target. asked-by method target request.body request.if_match terms.dialect terms.boot)
    ((bytes_eq-Decides request.method (codes "GET")).0 line.0) ((bytes_eq-Decides request.target (codes "/1.0")).0 line.1)
    ∙ ap (λ if_match. asked-by (codes "GET") (codes "/1.0") request.body if_match terms.dialect terms.boot) (absent request.if_match parts.1)
    ∙ by-get request.body terms.dialect terms.boot
