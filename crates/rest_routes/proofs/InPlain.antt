-- What a request asks for in each dialect.
use Rattle.std.proofs.Common.{◌≡◌, Some, Option, None, refl, ap, ◌∙◌, option_map}
use Rattle.serde_json.specs.Data.{Data}
use Rattle.http_heads.specs.declared.request.Request.{Request}
use Rattle.records.specs.declared.refusals.Rule.TheVariants as rule
use Rattle.rest_json.specs.declared.terms.Dialect.TheVariants as dialect
use Rattle.rest_json.specs.declared.terms.Terms.{Terms}
use Rattle.rest_routes.specs.Answers.{followed}
use Rattle.rest_routes.specs.Commands.{asked_at, command_at, command_of, plain_command, told, unlisted}
use Rattle.rest_routes.specs.Leniencies.{Asked, as_plain}
use Rattle.rest_routes.specs.Paths.{path_of}
use Rattle.rest_routes.specs.Routed.{ClientAsksInPlain, IsAsked, PlainAsksAsItIs}
use Rattle.rest_routes.specs.WithBody.{needed}
use Rattle.rest_routes.specs.declared.endpoints.Line.{Line}
use Rattle.rest_routes.specs.declared.endpoints.Verb.{Verb}
use Rattle.std.specs.Prelude.{ok_or}

-- in each dialect a request that a path offers is read in plain
pub asks : (request : Request) (line : Line) (verb : Verb) (terms : Terms) → IsAsked request line verb
    → command_of request terms ≡ told (plain_command (as_plain terms.dialect (asked_at line verb request)) terms.boot)
unfolding command_of command_at
asks request line verb terms is =
    ap (λ found. followed (ok_or found (unlisted terms.dialect (path_of request.target) request.method)) (λ line. told (command_at line request terms))) is.0
    ∙ ap (λ offered. told (followed (needed rule.A2 offered) (λ verb. plain_command (as_plain terms.dialect (asked_at line verb request)) terms.boot))) is.1

same_body : (body : Option Data) → option_map (λ b. b) body ≡ body
same_body None = refl
same_body (Some body) = refl

as_it_is : (asked : Asked) → as_plain dialect.Plain asked ≡ asked
as_it_is asked = ap (λ body. record asked { body = body }) (same_body asked.body)

pub plain_asks : PlainAsksAsItIs
plain_asks request line verb terms is dialect =
    asks request line verb terms is
    ∙ ap (λ d. told (plain_command (as_plain d (asked_at line verb request)) terms.boot)) dialect
    ∙ ap (λ asked. told (plain_command asked terms.boot)) (as_it_is (asked_at line verb request))

pub client_asks : ClientAsksInPlain
client_asks request line verb terms is dialect =
    asks request line verb terms is
    ∙ ap (λ d. told (plain_command (as_plain d (asked_at line verb request)) terms.boot)) dialect
