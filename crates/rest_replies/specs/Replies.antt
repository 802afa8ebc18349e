-- Replies: the code, the Location, the entity tag and the body of each.
use Rattle.std.specs.Prelude.{◌≡◌, ℕ, List, [], ◌∷◌, Bool, true, false, not, ◌&&◌, map, codes}
use Rattle.operations.specs.declared.status.Status.{Status}
use Rattle.http_front.specs.declared.reply.Printed.{Printed}
use Rattle.http_front.specs.Replies.{no_memory_body}
use Rattle.records.specs.declared.refusals.Rule.TheVariants as rule
use Rattle.records.specs.declared.refusals.Refusal.{Refusal}
use Rattle.records.specs.declared.replies.OpView.{OpView}
use Rattle.records.specs.declared.replies.Reply.{Reply}
use Rattle.records.specs.declared.replies.Reply.TheVariants as reply
use Rattle.records.specs.declared.replies.View.{View}
use Rattle.records.specs.declared.replies.View.TheVariants as view
use Rattle.serde_json.specs.Data.{Data, string, object, Members, no_members, put}
use Rattle.serde_json.specs.Written.{compact_text}
use Rattle.row_machine.specs.machine.Refusals.{no_details}
use Rattle.rest_json.specs.Words.{status_key}
use Rattle.rest_json.specs.Ids.{operation_url}
use Rattle.rest_json.specs.Objects.{object_of, list_of, whole}
use Rattle.rest_json.specs.Settings.{texts_data}
use Rattle.rest_json.specs.Operations.{operation_data}
use Rattle.rest_json.specs.Views.{view_data}
use Rattle.rest_json.specs.declared.terms.Dialect.{Dialect}
use Rattle.rest_json.specs.declared.terms.Dialect.TheVariants as dialect
use Rattle.rest_json.specs.declared.terms.Terms.{Terms}
use Rattle.rest_replies.specs.Refusals.{rule_code, refusal_data}
use Rattle.rest_replies.specs.Tags.{reply_tag}

-- the reply to a command that was carried out at once, with what it tells
unfoldable pub success_data : Data → Data
success_data told = object_of (
    (codes "metadata", told)
    ∷ (codes "status", string (codes "Success"))
    ∷ (codes "status_code", whole 200)
    ∷ (codes "type", string (codes "sync"))
    ∷ [])

-- the reply to a command that began an operation
unfoldable pub started_data : ℕ → OpView → Data
started_data boot operation = object_of (
    (codes "metadata", operation_data boot operation)
    ∷ (codes "operation", string (operation_url boot operation.number))
    ∷ (codes "status", string (codes "Operation created"))
    ∷ (codes "status_code", whole 100)
    ∷ (codes "type", string (codes "async"))
    ∷ [])

-- operations by their URLs
unfoldable pub urls_data : ℕ → List ℕ → Data
urls_data boot numbers = list_of (map (λ number. string (operation_url boot number)) numbers)

-- the URLs of operations put by status into an object
abbrev pub put_urls : ℕ → List (Status × List ℕ) → Members → Members
put_urls boot [] members = members
put_urls boot (group ∷ groups) members =
    put_urls boot groups (put (status_key group.0) (urls_data boot group.1) members)

-- the URLs of operations by status
unfoldable pub by_status : ℕ → List (Status × List ℕ) → Data
by_status boot groups = object (put_urls boot groups no_members)

-- operations as objects
unfoldable pub operations_data : ℕ → List OpView → Data
operations_data boot operations = list_of (map (operation_data boot) operations)

-- operations put by status into an object
abbrev pub put_operations : ℕ → List (Status × List OpView) → Members → Members
put_operations boot [] members = members
put_operations boot (group
    ∷ groups) members = put_operations boot groups (put (status_key group.0) (operations_data boot group.1) members)

-- operations by status
unfoldable pub whole_by_status : ℕ → List (Status × List OpView) → Data
whole_by_status boot groups = object (put_operations boot groups no_members)

-- the refusal where there is no memory
abbrev pub no_memory_refusal : Refusal
no_memory_refusal = record { rule = rule.M1; details = no_details }

-- What is told where a command tells nothing. The command `incus` takes the rename of a project for one that goes on,
-- and asks what is told for its status.
abbrev pub nothing_data : Dialect → Data
nothing_data dialect.Plain = object no_members
nothing_data dialect.Client = object_of ((codes "status_code", whole 200) ∷ [])

-- the body of a reply
abbrev pub reply_data : Terms → Reply → Data
reply_data terms reply.Empty = success_data (nothing_data terms.dialect)
reply_data terms (reply.Links urls) = success_data (texts_data urls)
reply_data terms (reply.One shown) = success_data (view_data terms shown)
reply_data terms (reply.Many views) = success_data (list_of (map (view_data terms) views))
reply_data terms (reply.OpLinks groups) = success_data (by_status terms.boot groups)
reply_data terms (reply.OpMany groups) = success_data (whole_by_status terms.boot groups)
reply_data terms (reply.Started operation) = started_data terms.boot operation
reply_data terms (reply.Refused refusal) = refusal_data terms.dialect refusal
reply_data terms reply.NoMemory = refusal_data terms.dialect no_memory_refusal

-- the HTTP status code of a reply
abbrev pub reply_code : Reply → ℕ
reply_code (reply.Started operation) = 202
reply_code (reply.Refused refusal) = rule_code refusal.rule
reply_code reply.NoMemory = rule_code rule.M1
reply_code other = 200

-- the Location of a reply, which only the start of an operation has
abbrev pub reply_location : ℕ → Reply → List ℕ
reply_location boot (reply.Started operation) = operation_url boot operation.number
reply_location boot other = []

-- a reply as it is printed; the connection may end after it
unfoldable pub printed_of : Reply → Terms → Bool → Printed
printed_of reply terms last = record {
  code = reply_code reply;
  body = compact_text (reply_data terms reply);
  location = reply_location terms.boot reply;
  tag = reply_tag terms.dialect reply;
  last = last;
}

abbrev pub is_server : View → Bool
is_server view.Server = true
is_server other = false

-- whether a reply depends on nothing but the dialect: it tells nothing, or of the server alone
abbrev pub depends_on_nothing : Reply → Bool
depends_on_nothing reply.Empty = true
depends_on_nothing (reply.One shown) = is_server shown
depends_on_nothing other = false

-- such a reply stands ready where the connection stays open after it
abbrev pub stands_ready : Reply → Bool → Bool
stands_ready reply last = not last && depends_on_nothing reply

-- the body where there is no memory is the one that is sent without making it
abbrev pub NoMemoryIsKnown : Type 0
NoMemoryIsKnown = (terms : Terms) → compact_text (reply_data terms reply.NoMemory) ≡ no_memory_body
