-- The bytes of replies, and what is written for them.
use Rattle.std.specs.Prelude.{◌≡◌, ◌≢◌, ℕ, List, [], Bool, true, false, if◌then◌else◌, codes}
use Rattle.std.specs.Str.{bytes_eq}
use Rattle.http_heads.specs.declared.request.Request.{Request}
use Rattle.http_heads.specs.declared.request.HeadFault.{HeadFault}
use Rattle.http_heads.specs.declared.request.HeadFault.TheVariants as fault
use Rattle.http_front.specs.declared.reply.Printed.{Printed}
use Rattle.http_front.specs.Replies.{head_text, reply_text, no_memory_body}
use Rattle.records.specs.declared.refusals.Rule.{Rule}
use Rattle.records.specs.declared.refusals.Rule.TheVariants as rule
use Rattle.records.specs.declared.replies.Reply.{Reply}
use Rattle.records.specs.declared.replies.Reply.TheVariants as reply
use Rattle.row_machine.specs.machine.Refusals.{plain_refusal}
use Rattle.rest_json.specs.declared.terms.Dialect.TheVariants as dialect
use Rattle.rest_json.specs.declared.terms.Terms.{Terms}
use Rattle.rest_replies.specs.Replies.{printed_of}
use Rattle.rest_answers.specs.Told.{told_to}
use Rattle.rest_answers.specs.declared.answers.PrintedReply.{PrintedReply}
use Rattle.rest_answers.specs.declared.answers.PrintedReply.TheVariants as written

-- the method of a request is HEAD
abbrev pub asks_head : Request → Bool
asks_head request = bytes_eq request.method (codes "HEAD")

-- What is written of a reply to a request: its head and its body; and for HEAD its head alone, which is the one that
-- GET would get, with the length of the body (RFC 9110, section 9.3.2).
abbrev pub text_to : Request → Printed → List ℕ
text_to request printed = if asks_head request then head_text printed else reply_text printed

-- the bytes of the reply to a request, which says where the connection ends after it
unfoldable pub printed : Reply → Terms → Request → List ℕ
printed reply terms request = text_to request (printed_of (told_to request terms reply) terms request.last)

-- all bytes of a reply, with its body
unfoldable pub whole_text : Reply → Terms → Bool → List ℕ
whole_text reply terms last = reply_text (printed_of reply terms last)

-- the rule that a malformed place breaks
abbrev pub rule_of : HeadFault → Rule
rule_of fault.H1 = rule.H1
rule_of fault.H2 = rule.H2
rule_of fault.H3 = rule.H3
rule_of fault.H4 = rule.H4
rule_of fault.H5 = rule.H5

-- no boot word, in the plain dialect
abbrev pub no_terms : Terms
no_terms = record { boot = 0; dialect = dialect.Plain; refuses_origin = false }

-- The bytes that answer a malformed place, after which the connection ends. Such a refusal tells no id and no part, so
-- the terms do not matter.
abbrev pub malformed_text : HeadFault → List ℕ
malformed_text fault = whole_text (reply.Refused (plain_refusal (rule_of fault))) no_terms true

-- the reply that takes no memory
abbrev pub no_memory_printed : Bool → Printed
no_memory_printed last = record { code = 500; body = no_memory_body; location = []; tag = []; last = last }

-- the bytes that are written of it
abbrev pub no_memory_text : Request → List ℕ
no_memory_text request = text_to request (no_memory_printed request.last)

-- What is to be written is the text of the reply, unless memory for it was refused. The reply that tells of memory
-- refused takes none, and is always written.
abbrev pub HasText : PrintedReply → Reply → Terms → Request → Type 0
HasText (written.Printed bytes) a_reply terms request = bytes ≡ printed a_reply terms request
HasText written.NoMemory a_reply terms request = no_memory_text request ≡ printed a_reply terms request
HasText written.Unprinted a_reply terms request = a_reply ≢ reply.NoMemory

-- the bytes that are written for an answer
abbrev pub text_for : PrintedReply → Request → List ℕ
text_for (written.Printed bytes) request = bytes
text_for written.NoMemory request = no_memory_text request
text_for written.Unprinted request = []

-- memory for the reply was refused
abbrev pub IsUnprinted : PrintedReply → Type 0
IsUnprinted (written.Printed bytes) = ⊥
IsUnprinted written.NoMemory = ⊥
IsUnprinted written.Unprinted = Unit {0}
