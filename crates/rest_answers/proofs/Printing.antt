-- Replies that take no memory, the head of a reply, and what is written for an answer.
use Rattle.std.proofs.Common.{◌≡◌, ◌≢◌, ◌≤◌, ◌+◌, ◌-◌, ◌++◌, ℕ, Bool, true, false, refl, if◌then◌else◌, List, [], length, take, ap, sym, ◌∙◌}
use Rattle.std.proofs.Common.{arith}
use Rattle.std.proofs.lemmas.List.{length-append}
use Rattle.std.proofs.Math.Seq.{take-append_seam}
use Rattle.http_heads.specs.declared.request.Request.{Request}
use Rattle.http_front.specs.declared.reply.Printed.{Printed}
use Rattle.http_front.specs.Replies.{head_text, reply_text}
use Rattle.records.specs.declared.replies.Reply.{Reply}
use Rattle.records.specs.declared.replies.Reply.TheVariants as reply
use Rattle.rest_json.specs.declared.terms.Terms.{Terms}
use Rattle.rest_replies.specs.Replies.{NoMemoryIsKnown, printed_of, stands_ready}
use Rattle.rest_answers.specs.Texts.{HasText, IsUnprinted, asks_head, no_memory_printed, no_memory_text, printed}
use Rattle.rest_answers.specs.Texts.{text_for, text_to}
use Rattle.rest_answers.specs.Told.{told_to}
use Rattle.rest_answers.specs.declared.answers.PrintedReply.{PrintedReply}
use Rattle.rest_answers.specs.declared.answers.PrintedReply.TheVariants as written

-- a text without its end
without_end : (front end : List ℕ) → take (length (front ++ end) - length end) (front ++ end) ≡ front
without_end front end =
    ap (λ n. take n (front ++ end)) (ap (λ n. n - length end) (length-append front end) ∙ omega arith)
    ∙ take-append_seam front end

-- the bytes of a reply before its body
pub before_body : (p : Printed) (whole : List ℕ) → whole ≡ reply_text p
    → take (length whole - length p.body) whole ≡ head_text p
unfolding reply_text
before_body p whole is =
    ap (λ text. take (length text - length p.body) text) is ∙ without_end (head_text p) p.body

pub body_fits : (p : Printed) (whole : List ℕ) → whole ≡ reply_text p → length p.body ≤ length whole
unfolding reply_text
body_fits p whole is =
    let long : length whole ≡ length (head_text p) + length p.body =
    ap (λ text. length text) is ∙ length-append (head_text p) p.body in
    omega (arith, long)

-- the same of the reply that takes no memory, whose body has 78 bytes
pub no_memory_front : (last : Bool) (whole : List ℕ) → whole ≡ reply_text (no_memory_printed last)
    → take (length whole - 78) whole ≡ head_text (no_memory_printed last)
no_memory_front last whole is = before_body (no_memory_printed last) whole is

pub no_memory_fits : (last : Bool) (whole : List ℕ) → whole ≡ reply_text (no_memory_printed last) → 78 ≤ length whole
no_memory_fits last whole is = body_fits (no_memory_printed last) whole is

-- the reply that takes no memory is the one that tells that there is none
pub no_memory_is_printed : (terms : Terms) (request : Request) → NoMemoryIsKnown
    → no_memory_text request ≡ printed reply.NoMemory terms request
unfolding printed printed_of
no_memory_is_printed terms request known = ap
    (λ body. text_to request (record { code = 500; body = body; location = []; tag = []; last = request.last }))
    (sym (known terms))

-- a reply that stands ready is told as it is
pub ready_told : (r : Reply) (last : Bool) (request : Request) (terms : Terms) → stands_ready r last ≡ true
    → told_to request terms r ≡ r
ready_told (reply.Many views) true request terms ready = cc
ready_told (reply.Many views) false request terms ready = cc
ready_told other last request terms ready = refl

-- what is told to a request that is not a HEAD has its body
pub whole_printed : (r : Reply) (terms : Terms) (request : Request) → request.last ≡ false → asks_head request ≡ false
    → printed r terms request ≡ reply_text (printed_of (told_to request terms r) terms false)
unfolding printed
whole_printed r terms request stays by_get =
    let told = told_to request terms r in
    ap (λ head. if head then head_text (printed_of told terms request.last) else reply_text (printed_of told terms request.last))
    by_get
    ∙ ap (λ last. reply_text (printed_of told terms last)) stays

-- what is written for an answer is the text of its reply, unless memory for it was refused
pub text_is : (a : PrintedReply) (r : Reply) (terms : Terms) (request : Request) → HasText a r terms request
    → ¬ IsUnprinted a → text_for a request ≡ printed r terms request
text_is (written.Printed bytes) r terms request has printed = has
text_is written.NoMemory r terms request has printed = has
text_is written.Unprinted r terms request has printed = absurd (printed tt)

-- memory for a reply is refused only to one that takes memory
pub takes_memory : (a : PrintedReply) (r : Reply) (terms : Terms) (request : Request) → HasText a r terms request
    → IsUnprinted a → r ≢ reply.NoMemory
takes_memory (written.Printed bytes) r terms request has refused = absurd refused
takes_memory written.NoMemory r terms request has refused = absurd refused
takes_memory written.Unprinted r terms request has refused = has
