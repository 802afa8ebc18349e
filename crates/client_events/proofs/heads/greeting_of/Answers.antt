use Rattle.std.proofs.Common.{inl, inr, ap, subst, take, Err}
use Rattle.httparse.specs.Grammar.{HasNoResponse}
use Rattle.httparse.specs.Spans.{ResponseExceeds}
use Rattle.client_replies.proofs.HeadLemmas.{never_here, window_is}
use Rattle.client_events.proofs.GreetingLemmas.{settled_here}
use Rattle.client_events.proofs.heads.greeting_of.Goals as goal

pub returns-in-Ok-Complete-clause-greeting : goal.returns-in-Ok-Complete-clause-greeting
returns-in-Ok-Complete-clause-greeting c =
    settled_here c.min.result c.args.bytes.now c.settled.result c.settled.ensures.greeting

pub returns-else-bytes-lt-MAX_HEAD-clause-greeting : goal.returns-else-bytes-lt-MAX_HEAD-clause-greeting
returns-else-bytes-lt-MAX_HEAD-clause-greeting c =
    inr (inl (record {
      none = subst HasNoResponse (window_is c.min.result c.args.bytes.now c.min.ensures)
          (rw c.in-Ok-Partial.field-0-is at c.in-Ok-Partial.ensures.partial);
      long = c.if-bytes-lt-MAX_HEAD.false;
    }))

pub returns-in-Err-clause-greeting : goal.returns-in-Err-clause-greeting
returns-in-Err-clause-greeting c =
    inl (never_here c.min.result c.args.bytes.now c.in-Err.field-0 c.min.ensures c.in-Err.ensures.invalid
    (λ same. subst (λ room. ResponseExceeds room (take c.min.result c.args.bytes.now)) c.requires (c.in-Err.ensures.too_many (ap Err same))))
