use Rattle.std.proofs.Common.{inl, inr, ap, subst, take, Err}
use Rattle.httparse.specs.Grammar.{HasNoResponse}
use Rattle.httparse.specs.Spans.{ResponseExceeds}
use Rattle.client_replies.proofs.HeadLemmas.{window_is, settled_here, never_here}
use Rattle.client_replies.proofs.head.front_of.Goals as goal

pub returns-in-Ok-Complete-clause-front : goal.returns-in-Ok-Complete-clause-front
returns-in-Ok-Complete-clause-front c = settled_here c.min.result c.args.bytes.now c.framed.result c.framed.ensures.front

pub returns-else-bytes-lt-MAX_HEAD-clause-front : goal.returns-else-bytes-lt-MAX_HEAD-clause-front
returns-else-bytes-lt-MAX_HEAD-clause-front c =
    inr (inl (record {
      none = subst HasNoResponse (window_is c.min.result c.args.bytes.now c.min.ensures)
          (rw c.in-Ok-Partial.field-0-is at c.in-Ok-Partial.ensures.partial);
      long = c.if-bytes-lt-MAX_HEAD.false;
    }))

pub returns-in-Err-clause-front : goal.returns-in-Err-clause-front
returns-in-Err-clause-front c =
    inl (never_here c.min.result c.args.bytes.now c.in-Err.field-0 c.min.ensures c.in-Err.ensures.invalid
    (λ same. subst (λ room. ResponseExceeds room (take c.min.result c.args.bytes.now)) c.requires (c.in-Err.ensures.too_many (ap Err same))))
