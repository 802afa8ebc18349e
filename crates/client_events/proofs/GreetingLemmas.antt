-- What a head of a greeting gives, with more bytes behind it.
use Rattle.std.proofs.Common.{List, ◌++◌, ℕ, inr, subst, take, drop, take-append-drop}
use Rattle.client_replies.proofs.HeadLemmas.{HasHead-append}
use Rattle.client_events.specs.Greetings.{IsGreeting, IsSettled}
use Rattle.client_events.specs.declared.greeting.Greeting.{Greeting}
use Rattle.client_events.specs.declared.greeting.Greeting.TheVariants as greeting

settled_greeting : (bytes more : List ℕ) (g : Greeting) → IsSettled bytes g → IsGreeting (bytes ++ more) g
settled_greeting bytes more greeting.Begun h = absurd h
settled_greeting bytes more (greeting.Accepted len) h = record {
  head = h.head;
  rest = h.rest ++ more;
  has = HasHead-append more h.has;
  accepts = h.accepts;
  len_is = h.len_is;
}
settled_greeting bytes more greeting.Other h = inr (inr (record {
  head = h.head;
  rest = h.rest ++ more;
  has = HasHead-append more h.has;
  declines = h.declines;
}))

-- the same of the first bytes
pub settled_here : (n : ℕ) (bytes : List ℕ) (g : Greeting) → IsSettled (take n bytes) g → IsGreeting bytes g
settled_here n bytes g h =
    subst (λ l. IsGreeting l g) (take-append-drop n bytes) (settled_greeting (take n bytes) (drop n bytes) g h)
