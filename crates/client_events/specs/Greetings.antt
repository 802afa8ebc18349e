-- What the bytes are that a server answers a handshake by.
use Rattle.std.specs.Prelude.{◌≡◌, ℕ, ◌≤◌, ◌⊎◌, true, false, List, length, map}
use Rattle.httparse.specs.Grammar.{ResponseHead, print_response, status_code}
use Rattle.httparse.specs.Spans.{name_and_value}
use Rattle.client_replies.specs.Replies.{HasHead, IsNoHead, IsOpenHead, IsTooLong}
use Rattle.client_events.specs.Opening.{is_accepting}
use Rattle.client_events.specs.declared.greeting.Greeting.{Greeting}
use Rattle.client_events.specs.declared.greeting.Greeting.TheVariants as greeting

-- the bytes begin with a whole head of this length, which accepts the handshake
pub record Accepts (bytes : List ℕ) (len : ℕ) : Type 0 where
  pub head : ResponseHead
  pub rest : List ℕ
  pub has : HasHead bytes head rest
  pub accepts : is_accepting head.minor (status_code head) (map name_and_value head.fields) ≡ true
  pub len_is : len ≡ length (print_response head)

-- the bytes begin with a whole head that does not
pub record Declines (bytes : List ℕ) : Type 0 where
  pub head : ResponseHead
  pub rest : List ℕ
  pub has : HasHead bytes head rest
  pub declines : is_accepting head.minor (status_code head) (map name_and_value head.fields) ≡ false

-- what a whole head is
abbrev pub IsSettled : List ℕ → Greeting → Type 0
IsSettled bytes greeting.Begun = ⊥
IsSettled bytes (greeting.Accepted len) = Accepts bytes len
IsSettled bytes greeting.Other = Declines bytes

-- what the bytes are
abbrev pub IsGreeting : List ℕ → Greeting → Type 0
IsGreeting bytes greeting.Begun = IsOpenHead bytes
IsGreeting bytes (greeting.Accepted len) = Accepts bytes len
IsGreeting bytes greeting.Other = IsNoHead bytes ⊎ (IsTooLong bytes ⊎ Declines bytes)

-- a head that accepts ends in so many bytes
abbrev pub EndsIn : ℕ → Greeting → Type 0
EndsIn n greeting.Begun = Unit {0}
EndsIn n (greeting.Accepted len) = len ≤ n
EndsIn n greeting.Other = Unit {0}
