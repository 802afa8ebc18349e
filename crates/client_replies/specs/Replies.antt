-- The replies that a server sends one after the other: a head (RFC 9112, sections 4 and 5) and a body.
use Rattle.std.specs.Prelude.{◌≡◌, ℕ, ◌+◌, ◌<◌, ◌≤◌, ◌⊎◌, List, [], ◌∷◌, length, take, drop, Some, None}
use Rattle.httparse.specs.Grammar.{ResponseHead, print_response, status_code, ReadsResponse, HasNoResponse, NeverHasResponse}
use Rattle.httparse.specs.Grammar.{MayBecomeResponse}
use Rattle.client_replies.specs.Limits.{max_head}
use Rattle.client_replies.specs.Fields.{framed}
use Rattle.client_replies.specs.Forms.{Told, told, answer_in}
use Rattle.client_replies.specs.declared.reading.Reading.{Reading}
use Rattle.client_replies.specs.declared.reading.Reading.TheVariants as reading

-- the bytes are this head, which is not too long, and then the rest
pub record HasHead (bytes : List ℕ) (head : ResponseHead) (rest : List ℕ) : Type 0 where
  pub reads : ReadsResponse bytes head rest
  pub short : length (print_response head) ≤ max_head

-- the bytes begin with a whole reply of this length, which tells so
pub record IsReply (bytes : List ℕ) (tells : Told) (len : ℕ) : Type 0 where
  pub head : ResponseHead
  pub rest : List ℕ
  pub body : ℕ
  pub has : HasHead bytes head rest
  pub frame : framed head ≡ Some body
  pub whole : body ≤ length rest
  pub answer : answer_in (status_code head) (take body rest) ≡ Some tells
  pub len_is : len ≡ length (print_response head) + body

-- ---- a reply that has begun

-- no head is whole yet, and more bytes can make one
pub record IsOpenHead (bytes : List ℕ) : Type 0 where
  pub none : HasNoResponse bytes
  pub may : MayBecomeResponse bytes
  pub short : length bytes < max_head

-- the head is whole, and its body is not
pub record IsOpenBody (bytes : List ℕ) : Type 0 where
  pub head : ResponseHead
  pub rest : List ℕ
  pub body : ℕ
  pub has : HasHead bytes head rest
  pub frame : framed head ≡ Some body
  pub short : length rest < body

abbrev pub HasBegun : List ℕ → Type 0
HasBegun bytes = IsOpenHead bytes ⊎ IsOpenBody bytes

-- ---- bytes with which no reply begins, whatever follows them

-- no head begins here
abbrev pub IsNoHead : List ℕ → Type 0
IsNoHead bytes = NeverHasResponse (take max_head bytes)

-- no head ends in as many bytes as a head may have
pub record IsTooLong (bytes : List ℕ) : Type 0 where
  pub none : HasNoResponse (take max_head bytes)
  pub long : max_head ≤ length bytes

-- the head gives no length of a body
pub record IsUnframed (bytes : List ℕ) : Type 0 where
  pub head : ResponseHead
  pub rest : List ℕ
  pub has : HasHead bytes head rest
  pub frame : framed head ≡ None

-- head and body are whole, and the body is no answer behind that head
pub record IsNoAnswer (bytes : List ℕ) : Type 0 where
  pub head : ResponseHead
  pub rest : List ℕ
  pub body : ℕ
  pub has : HasHead bytes head rest
  pub frame : framed head ≡ Some body
  pub whole : body ≤ length rest
  pub answer : answer_in (status_code head) (take body rest) ≡ None

abbrev pub IsMalformed : List ℕ → Type 0
IsMalformed bytes = IsNoHead bytes ⊎ (IsTooLong bytes ⊎ (IsUnframed bytes ⊎ IsNoAnswer bytes))

-- what the bytes behind the earlier replies are
abbrev pub IsReading : List ℕ → Reading → Type 0
IsReading bytes reading.Incomplete = HasBegun bytes
IsReading bytes reading.Malformed = IsMalformed bytes
IsReading bytes (reading.Whole answer len) = IsReply bytes (told answer) len

-- the bytes begin with these replies, one after the other, and then have the rest
abbrev pub Begins : List ℕ → List Told → List ℕ → Type 0
Begins bytes [] rest = rest ≡ bytes
Begins bytes (told ∷ replies) rest = (len : ℕ) × IsReply bytes told len × Begins (drop len bytes) replies rest
