-- What is read of the head of a reply.
use Rattle.std.specs.Prelude.{◌≡◌, ℕ, ◌≤◌, ◌⊎◌, List, length, map, All, Some}
use Rattle.httparse.specs.Grammar.{ResponseHead, print_response, status_code}
use Rattle.httparse.specs.Spans.{IsHeaderWithin, header_bytes, name_and_value}
use Rattle.httparse.specs.declared.spans.HeaderSpan.{HeaderSpan}
use Rattle.httparse.specs.declared.spans.ResponseSpans.{ResponseSpans}
use Rattle.client_replies.specs.Limits.{max_body}
use Rattle.client_replies.specs.Fields.{framed}
use Rattle.client_replies.specs.Replies.{HasHead, IsOpenHead, IsNoHead, IsTooLong, IsUnframed}
use Rattle.client_replies.specs.declared.head.Front.{Front}
use Rattle.client_replies.specs.declared.head.Front.TheVariants as front
use Rattle.client_replies.specs.declared.reading.Reading.{Reading}
use Rattle.client_replies.specs.declared.reading.Reading.TheVariants as reading

-- these spans and headers cover the parts of a head that the bytes begin with
pub record AreParts (bytes : List ℕ) (headers : List HeaderSpan) (spans : ResponseSpans) : Type 0 where
  pub head : ResponseHead
  pub rest : List ℕ
  pub has : HasHead bytes head rest
  pub minor : spans.version ≡ head.minor
  pub code : spans.code ≡ status_code head
  pub len : spans.len ≡ length (print_response head)
  pub fields : map (header_bytes bytes) headers ≡ map name_and_value head.fields
  pub within : spans.len ≤ length bytes
  pub headers_within : All (IsHeaderWithin (length bytes)) headers

-- the bytes begin with a whole head of this length and code, which gives this length of a body
pub record IsFramed (bytes : List ℕ) (code len body : ℕ) : Type 0 where
  pub head : ResponseHead
  pub rest : List ℕ
  pub has : HasHead bytes head rest
  pub code_is : code ≡ status_code head
  pub len_is : len ≡ length (print_response head)
  pub frame : framed head ≡ Some body

-- what a whole head gives
abbrev pub IsSettled : List ℕ → Front → Type 0
IsSettled bytes front.Open = ⊥
IsSettled bytes front.Wrong = IsUnframed bytes
IsSettled bytes (front.Head code len body) = IsFramed bytes code len body

-- what bytes begin with
abbrev pub IsFront : List ℕ → Front → Type 0
IsFront bytes front.Open = IsOpenHead bytes
IsFront bytes front.Wrong = IsNoHead bytes ⊎ (IsTooLong bytes ⊎ IsUnframed bytes)
IsFront bytes (front.Head code len body) = IsFramed bytes code len body

-- a head ends in so many bytes, and its body is no longer than one may be
abbrev pub FitsIn : ℕ → Front → Type 0
FitsIn n front.Open = Unit {0}
FitsIn n front.Wrong = Unit {0}
FitsIn n (front.Head code len body) = (len ≤ n) × (body ≤ max_body)

-- a whole reply ends in so many bytes
abbrev pub EndsWithin : ℕ → Reading → Type 0
EndsWithin n reading.Incomplete = Unit {0}
EndsWithin n reading.Malformed = Unit {0}
EndsWithin n (reading.Whole answer len) = len ≤ n
