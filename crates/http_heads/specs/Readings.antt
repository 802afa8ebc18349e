-- What is read of the bytes of a head.
use Rattle.std.specs.Prelude.{◌≡◌, ℕ, Bool, true, false, List, length, map, All, Ok, Err}
use Rattle.size_values.specs.declared.memory.Or.{Or}
use Rattle.size_values.specs.declared.memory.Or.TheVariants as or
use Rattle.httparse.specs.Grammar.{RequestHead}
use Rattle.httparse.specs.Spans.{IsWithin, IsHeaderWithin, span_bytes, header_bytes}
use Rattle.httparse.specs.declared.spans.HeaderSpan.{HeaderSpan}
use Rattle.httparse.specs.declared.spans.RequestSpans.{RequestSpans}
use Rattle.http_heads.specs.declared.head.Head.{Head}
use Rattle.http_heads.specs.declared.request.HeadFault.{HeadFault}
use Rattle.http_heads.specs.declared.request.HeadFault.TheVariants.{H1, H2, H3, H4, H5}
use Rattle.http_heads.specs.Fields.{fields_of, framing, is_last, has_origin, if_match_of, expects_leave, leave_due}
use Rattle.http_heads.specs.Messages.{IsHead}
use Rattle.http_heads.specs.Upgrades.{upgrade_key}

-- the text is a head, and this is what it says
pub record Says (text : List ℕ) (said : Head) : Type 0 where
  pub head : RequestHead
  pub is : IsHead text head
  pub framed : framing (fields_of head) ≡ Ok said.body
  pub method_is : said.method ≡ head.method
  pub target_is : said.target ≡ head.target
  pub last_is : said.last ≡ is_last head
  pub expects_is : said.expects ≡ expects_leave said.body head
  pub upgrade_is : said.upgrade ≡ upgrade_key head
  pub origin_is : said.origin ≡ has_origin head
  pub if_match_is : said.if_match ≡ if_match_of head

-- the text is a head whose client waits for leave before it sends the body, which is due
pub record Expects (refuses_origin : Bool) (text : List ℕ) : Type 0 where
  pub head : RequestHead
  pub body : ℕ
  pub is : IsHead text head
  pub framed : framing (fields_of head) ≡ Ok body
  pub expects : leave_due refuses_origin (has_origin head) (expects_leave body head) ≡ true

-- whether it is such a head
abbrev pub TellsExpects : Bool → List ℕ → Bool → Type 0
TellsExpects refuses_origin text true = Expects refuses_origin text
TellsExpects refuses_origin text false = ¬ (Expects refuses_origin text)

-- the text is a head with this fault in its headers
pub record IsHeadWith (text : List ℕ) (fault : HeadFault) : Type 0 where
  pub head : RequestHead
  pub is : IsHead text head
  pub framed : framing (fields_of head) ≡ Err fault

-- the text has this fault: it is no head, or its headers have the fault
abbrev pub HasFault : List ℕ → HeadFault → Type 0
HasFault text H1 = (head : RequestHead) → ¬ (IsHead text head)
HasFault text H2 = ⊥
HasFault text H3 = IsHeadWith text H3
HasFault text H4 = IsHeadWith text H4
HasFault text H5 = ⊥

-- the same where it was not out of memory
abbrev pub HasReason : List ℕ → Or HeadFault → Type 0
HasReason text or.NoMemory = Unit {0}
HasReason text (or.Why fault) = HasFault text fault

-- these spans and headers cover the parts of the text, which is a head
pub record AreParts (text : List ℕ) (headers : List HeaderSpan) (spans : RequestSpans) : Type 0 where
  pub head : RequestHead
  pub is : IsHead text head
  pub method : span_bytes text spans.method ≡ head.method
  pub target : span_bytes text spans.path ≡ head.target
  pub minor : spans.version ≡ head.minor
  pub fields : map (header_bytes text) headers ≡ fields_of head
  pub method_within : IsWithin (length text) spans.method
  pub target_within : IsWithin (length text) spans.path
  pub headers_within : All (IsHeaderWithin (length text)) headers
