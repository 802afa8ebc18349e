-- The messages of a text, and what stands at their end.
use Rattle.std.specs.Prelude.{◌≡◌, ℕ, ◌+◌, ◌<◌, ◌≤◌, ◌⊎◌, List, [], ◌∷◌, length, take, drop, Some, None, Ok, Err}
use Rattle.std.specs.Prelude.{Bool, true, false}
use Rattle.httparse.specs.Grammar.{RequestHead, ReadsRequest}
use Rattle.http_heads.specs.Limits.{max_head, max_fields}
use Rattle.http_heads.specs.declared.request.Request.{Request}
use Rattle.http_heads.specs.declared.request.HeadFault.{HeadFault}
use Rattle.http_heads.specs.declared.request.HeadFault.TheVariants.{H1, H2, H3, H4, H5}
use Rattle.http_heads.specs.Heads.{blank_len, head_len, head_bytes}
use Rattle.http_heads.specs.Fields.{fields_of, framing, is_last, has_origin, if_match_of, expects_leave, leave_due}
use Rattle.http_heads.specs.Upgrades.{upgrade_key}

-- these bytes are a request head (RFC 9112) of at most 64 headers
pub record IsHead (bytes : List ℕ) (head : RequestHead) : Type 0 where
  pub reads : ReadsRequest bytes head []
  pub few : length head.fields ≤ max_fields

-- the text begins with a whole head, of this length and with these parts
pub record HasHead (bytes : List ℕ) (len : ℕ) (head : RequestHead) : Type 0 where
  pub ends : head_len bytes ≡ Some len
  pub is : IsHead (head_bytes len bytes) head

-- the text begins with this message, and then has the rest
pub record IsMessage (bytes : List ℕ) (message : Request) (rest : List ℕ) : Type 0 where
  pub len : ℕ
  pub head : RequestHead
  pub body : ℕ
  pub has : HasHead bytes len head
  pub framed : framing (fields_of head) ≡ Ok body
  pub whole : len + body ≤ length bytes
  pub method_is : message.method ≡ head.method
  pub target_is : message.target ≡ head.target
  pub body_is : message.body ≡ take body (drop len bytes)
  pub last_is : message.last ≡ is_last head
  pub expects_is : message.expects ≡ expects_leave body head
  pub upgrade_is : message.upgrade ≡ upgrade_key head
  pub origin_is : message.origin ≡ has_origin head
  pub if_match_is : message.if_match ≡ if_match_of head
  pub rest_is : rest ≡ drop (len + body) bytes

-- The head of a message is whole here, and its client waits for leave before it sends the body, which is due where
-- requests with an `Origin` are refused so.
pub record AwaitsLeave (refuses_origin : Bool) (bytes : List ℕ) : Type 0 where
  pub len : ℕ
  pub head : RequestHead
  pub body : ℕ
  pub has : HasHead bytes len head
  pub framed : framing (fields_of head) ≡ Ok body
  pub expects : leave_due refuses_origin (has_origin head) (expects_leave body head) ≡ true

-- whether leave is due here
abbrev pub TellsLeave : Bool → List ℕ → Bool → Type 0
TellsLeave refuses_origin bytes true = AwaitsLeave refuses_origin bytes
TellsLeave refuses_origin bytes false = ¬ (AwaitsLeave refuses_origin bytes)

-- only CR and LF stand here, too few to be a head that is too long
pub record IsBlank (bytes : List ℕ) : Type 0 where
  pub all : blank_len bytes ≡ length bytes
  pub short : length bytes < max_head

-- a head has begun, and may yet end
pub record IsOpenHead (bytes : List ℕ) : Type 0 where
  pub none : head_len bytes ≡ None
  pub begun : blank_len bytes < length bytes
  pub short : length bytes < max_head

-- the head is whole, and its body is not
pub record IsShortBody (bytes : List ℕ) : Type 0 where
  pub len : ℕ
  pub head : RequestHead
  pub body : ℕ
  pub has : HasHead bytes len head
  pub framed : framing (fields_of head) ≡ Ok body
  pub short : length bytes < len + body

-- a message has begun, and is not whole
abbrev pub IsCut : List ℕ → Type 0
IsCut bytes = IsOpenHead bytes ⊎ IsShortBody bytes

-- the bytes up to the first empty line are no head
pub record IsNoHead (bytes : List ℕ) : Type 0 where
  pub len : ℕ
  pub ends : head_len bytes ≡ Some len
  pub refuted : (head : RequestHead) → ¬ (IsHead (head_bytes len bytes) head)

-- 16,384 bytes have no empty line that ends a head
pub record IsTooLong (bytes : List ℕ) : Type 0 where
  pub none : head_len bytes ≡ None
  pub long : max_head ≤ length bytes

-- the head is whole, and what it says of its body is this fault
pub record IsFramedBadly (bytes : List ℕ) (fault : HeadFault) : Type 0 where
  pub len : ℕ
  pub head : RequestHead
  pub has : HasHead bytes len head
  pub framed : framing (fields_of head) ≡ Err fault

-- no message can begin here, whatever follows
abbrev pub IsMalformed : List ℕ → HeadFault → Type 0
IsMalformed bytes H1 = IsNoHead bytes
IsMalformed bytes H2 = IsTooLong bytes
IsMalformed bytes H3 = IsFramedBadly bytes H3
IsMalformed bytes H4 = IsFramedBadly bytes H4
IsMalformed bytes H5 = ⊥

-- where the messages of a text end
pub data Ending : Type 0 where
  ended : Ending
  cut : ℕ → Ending
  malformed : HeadFault → Ending

-- what is left after the last message ends so; Cut carries the number of bytes left
abbrev pub EndsAs : List ℕ → Ending → Type 0
EndsAs bytes ended = IsBlank bytes
EndsAs bytes (cut n) = IsCut bytes × (n ≡ length bytes)
EndsAs bytes (malformed fault) = IsMalformed bytes fault

-- the text begins with these messages, one after the other, and then has the rest
abbrev pub Begins : List ℕ → List Request → List ℕ → Type 0
Begins bytes [] rest = rest ≡ bytes
Begins bytes (message ∷ messages) rest =
    (middle : List ℕ) × IsMessage bytes message middle × Begins middle messages rest

-- the text is these messages, and ends so
pub record Splits (text : List ℕ) (messages : List Request) (ending : Ending) : Type 0 where
  pub rest : List ℕ
  pub begins : Begins text messages rest
  pub ends : EndsAs rest ending
