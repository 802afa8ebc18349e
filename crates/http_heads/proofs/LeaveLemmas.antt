-- Whether leave is awaited is told by a whole head, and only so.
use Rattle.std.proofs.Common.{◌≡◌, ℕ, Bool, true, false, List, [], ◌++◌, take, Some, None, Ok, Err, refl, sym, ap, ap₂, ◌∙◌, subst}
use Rattle.std.proofs.lemmas.Option.{same_Some}
use Rattle.std.proofs.lemmas.List.{take-append-le}
use Rattle.httparse.specs.Grammar.{RequestHead}
use Rattle.httparse.proofs.GrammarLemmas.{request_unique}
use Rattle.http_heads.specs.declared.request.Request.{Request}
use Rattle.http_heads.specs.declared.request.HeadFault.{HeadFault}
use Rattle.http_heads.specs.Heads.{head_len, after_blank, head_bytes}
use Rattle.http_heads.specs.Fields.{fields_of, framing, has_origin, expects_in, expects_leave, leave_due}
use Rattle.http_heads.specs.Messages.{IsHead, IsMessage, IsBlank, IsMalformed, AwaitsLeave, TellsLeave}
use Rattle.http_heads.specs.Readings.{TellsExpects}
use Rattle.http_heads.proofs.LengthLemmas.{head_len-append, head_len-le}
use Rattle.http_heads.proofs.MessageLemmas.{HasHead-append, HasHead-unique, IsBlank-none, malformed_framed, ok_err, same_Ok, same_framing}

-- ---- a head

same_head : {text : List ℕ} {head other : RequestHead} → IsHead text head → IsHead text other → head ≡ other
same_head {text} {head} {other} h k = (request_unique text head other [] [] h.reads k.reads).0

-- whether leave is due to a head with a body of this length
abbrev due_at : Bool → ℕ → RequestHead → Bool
due_at refuses body head = leave_due refuses (has_origin head) (expects_leave body head)

-- what the headers of a head tell
pub TellsExpects-framed : (refuses : Bool) (text : List ℕ) (head : RequestHead) (body : ℕ) (awaited : Bool) → IsHead text head
    → framing (fields_of head) ≡ Ok body → awaited ≡ leave_due refuses (has_origin head) (expects_leave body head) → TellsExpects refuses text awaited
TellsExpects-framed refuses text head body true is framed told =
    record { head = head; body = body; is = is; framed = framed; expects = sym told }
TellsExpects-framed refuses text head body false is framed told = λ k.
    let heads : head ≡ k.head = same_head is k.is in
    let bodies : body ≡ k.body = same_Ok (sym framed ∙ ap (λ x. framing (fields_of x)) heads ∙ k.framed) in
    let e : true ≡ false = sym k.expects ∙ sym (ap₂ (due_at refuses) bodies heads) ∙ sym told in cc

-- headers with a fault tell of none
pub TellsExpects-fault : {refuses : Bool} {text : List ℕ} {head : RequestHead} {fault : HeadFault} → IsHead text head → framing (fields_of head) ≡ Err fault
    → TellsExpects refuses text false
TellsExpects-fault is framed = λ k. ok_err (sym k.framed ∙ sym (ap (λ x. framing (fields_of x)) (same_head is k.is)) ∙ framed)

-- what a head tells, of the text that begins with it
pub TellsLeave-head : (refuses : Bool) (bytes : List ℕ) (len : ℕ) (awaited : Bool) → head_len bytes ≡ Some len
    → TellsExpects refuses (head_bytes len bytes) awaited → TellsLeave refuses bytes awaited
TellsLeave-head refuses bytes len true ends h = record {
  len = len;
  head = h.head;
  body = h.body;
  has = record { ends = ends; is = h.is };
  framed = h.framed;
  expects = h.expects;
}
TellsLeave-head refuses bytes len false ends h = λ k.
    let same : k.len ≡ len = same_Some k.len len (sym k.has.ends ∙ ends) in
    h (record {
      head = k.head;
      body = k.body;
      is = subst (λ n. IsHead (head_bytes n bytes) k.head) same k.has.is;
      framed = k.framed;
      expects = k.expects;
    })

-- a message tells of its own bytes
pub TellsLeave-message : (refuses : Bool) {bytes rest : List ℕ} {m : Request} → IsMessage bytes m rest
    → TellsLeave refuses bytes (leave_due refuses m.origin m.expects)
TellsLeave-message refuses {bytes} {rest} {m} h = by (leave_due refuses m.origin m.expects) refl
  where
    same : leave_due refuses m.origin m.expects ≡ due_at refuses h.body h.head
    same = ap₂ (leave_due refuses) h.origin_is h.expects_is

    by : (b : Bool) → leave_due refuses m.origin m.expects ≡ b → TellsLeave refuses bytes b
    by true is = record { len = h.len; head = h.head; body = h.body; has = h.has; framed = h.framed; expects = sym same ∙ is }
    by false is = λ k.
        let heads = HasHead-unique h.has k.has in
        let bodies : h.body ≡ k.body = same_Ok (sym h.framed ∙ same_framing h.has k.has ∙ k.framed) in
        let e : true ≡ false = sym k.expects ∙ sym (ap₂ (due_at refuses) bodies heads.1) ∙ sym same ∙ is in cc

pub TellsLeave-unique : (refuses : Bool) (bytes : List ℕ) (a b : Bool) → TellsLeave refuses bytes a → TellsLeave refuses bytes b → a ≡ b
TellsLeave-unique refuses bytes true true h k = refl
TellsLeave-unique refuses bytes true false h k = absurd (k h)
TellsLeave-unique refuses bytes false true h k = absurd (h k)
TellsLeave-unique refuses bytes false false h k = refl

-- ---- more bytes

AwaitsLeave-append : {refuses : Bool} {bytes : List ℕ} (more : List ℕ) → AwaitsLeave refuses bytes → AwaitsLeave refuses (bytes ++ more)
AwaitsLeave-append more h = record {
  len = h.len;
  head = h.head;
  body = h.body;
  has = HasHead-append more h.has;
  framed = h.framed;
  expects = h.expects;
}

AwaitsLeave-front : {refuses : Bool} {bytes : List ℕ} (more : List ℕ) (len : ℕ) → head_len bytes ≡ Some len → AwaitsLeave refuses (bytes ++ more)
    → AwaitsLeave refuses bytes
AwaitsLeave-front {refuses} {bytes} more len ends h =
    let same : h.len ≡ len = same_Some h.len len (sym h.has.ends ∙ head_len-append bytes more len ends) in
    let front : take len (bytes ++ more) ≡ take len bytes = take-append-le len bytes more (head_len-le bytes len ends).1 in
    let is : IsHead (head_bytes len (bytes ++ more)) h.head = subst (λ n. IsHead (head_bytes n (bytes ++ more)) h.head) same h.has.is in
    record {
      len = len;
      head = h.head;
      body = h.body;
      has = record { ends = ends; is = subst (λ l. IsHead (after_blank l) h.head) front is };
      framed = h.framed;
      expects = h.expects;
    }

-- bytes that follow a whole head change nothing of it
pub TellsLeave-append : (refuses : Bool) (bytes more : List ℕ) (len : ℕ) (awaited : Bool) → head_len bytes ≡ Some len → TellsLeave refuses bytes awaited
    → TellsLeave refuses (bytes ++ more) awaited
TellsLeave-append refuses bytes more len true ends h = AwaitsLeave-append more h
TellsLeave-append refuses bytes more len false ends h = λ k. h (AwaitsLeave-front more len ends k)

-- ---- where no leave is awaited

pub expects-no_body : (head : RequestHead) → false ≡ expects_leave 0 head
unfolding expects_in
expects-no_body head = refl

pub TellsLeave-none : {refuses : Bool} {bytes : List ℕ} → head_len bytes ≡ None → TellsLeave refuses bytes false
TellsLeave-none {refuses} {bytes} none = λ k. let e : None ≡ Some k.len = sym none ∙ k.has.ends in cc

pub TellsLeave-blank : {refuses : Bool} {bytes : List ℕ} → IsBlank bytes → TellsLeave refuses bytes false
TellsLeave-blank h = TellsLeave-none (IsBlank-none h)

pub TellsLeave-malformed : (refuses : Bool) (bytes : List ℕ) (fault : HeadFault) → IsMalformed bytes fault → TellsLeave refuses bytes false
TellsLeave-malformed refuses bytes fault h = λ k. malformed_framed bytes fault h k.has k.framed
