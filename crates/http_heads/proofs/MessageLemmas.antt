-- What a text begins with stays so when more bytes follow, and is only one thing.
use Rattle.std.proofs.Common.{◌≡◌, ℕ, ◌+◌, ◌<◌, ◌≤◌, ◌⊎◌, inl, inr, List, [], ◌∷◌, ◌++◌, length, take, drop, Some, None, Result, Ok, Err, refl, sym, ap, ap₂, ◌∙◌, subst, arith, length-append, length-drop}
use Rattle.std.proofs.lemmas.Option.{same_Some}
use Rattle.std.proofs.lemmas.Bool.{cases_eq}
use Rattle.std.proofs.lemmas.List.{take-append-le, drop-append-le}
use Rattle.httparse.specs.Grammar.{RequestHead}
use Rattle.httparse.proofs.GrammarLemmas.{request_unique}
use Rattle.http_heads.specs.Limits.{max_head}
use Rattle.http_heads.specs.declared.request.Request.{Request}
use Rattle.http_heads.specs.declared.request.HeadFault.{HeadFault}
use Rattle.http_heads.specs.declared.request.HeadFault.TheVariants.{H1, H2, H3, H4, H5}
use Rattle.http_heads.specs.Heads.{blank_len, head_len, after_blank, head_bytes}
use Rattle.http_heads.specs.Fields.{fields_of, framing, is_last, has_origin, if_match_of, expects_leave}
use Rattle.http_heads.specs.Upgrades.{upgrade_key}
use Rattle.http_heads.specs.Messages.{IsHead, HasHead, IsMessage, IsBlank, IsCut, IsNoHead, IsTooLong, IsFramedBadly, IsMalformed, Ending, ended, cut, malformed, EndsAs, Begins, Splits}
use Rattle.http_heads.specs.Readings.{IsHeadWith, HasFault}
use Rattle.http_heads.proofs.LengthLemmas.{head_end-all_blank, head_len-short, head_len-long, head_len-append, head_len-le, blank_len-le}

-- ---- more bytes

pub HasHead-append : {bytes : List ℕ} {len : ℕ} {head : RequestHead} (more : List ℕ) → HasHead bytes len head → HasHead (bytes ++ more) len head
HasHead-append {bytes} {len} {head} more h = record {
  ends = head_len-append bytes more len h.ends;
  is = subst (λ l. IsHead (after_blank l) head) (sym (take-append-le len bytes more (head_len-le bytes len h.ends).1)) h.is;
}

pub IsMessage-append : {bytes rest : List ℕ} {m : Request} (more : List ℕ) → IsMessage bytes m rest → IsMessage (bytes ++ more) m (rest ++ more)
IsMessage-append {bytes} {rest} {m} more h =
    let len_fits : h.len ≤ length bytes = (head_len-le bytes h.len h.has.ends).1 in
    let body_fits : h.body ≤ length (drop h.len bytes) = omega (arith, h.whole, length-drop h.len bytes) in
    record {
      len = h.len;
      head = h.head;
      body = h.body;
      has = HasHead-append more h.has;
      framed = h.framed;
      whole = omega (arith, h.whole, length-append bytes more);
      method_is = h.method_is;
      target_is = h.target_is;
      body_is = h.body_is
          ∙ sym (ap (take h.body) (drop-append-le h.len bytes more len_fits) ∙ take-append-le h.body (drop h.len bytes) more body_fits);
      last_is = h.last_is;
      expects_is = h.expects_is;
      upgrade_is = h.upgrade_is;
      origin_is = h.origin_is;
      if_match_is = h.if_match_is;
      rest_is = ap (λ l. l ++ more) h.rest_is ∙ sym (drop-append-le (h.len + h.body) bytes more h.whole);
    }

IsFramedBadly-append : {bytes : List ℕ} {fault : HeadFault} (more : List ℕ) → IsFramedBadly bytes fault → IsFramedBadly (bytes ++ more) fault
IsFramedBadly-append more h = record { len = h.len; head = h.head; has = HasHead-append more h.has; framed = h.framed }

IsNoHead-append : {bytes : List ℕ} (more : List ℕ) → IsNoHead bytes → IsNoHead (bytes ++ more)
IsNoHead-append {bytes} more h =
    let front = take-append-le h.len bytes more (head_len-le bytes h.len h.ends).1 in
    record {
      len = h.len;
      ends = head_len-append bytes more h.len h.ends;
      refuted = λ head is. h.refuted head (subst (λ l. IsHead (after_blank l) head) front is);
    }

IsTooLong-append : {bytes : List ℕ} (more : List ℕ) → IsTooLong bytes → IsTooLong (bytes ++ more)
IsTooLong-append {bytes} more h = record {
  none = head_len-long bytes more h.long ∙ h.none;
  long = omega (arith, h.long, length-append bytes more);
}

pub IsMalformed-append : (bytes : List ℕ) (fault : HeadFault) (more : List ℕ) → IsMalformed bytes fault → IsMalformed (bytes ++ more) fault
IsMalformed-append bytes H1 more h = IsNoHead-append more h
IsMalformed-append bytes H2 more h = IsTooLong-append more h
IsMalformed-append bytes H3 more h = IsFramedBadly-append more h
IsMalformed-append bytes H4 more h = IsFramedBadly-append more h
IsMalformed-append bytes H5 more never = absurd never

-- ---- one head

pub HasHead-unique : {bytes : List ℕ} {len other : ℕ} {head another : RequestHead} → HasHead bytes len head → HasHead bytes other another
    → (len ≡ other) × (head ≡ another)
HasHead-unique {bytes} {len} {other} {head} {another} h k =
    let same : len ≡ other = same_Some len other (sym h.ends ∙ k.ends) in
    let is = subst (λ n. IsHead (head_bytes n bytes) head) same h.is in
    (same, (request_unique (head_bytes other bytes) head another [] [] is.reads k.is.reads).0)

pub same_framing : {bytes : List ℕ} {len other : ℕ} {head another : RequestHead} → HasHead bytes len head → HasHead bytes other another
    → framing (fields_of head) ≡ framing (fields_of another)
same_framing h k = ap (λ x. framing (fields_of x)) (HasHead-unique h k).1

-- ---- where no head is whole

-- only CR and LF stand there, or a head has begun
pub IsUnfinished-of_none : (bytes : List ℕ) → head_len bytes ≡ None → length bytes < max_head → IsBlank bytes ⊎ IsCut bytes
IsUnfinished-of_none bytes none short = by_case (cases_eq (blank_len bytes) (length bytes))
  where
    by_case : (blank_len bytes ≡ length bytes) ⊎ (blank_len bytes ≡ length bytes → ⊥) → IsBlank bytes ⊎ IsCut bytes
    by_case (inl all) = inl (record { all = all; short = short })
    by_case (inr other) = inr (inl (record { none = none; begun = omega (arith, blank_len-le bytes); short = short }))

pub IsBlank-none : {bytes : List ℕ} → IsBlank bytes → head_len bytes ≡ None
IsBlank-none {bytes} h = head_len-short bytes (omega (arith, h.short)) ∙ head_end-all_blank bytes h.all

-- ---- a fault of a whole head

IsFramedBadly-with : {bytes : List ℕ} {fault : HeadFault} (len : ℕ) → head_len bytes ≡ Some len → IsHeadWith (head_bytes len bytes) fault → IsFramedBadly bytes fault
IsFramedBadly-with len ends h = record { len = len; head = h.head; has = record { ends = ends; is = h.is }; framed = h.framed }

pub IsMalformed-fault : (bytes : List ℕ) (len : ℕ) (fault : HeadFault) → head_len bytes ≡ Some len → HasFault (head_bytes len bytes) fault → IsMalformed bytes fault
IsMalformed-fault bytes len H1 ends h = record { len = len; ends = ends; refuted = h }
IsMalformed-fault bytes len H2 ends h = absurd h
IsMalformed-fault bytes len H3 ends h = IsFramedBadly-with len ends h
IsMalformed-fault bytes len H4 ends h = IsFramedBadly-with len ends h
IsMalformed-fault bytes len H5 ends never = absurd never

-- ---- one thing

none_some : {n : ℕ} (bytes : List ℕ) → head_len bytes ≡ None → head_len bytes ≡ Some n → ⊥
none_some {n} bytes a b = let e : None ≡ Some n = sym a ∙ b in cc

pub same_Ok : {a b : ℕ} → ◌≡◌ {A = Result ℕ HeadFault} (Ok a) (Ok b) → a ≡ b
same_Ok e = cc

pub ok_err : {a : ℕ} {f : HeadFault} → ◌≡◌ {A = Result ℕ HeadFault} (Ok a) (Err f) → ⊥
ok_err e = cc

same_Err : {f g : HeadFault} → ◌≡◌ {A = Result ℕ HeadFault} (Err f) (Err g) → f ≡ g
same_Err e = cc

-- a text begins with one message, and has one rest
pub message_unique : {bytes rest other : List ℕ} {m n : Request} → IsMessage bytes m rest → IsMessage bytes n other → (m ≡ n) × (rest ≡ other)
message_unique {bytes} {rest} {other} {m} {n} h k =
    let heads = HasHead-unique h.has k.has in
    let bodies : h.body ≡ k.body = same_Ok (sym h.framed ∙ same_framing h.has k.has ∙ k.framed) in
    let method : m.method ≡ n.method = h.method_is ∙ ap (λ x. x.method) heads.1 ∙ sym k.method_is in
    let target : m.target ≡ n.target = h.target_is ∙ ap (λ x. x.target) heads.1 ∙ sym k.target_is in
    let last : m.last ≡ n.last = h.last_is ∙ ap is_last heads.1 ∙ sym k.last_is in
    let expects : m.expects ≡ n.expects =
    h.expects_is ∙ ap₂ expects_leave bodies heads.1 ∙ sym k.expects_is in
    let upgrade : m.upgrade ≡ n.upgrade = h.upgrade_is ∙ ap upgrade_key heads.1 ∙ sym k.upgrade_is in
    let origin : m.origin ≡ n.origin = h.origin_is ∙ ap has_origin heads.1 ∙ sym k.origin_is in
    let if_match : m.if_match ≡ n.if_match = h.if_match_is ∙ ap if_match_of heads.1 ∙ sym k.if_match_is in
    let body : m.body ≡ n.body = h.body_is ∙ ap₂ (λ b l. take b (drop l bytes)) bodies heads.0 ∙ sym k.body_is in (
      λ i. record {
        method = method i;
        target = target i;
        body = body i;
        last = last i;
        expects = expects i;
        upgrade = upgrade i;
        origin = origin i;
        if_match = if_match i;
      },
      h.rest_is ∙ ap₂ (λ l b. drop (l + b) bytes) heads.0 bodies ∙ sym k.rest_is,
    )

-- ---- the cases exclude each other

blank_message : {bytes rest : List ℕ} {m : Request} → IsBlank bytes → IsMessage bytes m rest → ⊥
blank_message {bytes} h k = none_some bytes (IsBlank-none h) k.has.ends

cut_message : {bytes rest : List ℕ} {m : Request} → IsCut bytes → IsMessage bytes m rest → ⊥
cut_message {bytes} (inl h) k = none_some bytes h.none k.has.ends
cut_message {bytes} (inr h) k =
    let heads = HasHead-unique h.has k.has in
    let bodies : h.body ≡ k.body = same_Ok (sym h.framed ∙ same_framing h.has k.has ∙ k.framed) in
    omega (arith, heads.0, bodies, h.short, k.whole)

no_head_has : {bytes : List ℕ} {len : ℕ} {head : RequestHead} → IsNoHead bytes → HasHead bytes len head → ⊥
no_head_has {bytes} {len} {head} h k =
    let same : len ≡ h.len = same_Some len h.len (sym k.ends ∙ h.ends) in
    h.refuted head (subst (λ n. IsHead (head_bytes n bytes) head) same k.is)

badly_ok : {bytes : List ℕ} {len body : ℕ} {head : RequestHead} {f : HeadFault} → IsFramedBadly bytes f → HasHead bytes len head
    → framing (fields_of head) ≡ Ok body → ⊥
badly_ok h k framed = ok_err (sym framed ∙ sym (same_framing h.has k) ∙ h.framed)

pub malformed_framed : {len body : ℕ} {head : RequestHead} (bytes : List ℕ) (f : HeadFault) → IsMalformed bytes f → HasHead bytes len head
    → framing (fields_of head) ≡ Ok body → ⊥
malformed_framed bytes H1 h k framed = no_head_has h k
malformed_framed bytes H2 h k framed = none_some bytes h.none k.ends
malformed_framed bytes H3 h k framed = badly_ok h k framed
malformed_framed bytes H4 h k framed = badly_ok h k framed
malformed_framed bytes H5 never k framed = absurd never

malformed_message : {rest : List ℕ} {m : Request} (bytes : List ℕ) (f : HeadFault) → IsMalformed bytes f → IsMessage bytes m rest → ⊥
malformed_message bytes f h k = malformed_framed bytes f h k.has k.framed

blank_cut : {bytes : List ℕ} → IsBlank bytes → IsCut bytes → ⊥
blank_cut h (inl k) = omega (arith, h.all, k.begun)
blank_cut {bytes} h (inr k) = none_some bytes (IsBlank-none h) k.has.ends

blank_malformed : (bytes : List ℕ) (f : HeadFault) → IsBlank bytes → IsMalformed bytes f → ⊥
blank_malformed bytes H1 h k = none_some bytes (IsBlank-none h) k.ends
blank_malformed bytes H2 h k = omega (arith, h.short, k.long)
blank_malformed bytes H3 h k = none_some bytes (IsBlank-none h) k.has.ends
blank_malformed bytes H4 h k = none_some bytes (IsBlank-none h) k.has.ends
blank_malformed bytes H5 h never = absurd never

cut_malformed : (bytes : List ℕ) (f : HeadFault) → IsCut bytes → IsMalformed bytes f → ⊥
cut_malformed bytes H1 (inl h) k = none_some bytes h.none k.ends
cut_malformed bytes H2 (inl h) k = omega (arith, h.short, k.long)
cut_malformed bytes H3 (inl h) k = none_some bytes h.none k.has.ends
cut_malformed bytes H4 (inl h) k = none_some bytes h.none k.has.ends
cut_malformed bytes H1 (inr h) k = no_head_has k h.has
cut_malformed bytes H2 (inr h) k = none_some bytes k.none h.has.ends
cut_malformed bytes H3 (inr h) k = badly_ok k h.has h.framed
cut_malformed bytes H4 (inr h) k = badly_ok k h.has h.framed
cut_malformed bytes H5 h never = absurd never

badly_unique : {bytes : List ℕ} {f g : HeadFault} → IsFramedBadly bytes f → IsFramedBadly bytes g → f ≡ g
badly_unique h k = same_Err (sym h.framed ∙ same_framing h.has k.has ∙ k.framed)

pub malformed_unique : (bytes : List ℕ) (f g : HeadFault) → IsMalformed bytes f → IsMalformed bytes g → f ≡ g
malformed_unique bytes H1 H1 h k = refl
malformed_unique bytes H1 H2 h k = absurd (none_some bytes k.none h.ends)
malformed_unique bytes H1 H3 h k = absurd (no_head_has h k.has)
malformed_unique bytes H1 H4 h k = absurd (no_head_has h k.has)
malformed_unique bytes H2 H1 h k = absurd (none_some bytes h.none k.ends)
malformed_unique bytes H2 H2 h k = refl
malformed_unique bytes H2 H3 h k = absurd (none_some bytes h.none k.has.ends)
malformed_unique bytes H2 H4 h k = absurd (none_some bytes h.none k.has.ends)
malformed_unique bytes H3 H1 h k = absurd (no_head_has k h.has)
malformed_unique bytes H3 H2 h k = absurd (none_some bytes k.none h.has.ends)
malformed_unique bytes H3 H3 h k = badly_unique h k
malformed_unique bytes H3 H4 h k = badly_unique h k
malformed_unique bytes H4 H1 h k = absurd (no_head_has k h.has)
malformed_unique bytes H4 H2 h k = absurd (none_some bytes k.none h.has.ends)
malformed_unique bytes H4 H3 h k = badly_unique h k
malformed_unique bytes H4 H4 h k = badly_unique h k
malformed_unique bytes H5 g never k = absurd never
malformed_unique bytes H1 H5 h never = absurd never
malformed_unique bytes H2 H5 h never = absurd never
malformed_unique bytes H3 H5 h never = absurd never
malformed_unique bytes H4 H5 h never = absurd never

-- what ends the messages of a text is no message
pub ending_message : {rest : List ℕ} {m : Request} (bytes : List ℕ) (e : Ending) → EndsAs bytes e → IsMessage bytes m rest → ⊥
ending_message bytes ended h k = blank_message h k
ending_message bytes (cut n) h k = cut_message h.0 k
ending_message bytes (malformed f) h k = malformed_message bytes f h k

-- a text without a message ends in one way
pub ending_unique : (bytes : List ℕ) (e d : Ending) → EndsAs bytes e → EndsAs bytes d → e ≡ d
ending_unique bytes ended ended h k = refl
ending_unique bytes ended (cut n) h k = absurd (blank_cut h k.0)
ending_unique bytes ended (malformed f) h k = absurd (blank_malformed bytes f h k)
ending_unique bytes (cut n) ended h k = absurd (blank_cut k h.0)
ending_unique bytes (cut n) (cut m) h k = ap cut (h.1 ∙ sym k.1)
ending_unique bytes (cut n) (malformed f) h k = absurd (cut_malformed bytes f h.0 k)
ending_unique bytes (malformed f) ended h k = absurd (blank_malformed bytes f k h)
ending_unique bytes (malformed f) (cut n) h k = absurd (cut_malformed bytes f k.0 h)
ending_unique bytes (malformed f) (malformed g) h k = ap malformed (malformed_unique bytes f g h k)

-- a text has one list of messages and one ending
pub splits_unique : (text : List ℕ) (ms ns : List Request) (e d : Ending) → Splits text ms e → Splits text ns d → (ms ≡ ns) × (e ≡ d)
splits_unique text [] [] e d h k =
    (refl, ending_unique text e d (subst (λ r. EndsAs r e) h.begins h.ends) (subst (λ r. EndsAs r d) k.begins k.ends))
splits_unique text [] (n ∷ ns) e d h k =
    absurd (ending_message text e (subst (λ r. EndsAs r e) h.begins h.ends) k.begins.1)
splits_unique text (m ∷ ms) [] e d h k =
    absurd (ending_message text d (subst (λ r. EndsAs r d) k.begins k.ends) h.begins.1)
splits_unique text (m ∷ ms) (n ∷ ns) e d h k =
    let one = message_unique h.begins.1 k.begins.1 in
    let first : Splits h.begins.0 ms e = record { rest = h.rest; begins = h.begins.2; ends = h.ends } in
    let second : Splits k.begins.0 ns d = record { rest = k.rest; begins = k.begins.2; ends = k.ends } in
    let later = splits_unique h.begins.0 ms ns e d first (subst (λ t. Splits t ns d) (sym one.1) second) in
    (ap₂ (λ x xs. x ∷ xs) one.0 later.0, later.1)

-- ---- messages one after the other

pub Begins-append : (bytes middle rest : List ℕ) (ms ns : List Request) → Begins bytes ms middle → Begins middle ns rest → Begins bytes (ms ++ ns) rest
Begins-append bytes middle rest [] ns first second = subst (λ b. Begins b ns rest) first second
Begins-append bytes middle rest (m ∷ ms) ns first second =
    (first.0, first.1, Begins-append first.0 middle rest ms ns first.2 second)

pub Begins-more : (bytes rest more : List ℕ) (ms : List Request) → Begins bytes ms rest → Begins (bytes ++ more) ms (rest ++ more)
Begins-more bytes rest more [] h = ap (λ b. b ++ more) h
Begins-more bytes rest more (m ∷ ms) h = (h.0 ++ more, IsMessage-append more h.1, Begins-more h.0 rest more ms h.2)
