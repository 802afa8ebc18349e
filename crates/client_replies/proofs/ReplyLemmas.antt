-- Replies are told apart, and more or fewer bytes change nothing of them.
use Rattle.std.proofs.Common.{◌≡◌, ℕ, ◌+◌, ◌-◌, ◌<◌, ◌≤◌, ◌⊎◌, inl, inr, List, [], ◌++◌, length, take, drop, Option, Some, None, refl, sym, ap, ap₂, ◌∙◌, subst, arith, append-nil, append_assoc, length-append, length-take, take-append-drop, Bool, true, false, cond, ◌==◌, ◌&&◌, nat_le, codes, map, option_and_then}
use Rattle.std.proofs.lemmas.List.{take-append-le, take_all}
use Rattle.std.proofs.lemmas.Bool.{cases_lt}
use Rattle.httparse.specs.Grammar.{ResponseHead, print_response, status_code, ReadsResponse, HasNoResponse, NeverHasResponse}
use Rattle.httparse.proofs.GrammarLemmas.{response_unique, response_prefix_free}
use Rattle.http_heads.proofs.LengthLemmas.{take-append}
use Rattle.std.proofs.lemmas.Bool.Decides.{nat_tests}
use Rattle.std.specs.Str.Parse.{digits_value}
use Rattle.httparse.specs.Spans.{name_and_value}
use Rattle.http_heads.specs.Fields.{is_length, some_named, values_of}
use Rattle.http_heads.specs.Upgrades.{only}
use Rattle.client_replies.specs.Limits.{max_head, max_body}
use Rattle.client_replies.specs.Fields.{length_in, body_length, framed}
use Rattle.client_replies.specs.Forms.{Told, answer_in}
use Rattle.client_replies.specs.Replies.{HasHead, IsReply, IsOpenHead, IsOpenBody, HasBegun, IsNoHead, IsTooLong, IsUnframed, IsNoAnswer, IsMalformed}
use Rattle.client_replies.proofs.HeadLemmas.{HasHead-append, IsUnframed-append}

same_value : {X : Type 0} {x y : X} → Some x ≡ Some y → x ≡ y
same_value e = cc

not_both : {X : Type 0} {o : Option X} {x : X} → o ≡ None → o ≡ Some x → ⊥
not_both none some = let e = sym none ∙ some in cc

-- ---- one head, with one rest

same_head : {bytes r q : List ℕ} {h k : ResponseHead} → HasHead bytes h r → HasHead bytes k q → (h ≡ k) × (r ≡ q)
same_head {bytes} {r} {q} {h} {k} a b = response_unique bytes h k r q a.reads b.reads

same_body : {h k : ResponseHead} {m n : ℕ} → h ≡ k → framed h ≡ Some m → framed k ≡ Some n → m ≡ n
same_body e a b = same_value (sym a ∙ ap framed e ∙ b)

-- the first bytes have the head too, where it fits in them
HasHead-front : {bytes rest : List ℕ} {head : ResponseHead} (n : ℕ) → HasHead bytes head rest → length (print_response head) ≤ n
    → HasHead (take n bytes) head (take (n - length (print_response head)) rest)
HasHead-front {bytes} {rest} {head} n h fits = record {
  reads = (h.reads.0, ap (take n) h.reads.1 ∙ take-append n (print_response head) rest fits);
  short = h.short;
}

-- ---- what excludes a head

no_head : {bytes rest : List ℕ} {head : ResponseHead} → IsNoHead bytes → HasHead bytes head rest → ⊥
no_head {bytes} {rest} {head} never h =
    never (drop max_head bytes) head rest
    (subst (λ l. ReadsResponse l head rest) (sym (take-append-drop max_head bytes)) h.reads)

too_long : {bytes rest : List ℕ} {head : ResponseHead} → IsTooLong bytes → HasHead bytes head rest → ⊥
too_long {bytes} {rest} {head} long h =
    long.none head (take (max_head - length (print_response head)) rest) (HasHead-front max_head h h.short).reads

unframed : {bytes rest : List ℕ} {head : ResponseHead} {body : ℕ} → IsUnframed bytes → HasHead bytes head rest → framed head ≡ Some body → ⊥
unframed bad h frame = not_both (ap framed (sym (same_head bad.has h).0) ∙ bad.frame) frame

-- ---- one reading

pub one_reply : {bytes : List ℕ} {t u : Told} {m n : ℕ} → IsReply bytes t m → IsReply bytes u n → (t ≡ u) × (m ≡ n)
one_reply a b =
    let same = same_head a.has b.has in
    let body = same_body same.0 a.frame b.frame in
    let answer = ap₂ answer_in (ap status_code same.0) (ap₂ take body same.1) in (
      same_value (sym a.answer ∙ answer ∙ b.answer),
      a.len_is ∙ ap₂ (λ x y. x + y) (ap (λ h. length (print_response h)) same.0) body ∙ sym b.len_is,
    )

open_body_reply : {bytes : List ℕ} {t : Told} {n : ℕ} → IsOpenBody bytes → IsReply bytes t n → ⊥
open_body_reply a b =
    let same = same_head a.has b.has in
    omega (arith, same_body same.0 a.frame b.frame, ap length same.1, a.short, b.whole)

pub begun_reply : {bytes : List ℕ} {t : Told} {n : ℕ} → HasBegun bytes → IsReply bytes t n → ⊥
begun_reply (inl head) reply = head.none reply.head reply.rest reply.has.reads
begun_reply (inr body) reply = open_body_reply body reply

no_answer_reply : {bytes : List ℕ} {t : Told} {n : ℕ} → IsNoAnswer bytes → IsReply bytes t n → ⊥
no_answer_reply a b =
    let same = same_head a.has b.has in
    let body = same_body same.0 a.frame b.frame in
    let answer = ap₂ answer_in (ap status_code same.0) (ap₂ take body same.1) in not_both (sym answer ∙ a.answer) b.answer

pub malformed_reply : {bytes : List ℕ} {t : Told} {n : ℕ} → IsMalformed bytes → IsReply bytes t n → ⊥
malformed_reply (inl never) reply = no_head never reply.has
malformed_reply (inr (inl long)) reply = too_long long reply.has
malformed_reply (inr (inr (inl bad))) reply = unframed bad reply.has reply.frame
malformed_reply (inr (inr (inr bad))) reply = no_answer_reply bad reply

open_head_malformed : {bytes : List ℕ} → IsOpenHead bytes → IsMalformed bytes → ⊥
open_head_malformed {bytes} head (inl never) =
    let all : take max_head bytes ≡ bytes = take_all max_head bytes (omega (arith, head.short)) in
    subst NeverHasResponse all never head.may.0 head.may.1 [] head.may.2
open_head_malformed head (inr (inl long)) = omega (arith, head.short, long.long)
open_head_malformed head (inr (inr (inl bad))) = head.none bad.head bad.rest bad.has.reads
open_head_malformed head (inr (inr (inr bad))) = head.none bad.head bad.rest bad.has.reads

open_body_malformed : {bytes : List ℕ} → IsOpenBody bytes → IsMalformed bytes → ⊥
open_body_malformed body (inl never) = no_head never body.has
open_body_malformed body (inr (inl long)) = too_long long body.has
open_body_malformed body (inr (inr (inl bad))) = unframed bad body.has body.frame
open_body_malformed body (inr (inr (inr bad))) =
    let same = same_head body.has bad.has in
    omega (arith, same_body same.0 body.frame bad.frame, ap length same.1, body.short, bad.whole)

pub begun_malformed : {bytes : List ℕ} → HasBegun bytes → IsMalformed bytes → ⊥
begun_malformed (inl head) bad = open_head_malformed head bad
begun_malformed (inr body) bad = open_body_malformed body bad

-- ---- more bytes

pub IsReply-append : {bytes : List ℕ} {t : Told} {n : ℕ} (more : List ℕ) → IsReply bytes t n → IsReply (bytes ++ more) t n
IsReply-append more r = record {
  head = r.head;
  rest = r.rest ++ more;
  body = r.body;
  has = HasHead-append more r.has;
  frame = r.frame;
  whole = omega (arith, r.whole, length-append r.rest more);
  answer = ap (answer_in (status_code r.head)) (take-append-le r.body r.rest more r.whole) ∙ r.answer;
  len_is = r.len_is;
}

NeverHas-append : (bytes more : List ℕ) → NeverHasResponse bytes → NeverHasResponse (bytes ++ more)
NeverHas-append bytes more never = λ others. subst HasNoResponse (sym (append_assoc bytes more others)) (never (more ++ others))

IsNoHead-append : (bytes more : List ℕ) → IsNoHead bytes → IsNoHead (bytes ++ more)
IsNoHead-append bytes more never = by_length (cases_lt max_head (length bytes))
  where
    by_length : (max_head < length bytes) ⊎ (length bytes ≤ max_head) → NeverHasResponse (take max_head (bytes ++ more))
    by_length (inl long) = subst NeverHasResponse (sym (take-append-le max_head bytes more (omega arith))) never
    by_length (inr short) =
        subst NeverHasResponse (sym (take-append max_head bytes more short))
        (NeverHas-append bytes (take (max_head - length bytes) more) (subst NeverHasResponse (take_all max_head bytes short) never))

pub IsMalformed-append : (bytes more : List ℕ) → IsMalformed bytes → IsMalformed (bytes ++ more)
IsMalformed-append bytes more (inl never) = inl (IsNoHead-append bytes more never)
IsMalformed-append bytes more (inr (inl long)) =
    inr (inl (record {
      none = subst HasNoResponse (sym (take-append-le max_head bytes more long.long)) long.none;
      long = omega (arith, long.long, length-append bytes more);
    }))
IsMalformed-append bytes more (inr (inr (inl bad))) = inr (inr (inl (IsUnframed-append more bad)))
IsMalformed-append bytes more (inr (inr (inr bad))) =
    inr (inr (inr (record {
      head = bad.head;
      rest = bad.rest ++ more;
      body = bad.body;
      has = HasHead-append more bad.has;
      frame = bad.frame;
      whole = omega (arith, bad.whole, length-append bad.rest more);
      answer = ap (answer_in (status_code bad.head)) (take-append-le bad.body bad.rest more bad.whole) ∙ bad.answer;
    })))

-- ---- fewer bytes

-- a part of a head is no head
part_of_head : {bytes rest : List ℕ} {head : ResponseHead} (n : ℕ) → HasHead bytes head rest → n < length (print_response head)
    → HasNoResponse (take n bytes)
part_of_head {bytes} {rest} {head} n h part = λ other tail reads.
    let whole = subst (λ l. ReadsResponse l head rest) (sym (take-append-drop n bytes)) h.reads in
    let same = response_prefix_free (take n bytes) (drop n bytes) other head tail rest reads whole in
    omega (arith, ap length reads.1, ap (λ k. length (print_response k)) same.0, length-append (print_response other) tail, length-take n bytes, part)

part_of_front : {bytes rest : List ℕ} {head : ResponseHead} (n : ℕ) → HasHead bytes head rest → n < length (print_response head)
    → IsOpenHead (take n bytes)
part_of_front {bytes} {rest} {head} n h part = record {
  none = part_of_head n h part;
  may = (
    drop n (print_response head),
    head,
    (
      h.reads.0,
      ap (λ l. l ++ drop n (print_response head)) (ap (take n) h.reads.1 ∙ take-append-le n (print_response head) rest (omega (arith, part)))
          ∙ take-append-drop n (print_response head) ∙ sym (append-nil (print_response head)),
    ),
  );
  short = omega (arith, length-take n bytes, part, h.short);
}

pub part_of_reply : {bytes : List ℕ} {t : Told} {len : ℕ} (n : ℕ) → IsReply bytes t len → n < len → HasBegun (take n bytes)
part_of_reply {bytes} {t} {len} n r part = by_length (cases_lt n (length (print_response r.head)))
  where
    by_length : (n < length (print_response r.head)) ⊎ (length (print_response r.head) ≤ n) → HasBegun (take n bytes)
    by_length (inl front) = inl (part_of_front n r.has front)
    by_length (inr whole) =
        inr (record {
          head = r.head;
          rest = take (n - length (print_response r.head)) r.rest;
          body = r.body;
          has = HasHead-front n r.has whole;
          frame = r.frame;
          short = omega (arith, length-take (n - length (print_response r.head)) r.rest, part, r.len_is, whole);
        })

-- ---- how many bytes a reply has that has begun

length_in_small : (text : List ℕ) (n : ℕ) → length_in text ≡ Some n → n ≤ max_body
unfolding length_in
length_in_small text n e = at (is_length text) (nat_le (digits_value 10 text) max_body) refl e
  where
    at : (a b : Bool) → nat_le (digits_value 10 text) max_body ≡ b
        → cond (a && b) (Some (digits_value 10 text)) None ≡ Some n → n ≤ max_body
    at true true small is = grind (arith, nat_tests, same_value is)
    at true false small is = cc
    at false b small is = cc

body_small : (fields : List (List ℕ × List ℕ)) (n : ℕ) → body_length fields ≡ Some n → n ≤ max_body
unfolding body_length
body_small fields n e = at (some_named (codes "transfer-encoding") fields) (only (values_of (codes "content-length") fields)) e
  where
    at : (b : Bool) (o : Option (List ℕ)) → cond b None (option_and_then length_in o) ≡ Some n → n ≤ max_body
    at true o is = cc
    at false None is = cc
    at false (Some text) is = length_in_small text n is

framed_small : (head : ResponseHead) (n : ℕ) → framed head ≡ Some n → n ≤ max_body
unfolding framed
framed_small head n e = at (head.minor == 1) e
  where
    at : (b : Bool) → cond b (body_length (map name_and_value head.fields)) None ≡ Some n → n ≤ max_body
    at true is = body_small (map name_and_value head.fields) n is
    at false is = cc

pub begun_short : {bytes : List ℕ} → HasBegun bytes → length bytes < max_head + max_body
begun_short (inl head) = omega (arith, head.short)
begun_short (inr body) =
    omega (arith, body.short, body.has.short, framed_small body.head body.body body.frame, ap length body.has.reads.1, length-append (print_response body.head) body.rest)

-- a whole reply is no longer than the bytes
pub reply_within : {bytes : List ℕ} {t : Told} {n : ℕ} → IsReply bytes t n → n ≤ length bytes
reply_within r = omega (arith, r.len_is, r.whole, ap length r.has.reads.1, length-append (print_response r.head) r.rest)
